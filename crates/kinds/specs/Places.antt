-- Document 01, "Allowed kinds": its table, a line for each place.
--     NotAllowed          a cell of the column "Not allowed": these kinds, or all but these
--     allowed place k     kind k may stand in a place with that cell
-- Assumes nothing.
use Rattle.std.specs.Prelude.{Bool, not, List, [], ◌∷◌, ◌++◌, ℕ}
use Rattle.laws.specs.Numbers.{listed}
use Rattle.kinds.specs.Kinds.{half, b_float, float, double, x86_fp80, fp128, ppc_fp128, void, label, metadata, x86_amx, token}
use Rattle.kinds.specs.Kinds.{integer, function, pointer, scalable_vector}

pub data NotAllowed : Type 0 where
  these : List ℕ → NotAllowed
  all_but : List ℕ → NotAllowed

abbrev pub allowed : NotAllowed → ℕ → Bool
allowed (these kinds) k = not (listed kinds k)
allowed (all_but kinds) k = listed kinds k

abbrev five_pointee : List ℕ
five_pointee = void ∷ label ∷ metadata ∷ token ∷ x86_amx ∷ []

-- "pointee | Void, Label, Metadata, Token, X86Amx"
abbrev pub pointee : NotAllowed
pointee = these five_pointee

-- "array element | those five, Function, ScalableVector"
abbrev pub array_element : NotAllowed
array_element = these (five_pointee ++ function ∷ scalable_vector ∷ [])

-- "struct field | Void, Label, Metadata, Function, Token"
abbrev pub struct_element : NotAllowed
struct_element = these (void ∷ label ∷ metadata ∷ function ∷ token ∷ [])

-- "vector element | all but kinds 0 to 6, Integer, Pointer"
abbrev pub vector_element : NotAllowed
vector_element = all_but (half ∷ b_float ∷ float ∷ double ∷ x86_fp80 ∷ fp128 ∷ ppc_fp128 ∷ integer ∷ pointer ∷ [])

-- "return | Function, Label, Metadata"
abbrev pub returned : NotAllowed
returned = these (function ∷ label ∷ metadata ∷ [])

-- "parameter | Function, Void"
abbrev pub argument : NotAllowed
argument = these (function ∷ void ∷ [])
