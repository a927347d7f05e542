-- Document 01, "Layout string": "`i v f a`: split likewise; two or three parts, else 27; width 24, 28 (`a` has none, kept as 0:
-- anything there is 27); ABI 24, 25, 29; preferred 24, 25, 30, default ABI."
--     type_in kind parts     the type row that the parts behind the letter say
-- Assumes nothing.
use Rattle.std.specs.Prelude.{cond, List, [], ◌∷◌, ℕ, ltb, Result, Ok, Err}
use Rattle.units.specs.declared.align.Align.{Align}
use Rattle.units.specs.Align.{size_of, bits_in_byte}
use Rattle.layout.specs.declared.types.AlignedType.{AlignedType}
use Rattle.layout.specs.declared.types.TypeAlignSpec.{TypeAlignSpec}
use Rattle.layout.specs.Defaults.{type_row}
use Rattle.fields.specs.declared.numbers.Fault.{Fault}
use Rattle.fields.specs.declared.numbers.Fault.TheVariants.{BadSpecParse, AbiAlignTooLarge, AlignPref}
use Rattle.fields.specs.Fields.{size_in, width_in, align_as, align_in}
use Rattle.spec.specs.Edition.{abi_bits}

-- how many bits an alignment is
abbrev pub bits_of : Align → ℕ
bits_of align = size_of bits_in_byte align.0

-- "29 ABI alignment above 32,768 bits (our limit)"
abbrev pub max_abi_bits : ℕ
max_abi_bits = 32768

abbrev pub abi_within : Result Align Fault → Result Align Fault
abi_within (Ok abi) = cond (ltb max_abi_bits (bits_of abi)) (Err AbiAlignTooLarge) (Ok abi)
abi_within (Err fault) = Err fault

-- "ABI 24, 25, 29"
abbrev pub type_abi_of : AlignedType → Result ℕ Fault → Result Align Fault
type_abi_of kind (Ok bits) = abi_within (align_as (abi_bits kind bits))
type_abi_of kind (Err fault) = Err fault

abbrev pub type_abi_in : AlignedType → List ℕ → Result Align Fault
type_abi_in kind abi = type_abi_of kind (size_in abi)

-- the row with a width and an ABI, "preferred .. default ABI"
abbrev pub type_row_of : AlignedType → Result ℕ Fault → Result Align Fault → Result TypeAlignSpec Fault
type_row_of kind (Ok width) (Ok abi) = Ok (type_row kind width abi abi)
type_row_of kind (Ok width) (Err fault) = Err fault
type_row_of kind (Err fault) abi = Err fault

abbrev pub type_row_in : AlignedType → List ℕ → List ℕ → Result TypeAlignSpec Fault
type_row_in kind width abi = type_row_of kind (width_in kind width) (type_abi_in kind abi)

-- "preferred 24, 25, 30": "30 preferred below ABI"
abbrev pub preferred_of : TypeAlignSpec → Result Align Fault → Result TypeAlignSpec Fault
preferred_of row (Ok preferred) =
    cond (ltb (bits_of preferred) (bits_of row.abi_alignment))
    (Err AlignPref)
    (Ok (type_row row.aligned_type row.width row.abi_alignment preferred))
preferred_of row (Err fault) = Err fault

abbrev pub type_preferred : Result TypeAlignSpec Fault → List ℕ → Result TypeAlignSpec Fault
type_preferred (Ok row) preferred = preferred_of row (align_in preferred)
type_preferred (Err fault) preferred = Err fault

-- "two or three parts, else 27"
unfoldable pub type_in : AlignedType → List (List ℕ) → Result TypeAlignSpec Fault
type_in kind [] = Err BadSpecParse
type_in kind (width ∷ []) = Err BadSpecParse
type_in kind (width ∷ abi ∷ []) = type_row_in kind width abi
type_in kind (width ∷ abi ∷ preferred ∷ []) = type_preferred (type_row_in kind width abi) preferred
type_in kind (width ∷ abi ∷ preferred ∷ fourth ∷ more) = Err BadSpecParse
