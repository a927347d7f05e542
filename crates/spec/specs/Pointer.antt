-- Document 01, "Layout string": "`p`: split at `:` after the letter; under three parts 27; space if present 24, 26; size 24; ABI 27
-- for its integer, then 25; preferred 24, 25; index 24. Preferred defaults to ABI, index to size. Parts past five ignored; no other
-- test."
--     pointer_in parts     the pointer row that the parts behind the letter say
-- Assumes nothing.
use Rattle.std.specs.Prelude.{List, [], ◌∷◌, ℕ, Result, Ok, Err}
use Rattle.units.specs.declared.align.Align.{Align}
use Rattle.layout.specs.declared.pointers.PointerAlignSpec.{PointerAlignSpec}
use Rattle.layout.specs.Defaults.{pointer_row}
use Rattle.fields.specs.declared.numbers.Fault.{Fault}
use Rattle.fields.specs.declared.numbers.Fault.TheVariants.{BadSpecParse, BadPointerAbi}
use Rattle.fields.specs.Fields.{size_in, pointer_space_in, align_as, align_in}
use Rattle.spec.specs.Edition.{pointer_last}

-- "ABI 27 for its integer, then 25"
abbrev pub pointer_abi_of : Result ℕ Fault → Result Align Fault
pointer_abi_of (Ok bits) = align_as bits
pointer_abi_of (Err fault) = Err BadPointerAbi

abbrev pub pointer_abi_in : List ℕ → Result Align Fault
pointer_abi_in abi = pointer_abi_of (size_in abi)

-- the row with a space, a size and an ABI: "Preferred defaults to ABI, index to size."
abbrev pub pointer_row_of : Result ℕ Fault → Result ℕ Fault → Result Align Fault → Result PointerAlignSpec Fault
pointer_row_of (Ok space) (Ok size) (Ok abi) = Ok (pointer_row space size abi abi size)
pointer_row_of (Ok space) (Ok size) (Err fault) = Err fault
pointer_row_of (Ok space) (Err fault) abi = Err fault
pointer_row_of (Err fault) size abi = Err fault

abbrev pub pointer_row_in : List ℕ → List ℕ → List ℕ → Result PointerAlignSpec Fault
pointer_row_in space size abi = pointer_row_of (pointer_space_in space) (size_in size) (pointer_abi_in abi)

-- "preferred 24, 25"
abbrev pub preferred_of : PointerAlignSpec → Result Align Fault → Result PointerAlignSpec Fault
preferred_of row (Ok preferred) =
    Ok (pointer_row row.address_space row.pointer_size row.abi_alignment preferred row.index_size)
preferred_of row (Err fault) = Err fault

abbrev pub pointer_preferred : Result PointerAlignSpec Fault → List ℕ → Result PointerAlignSpec Fault
pointer_preferred (Ok row) preferred = preferred_of row (align_in preferred)
pointer_preferred (Err fault) preferred = Err fault

-- "index 24"
abbrev pub index_of : PointerAlignSpec → Result ℕ Fault → Result PointerAlignSpec Fault
index_of row (Ok index) =
    Ok (pointer_row row.address_space row.pointer_size row.abi_alignment row.preferred_alignment index)
index_of row (Err fault) = Err fault

abbrev pub pointer_index : Result PointerAlignSpec Fault → List ℕ → Result PointerAlignSpec Fault
pointer_index (Ok row) index = index_of row (size_in index)
pointer_index (Err fault) index = Err fault

-- what stands behind the ABI: "Parts past five ignored"
unfoldable pub pointer_rest : Result PointerAlignSpec Fault → List (List ℕ) → Result PointerAlignSpec Fault
pointer_rest row [] = row
pointer_rest row (preferred ∷ []) = pointer_preferred row preferred
pointer_rest row (preferred ∷ index ∷ more) = pointer_index (pointer_preferred row preferred) index

-- "under three parts 27"
unfoldable pub pointer_in : List (List ℕ) → Result PointerAlignSpec Fault
pointer_in [] = Err BadSpecParse
pointer_in (space ∷ []) = Err BadSpecParse
pointer_in (space ∷ size ∷ []) = Err BadSpecParse
pointer_in (space ∷ size ∷ abi ∷ more) = pointer_last (pointer_rest (pointer_row_in space size abi) more)
