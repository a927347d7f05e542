-- What every spec that is read keeps to: its alignments are 8 times a power of two, and its list is within the limit. A predicate for
-- each result, `tt` where the result is a refusal, and a law for each reader. Assumes nothing.
use mathlib.Core.Path.{◌≡◌, refl}
use mathlib.Core.List.{List, [], ◌∷◌}
use Prim.Native.Nat.{ℕ, ◌*◌, ◌^◌, ◌<◌}
use native.Mathlib.Omega.{arith}
use lib.Dec.{ltb}
use borrow.Author.Tests.{lt-ltb}
use Rattle.laws.proofs.Conds.{by_cond}
use Rattle.std.specs.Prelude.{Option, Some, None, Result, Ok, Err}
use Rattle.units.specs.declared.align.Align.{Align}
use Rattle.units.specs.Align.{bits_in_byte, shift_below}
use Rattle.units.specs.Decimal.{decimal, u64_most}
use Rattle.units.proofs.Laws.Align.{eq-of-alignment}
use Rattle.units.proofs.Laws.Decimal.{Within, decimal-within}
use Rattle.layout.specs.declared.pointers.PointerAlignSpec.{PointerAlignSpec}
use Rattle.layout.specs.declared.types.AlignedType.{AlignedType}
use Rattle.layout.specs.declared.types.TypeAlignSpec.{TypeAlignSpec}
use Rattle.layout.specs.Defaults.{type_row}
use Rattle.fields.specs.declared.numbers.Fault.{Fault}
use Rattle.fields.specs.declared.numbers.Fault.TheVariants.{AbiAlignTooLarge, AlignPref}
use Rattle.fields.specs.Fields.{integer, size_in, pointer_space_in, width_in, alignment?, align_as, align_from, align_in}
use Rattle.spec.specs.Pointer.{pointer_abi_of, pointer_abi_in, pointer_row_of, pointer_row_in, preferred_of as pointer_preferred_of}
use Rattle.spec.specs.Pointer.{pointer_preferred, index_of, pointer_index, pointer_rest, pointer_in}
use Rattle.spec.specs.Typed.{bits_of, max_abi_bits, abi_within, type_abi_of, type_abi_in}
use Rattle.spec.specs.Typed.{type_row_of, type_row_in, preferred_of, type_preferred, type_in}
use Rattle.datalayout.specs.Promises.{PowerOfTwo, TypeAligned, PointerAligned}

-- a number that fits a word, and an alignment
abbrev pub Fits : Result ℕ Fault → Type 0
Fits (Ok n) = n < 2 ^ 64
Fits (Err fault) = Unit {0}

abbrev pub AlignSound : Result Align Fault → Type 0
AlignSound (Ok align) = PowerOfTwo align
AlignSound (Err fault) = Unit {0}

size_in-fits : (s : List ℕ) → Fits (size_in s)
size_in-fits s = go (decimal u64_most s) (decimal-within u64_most s)
  where
    go : (d : Option ℕ) → Within u64_most d → Fits (integer d)
    go (Some n) h = omega arith
    go None h = tt

align_as-sound : (bits : ℕ) → bits < 2 ^ 64 → AlignSound (align_as bits)
align_as-sound bits lt = go (shift_below 64 bits_in_byte bits) refl
  where
    go : (r : Option Align) → shift_below 64 bits_in_byte bits ≡ r → AlignSound (alignment? r)
    go (Some align) e =
        let is = (eq-of-alignment 64 bits_in_byte bits align.0 e).1 in
        let held : bits_in_byte * 2 ^ align.0 < 2 ^ 64 = rw is at lt in
        rw (lt-ltb (bits_in_byte * 2 ^ align.0) (2 ^ 64) held)
    go None e = tt

align_from-sound : (n : Result ℕ Fault) → Fits n → AlignSound (align_from n)
align_from-sound (Ok bits) h = align_as-sound bits h
align_from-sound (Err fault) h = tt

pub align_in-sound : (s : List ℕ) → AlignSound (align_in s)
align_in-sound s = align_from-sound (size_in s) (size_in-fits s)

-- type rows
abbrev pub TypeSound : Result TypeAlignSpec Fault → Type 0
TypeSound (Ok row) = TypeAligned row
TypeSound (Err fault) = Unit {0}

abi_within-sound : (abi : Result Align Fault) → AlignSound abi → AlignSound (abi_within abi)
abi_within-sound (Ok abi) h = by_cond AlignSound (ltb max_abi_bits (bits_of abi)) (Err AbiAlignTooLarge) (Ok abi) tt h
abi_within-sound (Err fault) h = tt

type_abi_of-sound : (kind : AlignedType) (n : Result ℕ Fault) → Fits n → AlignSound (type_abi_of kind n)
type_abi_of-sound kind (Ok bits) h = abi_within-sound (align_as bits) (align_as-sound bits h)
type_abi_of-sound kind (Err fault) h = tt

type_row_of-sound : (kind : AlignedType) (width : Result ℕ Fault) (abi : Result Align Fault) → AlignSound abi → TypeSound (type_row_of kind width abi)
type_row_of-sound kind (Ok width) (Ok abi) h = (h, h)
type_row_of-sound kind (Ok width) (Err fault) h = tt
type_row_of-sound kind (Err fault) abi h = tt

type_row_in-sound : (kind : AlignedType) (width abi : List ℕ) → TypeSound (type_row_in kind width abi)
type_row_in-sound kind width abi =
    type_row_of-sound kind (width_in kind width) (type_abi_in kind abi) (type_abi_of-sound kind (size_in abi) (size_in-fits abi))

preferred_of-sound : (row : TypeAlignSpec) (preferred : Result Align Fault) → TypeAligned row → AlignSound preferred
    → TypeSound (preferred_of row preferred)
preferred_of-sound row (Ok preferred) h k =
    by_cond TypeSound (ltb (bits_of preferred) (bits_of row.abi_alignment)) (Err AlignPref)
    (Ok (type_row row.aligned_type row.width row.abi_alignment preferred)) tt (h.0, k)
preferred_of-sound row (Err fault) h k = tt

type_preferred-sound : (row : Result TypeAlignSpec Fault) (preferred : List ℕ) → TypeSound row → TypeSound (type_preferred row preferred)
type_preferred-sound (Ok row) preferred h = preferred_of-sound row (align_in preferred) h (align_in-sound preferred)
type_preferred-sound (Err fault) preferred h = tt

pub type_in-sound : (kind : AlignedType) (parts : List (List ℕ)) → TypeSound (type_in kind parts)
unfolding type_in
type_in-sound kind [] = tt
type_in-sound kind (width ∷ []) = tt
type_in-sound kind (width ∷ abi ∷ []) = type_row_in-sound kind width abi
type_in-sound kind (width ∷ abi ∷ preferred ∷ []) =
    type_preferred-sound (type_row_in kind width abi) preferred (type_row_in-sound kind width abi)
type_in-sound kind (width ∷ abi ∷ preferred ∷ fourth ∷ more) = tt

-- pointer rows
abbrev pub PointerSound : Result PointerAlignSpec Fault → Type 0
PointerSound (Ok row) = PointerAligned row
PointerSound (Err fault) = Unit {0}

pointer_abi_of-sound : (n : Result ℕ Fault) → Fits n → AlignSound (pointer_abi_of n)
pointer_abi_of-sound (Ok bits) h = align_as-sound bits h
pointer_abi_of-sound (Err fault) h = tt

pointer_row_of-sound : (space size : Result ℕ Fault) (abi : Result Align Fault) → AlignSound abi → PointerSound (pointer_row_of space size abi)
pointer_row_of-sound (Ok space) (Ok size) (Ok abi) h = (h, h)
pointer_row_of-sound (Ok space) (Ok size) (Err fault) h = tt
pointer_row_of-sound (Ok space) (Err fault) abi h = tt
pointer_row_of-sound (Err fault) size abi h = tt

preferred-sound : (row : Result PointerAlignSpec Fault) (preferred : List ℕ) → PointerSound row → PointerSound (pointer_preferred row preferred)
preferred-sound (Ok row) preferred h = go (align_in preferred) (align_in-sound preferred)
  where
    go : (align : Result Align Fault) → AlignSound align → PointerSound (pointer_preferred_of row align)
    go (Ok align) k = (h.0, k)
    go (Err fault) k = tt
preferred-sound (Err fault) preferred h = tt

index-sound : (row : Result PointerAlignSpec Fault) (index : List ℕ) → PointerSound row → PointerSound (pointer_index row index)
index-sound (Ok row) index h = go (size_in index)
  where
    go : (n : Result ℕ Fault) → PointerSound (index_of row n)
    go (Ok n) = h
    go (Err fault) = tt
index-sound (Err fault) index h = tt

rest-sound : (row : Result PointerAlignSpec Fault) (parts : List (List ℕ)) → PointerSound row → PointerSound (pointer_rest row parts)
unfolding pointer_rest
rest-sound row [] h = h
rest-sound row (preferred ∷ []) h = preferred-sound row preferred h
rest-sound row (preferred ∷ index ∷ more) h = index-sound (pointer_preferred row preferred) index (preferred-sound row preferred h)

pub pointer_in-sound : (parts : List (List ℕ)) → PointerSound (pointer_in parts)
unfolding pointer_in
pointer_in-sound [] = tt
pointer_in-sound (space ∷ []) = tt
pointer_in-sound (space ∷ size ∷ []) = tt
pointer_in-sound (space ∷ size ∷ abi ∷ more) =
    rest-sound (pointer_row_in space size abi) more
    (pointer_row_of-sound (pointer_space_in space) (size_in size) (pointer_abi_in abi) (pointer_abi_of-sound (size_in abi) (size_in-fits abi)))
