-- Document 01, "Layout string": the numbers of a spec, each a part with its tests in the order given.
--     size_in, space_in, width_in, ..     a part as such a number
--     align_as bits, align_in part       an alignment
-- Assumes nothing.
use Rattle.std.specs.Prelude.{Bool, not, cond, List, [], ◌∷◌, ℕ, eqb, Option, Some, None, Result, Ok, Err}
use Rattle.units.specs.declared.align.Align.{Align}
use Rattle.units.specs.Align.{alignment, bits_in_byte}
use Rattle.units.specs.Decimal.{decimal, u32_most, u64_most}
use Rattle.units.specs.Limits.{is_address_space, is_type_width}
use Rattle.layout.specs.declared.types.AlignedType.{AlignedType}
use Rattle.layout.specs.declared.types.AlignedType.TheVariants.{Integer, Vector, Float, Aggregate}
use Rattle.fields.specs.declared.numbers.Fault.{Fault}
use Rattle.fields.specs.declared.numbers.Fault.TheVariants.{BadInt, BadAlign, BadAddressSpace, BadSpecParse, BadTypeWidth}

-- "24 bad integer". 2026-05 adds where it went wrong
abbrev pub integer : Option ℕ → Result ℕ Fault
integer (Some n) = Ok n
integer None = Err BadInt

-- a number that passes a test, else a fault
abbrev pub tested : (ℕ → Bool) → Fault → Result ℕ Fault → Result ℕ Fault
tested test fault (Ok n) = cond (test n) (Ok n) (Err fault)
tested test fault (Err earlier) = Err earlier

-- "u64 for sizes and alignments"
abbrev pub size_in : List ℕ → Result ℕ Fault
size_in part = integer (decimal u64_most part)

-- "u32 for spaces and widths": "26 space too large"
abbrev pub space_in : List ℕ → Result ℕ Fault
space_in part = tested is_address_space BadAddressSpace (integer (decimal u32_most part))

-- "space if present"
abbrev pub pointer_space_in : List ℕ → Result ℕ Fault
pointer_space_in [] = Ok 0
pointer_space_in (byte ∷ bytes) = space_in (byte ∷ bytes)

-- "28 type width not in 1 to 8,388,607"
abbrev pub type_width_in : List ℕ → Result ℕ Fault
type_width_in part = tested is_type_width BadTypeWidth (integer (decimal u32_most part))

-- "`a` has none, kept as 0: anything there is 27"
abbrev pub no_width_in : List ℕ → Result ℕ Fault
no_width_in [] = Ok 0
no_width_in (byte ∷ bytes) = Err BadSpecParse

abbrev pub width_in : AlignedType → List ℕ → Result ℕ Fault
width_in Integer part = type_width_in part
width_in Vector part = type_width_in part
width_in Float part = type_width_in part
width_in Aggregate part = no_width_in part

-- "`n`: u32 parts, 24"
abbrev pub native_in : List ℕ → Result ℕ Fault
native_in part = integer (decimal u32_most part)

-- "each part 24, 26, then 27 for space 0"
abbrev pub non_integral_in : List ℕ → Result ℕ Fault
non_integral_in part = tested (λ space. not (eqb space 0)) BadSpecParse (space_in part)

-- "25 bad alignment"
abbrev pub alignment? : Option Align → Result Align Fault
alignment? (Some align) = Ok align
alignment? None = Err BadAlign

-- "An alignment in bits is 8 times a power of two; 0 is refused."
abbrev pub align_as : ℕ → Result Align Fault
align_as bits = alignment? (alignment bits_in_byte bits)

abbrev pub align_from : Result ℕ Fault → Result Align Fault
align_from (Ok bits) = align_as bits
align_from (Err fault) = Err fault

abbrev pub align_in : List ℕ → Result Align Fault
align_in part = align_from (size_in part)
