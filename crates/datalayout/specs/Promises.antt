-- What the definition `mapped` of specs/Strings.antt keeps to, in words of its own, so that a wrong definition would show.
-- proofs/Promises.antt proves each for every string.
--     Passes layout specs last     the specs, applied in turn from a layout, all pass and leave `last`
--     Accepted s layout            "specs in order; later ones override"
--     RefusedAt s fault place      the first spec that breaks a rule, and where it stands
--     NotAsciiAt s place           "21 first, place its first such byte"
--     Sound layout                 alignments, keys and counts of every layout that is handed back
-- Assumes nothing.
use Rattle.std.specs.Prelude.{◌≡◌, Bool, false, Option, Some, None, Ok, Err, List, [], ◌∷◌, ◌++◌, ℕ, ◌+◌, ◌*◌, ◌^◌, ◌≤◌, ◌<◌, length, get_or, take, drop}
use Rattle.units.specs.declared.align.Align.{Align}
use Rattle.units.specs.Align.{bits_in_byte}
use Rattle.layout.specs.declared.pointers.PointerAlignSpec.{PointerAlignSpec}
use Rattle.layout.specs.declared.record.DataLayout.{DataLayout}
use Rattle.layout.specs.declared.record.FunctionPointerAlign.{FunctionPointerAlign}
use Rattle.layout.specs.declared.record.FunctionPointerAlign.TheVariants.{Independent, MultipleOfFunctionAlign}
use Rattle.layout.specs.declared.types.TypeAlignSpec.{TypeAlignSpec}
use Rattle.layout.specs.Defaults.{default_layout}
use Rattle.layout.specs.Numbers.{max_numbers}
use Rattle.layout.specs.Pointers.{max_pointer_rows, same_space}
use Rattle.layout.specs.Types.{max_type_rows, same_type}
use Rattle.fields.specs.declared.numbers.Fault.{Fault}
use Rattle.fields.specs.Parts.{dash, parts_of}
use Rattle.spec.specs.Specs.{spec_in}
use Rattle.spec.specs.Typed.{bits_of}
use Rattle.datalayout.specs.declared.apply.Applied.{Applied}
use Rattle.datalayout.specs.Apply.{applied}

-- parts with a separator between each two, and how many bytes stand before the one behind them
abbrev pub joined : ℕ → List (List ℕ) → List ℕ
joined b [] = []
joined b (part ∷ []) = part
joined b (part ∷ next ∷ parts) = part ++ b ∷ joined b (next ∷ parts)

abbrev pub offset : List (List ℕ) → ℕ
offset [] = 0
offset (part ∷ parts) = length part + 1 + offset parts

-- a spec, applied
abbrev pub after : DataLayout → List ℕ → Applied
after layout spec = applied layout (spec_in spec)

abbrev pub Passes : DataLayout → List (List ℕ) → DataLayout → Type 0
Passes layout [] last = last ≡ layout
Passes layout (spec ∷ specs) last = ((after layout spec).outcome ≡ Ok tt) × Passes (after layout spec).layout specs last

-- every byte is ASCII, and the layout is that of all specs in turn
pub record Accepted (s : List ℕ) (layout : DataLayout) : Type 0 where
  pub ascii : (i : ℕ) → i < length s → get_or s i 0 < 128
  pub passes : Passes default_layout (parts_of dash s) layout

-- the specs before pass, this one breaks a rule, and it stands at the place
pub record RefusedAt (s : List ℕ) (fault : Fault) (place : ℕ) : Type 0 where
  pub earlier : List (List ℕ)
  pub spec : List ℕ
  pub later : List (List ℕ)
  pub layout : DataLayout
  pub split : parts_of dash s ≡ earlier ++ spec ∷ later
  pub passes : Passes default_layout earlier layout
  pub breaks : (after layout spec).outcome ≡ Err fault
  pub at_offset : place ≡ offset earlier
  pub stands : take (length spec) (drop place s) ≡ spec

pub record NotAsciiAt (s : List ℕ) (place : ℕ) : Type 0 where
  pub inside : place < length s
  pub not_ascii : 128 ≤ get_or s place 0
  pub first : (i : ℕ) → i < place → get_or s i 0 < 128

-- "An alignment in bits is 8 times a power of two": what `bit_align` answers
abbrev pub PowerOfTwo : Align → Type 0
PowerOfTwo align = bits_of align ≡ bits_in_byte * 2 ^ align.0

abbrev pub StackAligned : Option Align → Type 0
StackAligned None = Unit {0}
StackAligned (Some align) = PowerOfTwo align

abbrev pub FunctionAligned : Option FunctionPointerAlign → Type 0
FunctionAligned None = Unit {0}
FunctionAligned (Some (Independent align)) = PowerOfTwo align
FunctionAligned (Some (MultipleOfFunctionAlign align)) = PowerOfTwo align

abbrev pub TypeAligned : TypeAlignSpec → Type 0
TypeAligned row = PowerOfTwo row.abi_alignment × PowerOfTwo row.preferred_alignment

abbrev pub PointerAligned : PointerAlignSpec → Type 0
PointerAligned row = PowerOfTwo row.abi_alignment × PowerOfTwo row.preferred_alignment

-- P of each row; and no two rows have the same key
abbrev pub Each : {A : Type 0} → (A → Type 0) → List A → Type 0
Each P [] = Unit {0}
Each P (row ∷ rows) = P row × Each P rows

abbrev pub Distinct : {A : Type 0} → (A → A → Bool) → List A → Type 0
Distinct same [] = Unit {0}
Distinct same (row ∷ rows) = Each (λ other. same other row ≡ false) rows × Distinct same rows

-- rows of a room that holds `limit`
pub record SoundRows {A : Type 0} (same : A → A → Bool) (P : A → Type 0) (limit count : ℕ) (room : List A) : Type 0 where
  pub room_length : length room ≡ limit
  pub within : count ≤ limit
  pub aligned : Each P (take count room)
  pub distinct : Distinct same (take count room)

pub record Sound (l : DataLayout) : Type 0 where
  pub stack : StackAligned l.natural_stack_alignment
  pub types : SoundRows same_type TypeAligned max_type_rows l.type_alignments.count l.type_alignments.rows
  pub pointers : SoundRows same_space PointerAligned max_pointer_rows l.pointer_alignments.count l.pointer_alignments.rows
  pub aggregate : PowerOfTwo l.aggregate_alignment
  pub function : FunctionAligned l.function_pointer_alignment
  pub widths : l.native_integer_widths.count ≤ max_numbers
  pub spaces : l.non_integral_address_spaces.count ≤ max_numbers
