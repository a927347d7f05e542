-- Every layout that a run of specs leaves is `Sound`: the default one is, and no spec changes that.
-- Assumes nothing.
use mathlib.Core.Path.{refl}
use mathlib.Core.List.{List, [], ◌∷◌}
use Prim.Native.Nat.{ℕ, ◌+◌, ◌≤◌}
use native.Mathlib.Omega.{arith}
use lib.ListN.{length, take}
use Rattle.std.proofs.Common.{Option, Some, None, Result, Ok, Err}
use Rattle.laws.proofs.Conds.{by-test}
use Rattle.layout.specs.declared.numbers.Numbers.{Numbers}
use Rattle.layout.specs.declared.pointers.PointerAlignSpec.{PointerAlignSpec}
use Rattle.layout.specs.declared.record.DataLayout.{DataLayout}
use Rattle.layout.specs.declared.record.Listed.TheVariants.{NativeIntegerWidths, NonIntegralAddressSpaces}
use Rattle.layout.specs.declared.record.Memory.TheVariants.{Program, GlobalVariable, Alloca}
use Rattle.layout.specs.declared.types.TypeAlignSpec.{TypeAlignSpec}
use Rattle.layout.specs.declared.types.TypeAlignSpecs.{TypeAlignSpecs}
use Rattle.layout.specs.declared.pointers.PointerAlignSpecs.{PointerAlignSpecs}
use Rattle.layout.specs.declared.record.Listed.{Listed}
use Rattle.layout.specs.declared.record.Memory.{Memory}
use Rattle.layout.specs.Record.{with_endianness, with_stack, with_space, with_types}
use Rattle.layout.specs.Record.{with_pointers, with_function_pointer, with_mangling, with_numbers}
use Rattle.layout.specs.Defaults.{default_types, default_pointers, default_layout}
use Rattle.layout.specs.Numbers.{max_numbers}
use Rattle.layout.specs.Pointers.{max_pointer_rows, same_space, updated_pointers}
use Rattle.layout.specs.Rows.{fits}
use Rattle.layout.specs.Types.{max_type_rows, same_type, updated_types}
use Rattle.spec.specs.declared.spec.Spec.{Spec}
use Rattle.spec.specs.declared.spec.Spec.TheVariants.{Endianness, Stack, Space, Typed}
use Rattle.spec.specs.declared.spec.Spec.TheVariants.{Pointer, FunctionPointer, Mangled, Numbered}
use Rattle.spec.specs.Specs.{spec_in}
use Rattle.fields.specs.declared.numbers.Fault.{Fault}
use Rattle.datalayout.specs.declared.map.Mapped.{Mapped}
use Rattle.datalayout.specs.Apply.{types_put, pointers_put, spec_applied, applied}
use Rattle.datalayout.specs.Promises.{StackAligned, FunctionAligned, TypeAligned, PointerAligned}
use Rattle.datalayout.specs.Promises.{PowerOfTwo, SoundRows, Sound, after}
use Rattle.datalayout.specs.Strings.{onward, specs_from}
use Rattle.datalayout.proofs.Laws.Rows.{same_type-keyed, same_space-keyed, SoundRows-placed, distinct-of-test}
use Rattle.datalayout.proofs.Laws.Specs.{SpecSound, ReadSound, spec_in-sound}

default-types : SoundRows same_type TypeAligned max_type_rows default_types.count default_types.rows
default-types =
    record {
      room_length = refl;
      within = omega arith;
      aligned = (
        (refl, refl),
        (
          (refl, refl),
          (
            (refl, refl),
            (
              (refl, refl),
              (
                (refl, refl),
                (
                  (refl, refl),
                  ((refl, refl), ((refl, refl), ((refl, refl), ((refl, refl), ((refl, refl), ((refl, refl), tt)))))),
                ),
              ),
            ),
          ),
        ),
      );
      distinct = distinct-of-test same_type (take default_types.count default_types.rows) tt;
    }

default-pointers : SoundRows same_space PointerAligned max_pointer_rows default_pointers.count default_pointers.rows
default-pointers = record { room_length = refl; within = omega arith; aligned = ((refl, refl), tt); distinct = (tt, tt) }

pub default-sound : Sound default_layout
default-sound =
    record {
      stack = tt;
      types = default-types;
      pointers = default-pointers;
      aggregate = refl;
      function = tt;
      widths = omega arith;
      spaces = omega arith;
    }

-- rows that were updated are sound, whether there was room or not
abbrev TypesSound : TypeAlignSpecs → Type 0
TypesSound specs = SoundRows same_type TypeAligned max_type_rows specs.count specs.rows

abbrev PointersSound : PointerAlignSpecs → Type 0
PointersSound specs = SoundRows same_space PointerAligned max_pointer_rows specs.count specs.rows

abbrev OfSome : {A : Type 0} → (A → Type 0) → Option A → Type 0
OfSome P (Some x) = P x
OfSome P None = Unit {0}

updated_types-sound : (specs : TypeAlignSpecs) (row : TypeAlignSpec) → TypesSound specs → TypeAligned row
    → OfSome TypesSound (updated_types specs row)
unfolding updated_types
updated_types-sound specs row s h =
    by-test (OfSome TypesSound) (fits same_type row specs.count specs.rows max_type_rows) _ _
    (λ fit. SoundRows-placed same_type row TypeAligned max_type_rows specs.count specs.rows same_type-keyed h s fit)
    (λ full. tt)

updated_pointers-sound : (specs : PointerAlignSpecs) (row : PointerAlignSpec) → PointersSound specs → PointerAligned row
    → OfSome PointersSound (updated_pointers specs row)
unfolding updated_pointers
updated_pointers-sound specs row s h =
    by-test (OfSome PointersSound) (fits same_space row specs.count specs.rows max_pointer_rows) _ _
    (λ fit. SoundRows-placed same_space row PointerAligned max_pointer_rows specs.count specs.rows same_space-keyed h s fit)
    (λ full. tt)

-- a layout by its parts, of which a spec changes one
sound-of : (l : DataLayout) → StackAligned l.natural_stack_alignment → TypesSound l.type_alignments
    → PointersSound l.pointer_alignments
    → PowerOfTwo l.aggregate_alignment → FunctionAligned l.function_pointer_alignment
    → l.native_integer_widths.count ≤ max_numbers → l.non_integral_address_spaces.count ≤ max_numbers → Sound l
sound-of l stack types pointers aggregate function widths spaces =
    record {
      stack = stack;
      types = types;
      pointers = pointers;
      aggregate = aggregate;
      function = function;
      widths = widths;
      spaces = spaces;
    }

module _ (l : DataLayout) (s : Sound l) where
  types-sound : (u : Option TypeAlignSpecs) → OfSome TypesSound u → Sound (types_put l u).layout
  types-sound (Some types) h = sound-of (with_types l types) s.stack h s.pointers s.aggregate s.function s.widths s.spaces
  types-sound None h = s

  pointers-sound : (u : Option PointerAlignSpecs) → OfSome PointersSound u → Sound (pointers_put l u).layout
  pointers-sound (Some pointers) h = sound-of (with_pointers l pointers) s.stack s.types h s.aggregate s.function s.widths s.spaces
  pointers-sound None h = s

  space-sound : (memory : Memory) (space : ℕ) → Sound (with_space l memory space)
  space-sound Program space =
      sound-of (with_space l Program space) s.stack s.types s.pointers s.aggregate s.function s.widths s.spaces
  space-sound GlobalVariable space =
      sound-of (with_space l GlobalVariable space) s.stack s.types s.pointers s.aggregate s.function s.widths s.spaces
  space-sound Alloca space =
      sound-of (with_space l Alloca space) s.stack s.types s.pointers s.aggregate s.function s.widths s.spaces

  numbers-sound : (listed : Listed) (numbers : Numbers) → numbers.count ≤ max_numbers → Sound (with_numbers l listed numbers)
  numbers-sound NativeIntegerWidths numbers h =
      sound-of (with_numbers l NativeIntegerWidths numbers) s.stack s.types s.pointers s.aggregate s.function h s.spaces
  numbers-sound NonIntegralAddressSpaces numbers h =
      sound-of (with_numbers l NonIntegralAddressSpaces numbers) s.stack s.types s.pointers s.aggregate s.function
      s.widths h

  spec-sound : (said : Spec) → SpecSound said → Sound (spec_applied l said).layout
  spec-sound (Endianness endian) h =
      sound-of (with_endianness l endian) s.stack s.types s.pointers s.aggregate s.function s.widths s.spaces
  spec-sound (Stack align) h =
      sound-of (with_stack l (Some align)) h s.types s.pointers s.aggregate s.function s.widths s.spaces
  spec-sound (Space memory space) h = space-sound memory space
  spec-sound (Typed row) h =
      types-sound (updated_types l.type_alignments row) (updated_types-sound l.type_alignments row s.types h)
  spec-sound (Pointer row) h =
      pointers-sound (updated_pointers l.pointer_alignments row) (updated_pointers-sound l.pointer_alignments row s.pointers h)
  spec-sound (FunctionPointer align) h =
      sound-of (with_function_pointer l (Some align)) s.stack s.types s.pointers s.aggregate h s.widths s.spaces
  spec-sound (Mangled mangling) h =
      sound-of (with_mangling l (Some mangling)) s.stack s.types s.pointers s.aggregate s.function s.widths s.spaces
  spec-sound (Numbered listed numbers) h = numbers-sound listed numbers h

  read-sound : (read : Result Spec Fault) → ReadSound read → Sound (applied l read).layout
  unfolding applied
  read-sound (Ok said) h = spec-sound said h
  read-sound (Err fault) h = s

  pub after-sound : (spec : List ℕ) → Sound (after l spec).layout
  after-sound spec = read-sound (spec_in spec) (spec_in-sound spec)

pub specs_from-sound : (specs : List (List ℕ)) (l : DataLayout) (place : ℕ) → Sound l → Sound (specs_from l place specs).layout
unfolding specs_from
specs_from-sound [] l place s = s
specs_from-sound (spec ∷ specs) l place s =
    go (specs_from (after l spec).layout (place + length spec + 1) specs) (after l spec).outcome
    (specs_from-sound specs (after l spec).layout (place + length spec + 1) (after-sound l s spec))
  where
    go : (rest : Mapped) (o : Result (Unit {0}) Fault) → Sound rest.layout → Sound (onward o place rest).layout
    go rest (Ok done) h = h
    go rest (Err fault) h = default-sound
