-- Document 01, "Layout string": "specs in order; later ones override". What each spec changes: one field of the record.
--     with_endianness layout new, ..     the layout with that field new, and every other as it was. In each the fields stand in the
--                                       record's order, a letter for each, and `_` is the one that `new` takes the place of
-- Assumes nothing.
use Rattle.std.specs.Prelude.{ℕ, Option}
use Rattle.units.specs.declared.align.Align.{Align}
use Rattle.layout.specs.declared.numbers.Numbers.{Numbers}
use Rattle.layout.specs.declared.types.TypeAlignSpecs.{TypeAlignSpecs}
use Rattle.layout.specs.declared.pointers.PointerAlignSpecs.{PointerAlignSpecs}
use Rattle.layout.specs.declared.record.Endian.{Endian}
use Rattle.layout.specs.declared.record.FunctionPointerAlign.{FunctionPointerAlign}
use Rattle.layout.specs.declared.record.Mangling.{Mangling}
use Rattle.layout.specs.declared.record.Memory.{Memory}
use Rattle.layout.specs.declared.record.Memory.TheVariants.{Program, GlobalVariable, Alloca}
use Rattle.layout.specs.declared.record.Listed.{Listed}
use Rattle.layout.specs.declared.record.Listed.TheVariants.{NativeIntegerWidths, NonIntegralAddressSpaces}
use Rattle.layout.specs.declared.record.DataLayout.{DataLayout}

-- a layout from its fields, and its fields in the same order
abbrev made : Endian → Option Align → ℕ → ℕ → ℕ → TypeAlignSpecs → PointerAlignSpecs → Align
    → Option FunctionPointerAlign → Option Mangling → Numbers → Numbers → DataLayout
made endian stack program global alloca types pointers aggregate function mangling widths spaces =
    record {
      endianness = endian;
      natural_stack_alignment = stack;
      program_address_space = program;
      global_variable_address_space = global;
      alloca_address_space = alloca;
      type_alignments = types;
      pointer_alignments = pointers;
      aggregate_alignment = aggregate;
      function_pointer_alignment = function;
      mangling = mangling;
      native_integer_widths = widths;
      non_integral_address_spaces = spaces;
    }

abbrev apart : DataLayout
    → (Endian → Option Align → ℕ → ℕ → ℕ → TypeAlignSpecs → PointerAlignSpecs → Align
    → Option FunctionPointerAlign → Option Mangling → Numbers → Numbers → DataLayout)
    → DataLayout
apart l f =
    f l.endianness l.natural_stack_alignment
    l.program_address_space l.global_variable_address_space l.alloca_address_space
    l.type_alignments l.pointer_alignments l.aggregate_alignment
    l.function_pointer_alignment l.mangling
    l.native_integer_widths l.non_integral_address_spaces

abbrev pub with_endianness : DataLayout → Endian → DataLayout
with_endianness l new = apart l (λ _ s p g a t q d f m n i. made new s p g a t q d f m n i)

abbrev pub with_stack : DataLayout → Option Align → DataLayout
with_stack l new = apart l (λ e _ p g a t q d f m n i. made e new p g a t q d f m n i)

abbrev pub with_space : DataLayout → Memory → ℕ → DataLayout
with_space l Program new = apart l (λ e s _ g a t q d f m n i. made e s new g a t q d f m n i)
with_space l GlobalVariable new = apart l (λ e s p _ a t q d f m n i. made e s p new a t q d f m n i)
with_space l Alloca new = apart l (λ e s p g _ t q d f m n i. made e s p g new t q d f m n i)

abbrev pub with_types : DataLayout → TypeAlignSpecs → DataLayout
with_types l new = apart l (λ e s p g a _ q d f m n i. made e s p g a new q d f m n i)

abbrev pub with_pointers : DataLayout → PointerAlignSpecs → DataLayout
with_pointers l new = apart l (λ e s p g a t _ d f m n i. made e s p g a t new d f m n i)

abbrev pub with_function_pointer : DataLayout → Option FunctionPointerAlign → DataLayout
with_function_pointer l new = apart l (λ e s p g a t q d _ m n i. made e s p g a t q d new m n i)

abbrev pub with_mangling : DataLayout → Option Mangling → DataLayout
with_mangling l new = apart l (λ e s p g a t q d f _ n i. made e s p g a t q d f new n i)

abbrev pub with_numbers : DataLayout → Listed → Numbers → DataLayout
with_numbers l NativeIntegerWidths new = apart l (λ e s p g a t q d f m _ i. made e s p g a t q d f m new i)
with_numbers l NonIntegralAddressSpaces new = apart l (λ e s p g a t q d f m n _. made e s p g a t q d f m n new)
