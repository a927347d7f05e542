-- Document 01, "Layout string": what a spec does to the layout. "31 exactly if one more is needed, after the spec's other tests":
-- those are passed where a spec says a row.
--     applied layout read     the layout with what a spec says, or its fault
-- Assumes nothing.
use Rattle.std.specs.Prelude.{Option, Some, None, Result, Ok, Err}
use Rattle.layout.specs.declared.pointers.PointerAlignSpec.{PointerAlignSpec}
use Rattle.layout.specs.declared.pointers.PointerAlignSpecs.{PointerAlignSpecs}
use Rattle.layout.specs.declared.record.DataLayout.{DataLayout}
use Rattle.layout.specs.declared.types.TypeAlignSpec.{TypeAlignSpec}
use Rattle.layout.specs.declared.types.TypeAlignSpecs.{TypeAlignSpecs}
use Rattle.layout.specs.Pointers.{updated_pointers}
use Rattle.layout.specs.Record.{with_endianness, with_stack, with_space, with_types}
use Rattle.layout.specs.Record.{with_pointers, with_function_pointer, with_mangling, with_numbers}
use Rattle.layout.specs.Types.{updated_types}
use Rattle.fields.specs.declared.numbers.Fault.{Fault}
use Rattle.fields.specs.declared.numbers.Fault.TheVariants.{ListFull}
use Rattle.spec.specs.declared.spec.Spec.{Spec}
use Rattle.spec.specs.declared.spec.Spec.TheVariants.{Endianness, Stack, Space, Typed}
use Rattle.spec.specs.declared.spec.Spec.TheVariants.{Pointer, FunctionPointer, Mangled, Numbered}
use Rattle.datalayout.specs.declared.apply.Applied.{Applied}

abbrev pub done_with : DataLayout → Applied
done_with layout = record { outcome = Ok tt; layout = layout }

abbrev pub refused_by : Fault → DataLayout → Applied
refused_by fault layout = record { outcome = Err fault; layout = layout }

abbrev pub types_put : DataLayout → Option TypeAlignSpecs → Applied
types_put layout (Some types) = done_with (with_types layout types)
types_put layout None = refused_by ListFull layout

abbrev pub type_applied : DataLayout → TypeAlignSpec → Applied
type_applied layout row = types_put layout (updated_types layout.type_alignments row)

abbrev pub pointers_put : DataLayout → Option PointerAlignSpecs → Applied
pointers_put layout (Some pointers) = done_with (with_pointers layout pointers)
pointers_put layout None = refused_by ListFull layout

abbrev pub pointer_applied : DataLayout → PointerAlignSpec → Applied
pointer_applied layout row = pointers_put layout (updated_pointers layout.pointer_alignments row)

abbrev pub spec_applied : DataLayout → Spec → Applied
spec_applied layout (Endianness endian) = done_with (with_endianness layout endian)
spec_applied layout (Stack align) = done_with (with_stack layout (Some align))
spec_applied layout (Space memory space) = done_with (with_space layout memory space)
spec_applied layout (Typed row) = type_applied layout row
spec_applied layout (Pointer row) = pointer_applied layout row
spec_applied layout (FunctionPointer align) = done_with (with_function_pointer layout (Some align))
spec_applied layout (Mangled mangling) = done_with (with_mangling layout (Some mangling))
spec_applied layout (Numbered listed numbers) = done_with (with_numbers layout listed numbers)

unfoldable pub applied : DataLayout → Result Spec Fault → Applied
applied layout (Ok said) = spec_applied layout said
applied layout (Err fault) = refused_by fault layout
