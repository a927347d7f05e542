-- Document 01, "Layout string": "Defaults (LangRef): big endian, `p:64:64:64`, i1:8, i8:8, i16:16, i32:32, i64:32:64, f16:16,
-- f32:32, f64:64, f128:128, v64:64, v128:128, then aggregate ABI 8, preferred 64. The separate `aggregate_alignment` field stays
-- 8 bits, as in the Rust." What it does not list is unspecified, 0 or empty (LangRef).
--     default_layout     the layout before any spec, and with every refusal
-- Assumes nothing.
use Rattle.std.specs.Prelude.{◌∷◌, ℕ, ◌-◌, None, replicate}
use Rattle.units.specs.declared.align.Align.{Align}
use Rattle.layout.specs.declared.types.AlignedType.{AlignedType}
use Rattle.layout.specs.declared.types.AlignedType.TheVariants.{Integer, Vector, Float, Aggregate}
use Rattle.layout.specs.declared.types.TypeAlignSpec.{TypeAlignSpec}
use Rattle.layout.specs.declared.types.TypeAlignSpecs.{TypeAlignSpecs}
use Rattle.layout.specs.declared.pointers.PointerAlignSpec.{PointerAlignSpec}
use Rattle.layout.specs.declared.pointers.PointerAlignSpecs.{PointerAlignSpecs}
use Rattle.layout.specs.declared.record.DataLayout.{DataLayout}
use Rattle.layout.specs.declared.record.Endian.TheVariants.{Big}
use Rattle.layout.specs.Numbers.{no_numbers}
use Rattle.layout.specs.Pointers.{max_pointer_rows}
use Rattle.layout.specs.Types.{max_type_rows}

-- `ALIGN8` to `ALIGN128`: an alignment of 8 times 2 to the shift bits
abbrev pub align8 : Align
align8 = record { 0 = 0 }

abbrev pub align16 : Align
align16 = record { 0 = 1 }

abbrev pub align32 : Align
align32 = record { 0 = 2 }

abbrev pub align64 : Align
align64 = record { 0 = 3 }

abbrev pub align128 : Align
align128 = record { 0 = 4 }

abbrev pub type_row : AlignedType → ℕ → Align → Align → TypeAlignSpec
type_row kind width abi preferred =
    record { aligned_type = kind; width = width; abi_alignment = abi; preferred_alignment = preferred }

abbrev pub pointer_row : ℕ → ℕ → Align → Align → ℕ → PointerAlignSpec
pointer_row space size abi preferred index =
    record {
      address_space = space;
      pointer_size = size;
      abi_alignment = abi;
      preferred_alignment = preferred;
      index_size = index;
    }

abbrev pub default_types : TypeAlignSpecs
default_types =
    record {
      rows =
          type_row Integer 1 align8 align8
          ∷ type_row Integer 8 align8 align8
          ∷ type_row Integer 16 align16 align16
          ∷ type_row Integer 32 align32 align32
          ∷ type_row Integer 64 align32 align64
          ∷ type_row Float 16 align16 align16
          ∷ type_row Float 32 align32 align32
          ∷ type_row Float 64 align64 align64
          ∷ type_row Float 128 align128 align128
          ∷ type_row Vector 64 align64 align64
          ∷ type_row Vector 128 align128 align128
          ∷ type_row Aggregate 0 align8 align64
          ∷ replicate (max_type_rows - 12) (type_row Integer 0 align8 align8);
      count = 12;
    }

-- "`p:64:64:64`"
abbrev pub default_pointers : PointerAlignSpecs
default_pointers =
    record { rows = pointer_row 0 64 align64 align64 64 ∷ replicate (max_pointer_rows - 1) (pointer_row 0 0 align8 align8 0); count = 1 }

abbrev pub default_layout : DataLayout
default_layout =
    record {
      endianness = Big;
      natural_stack_alignment = None;
      program_address_space = 0;
      global_variable_address_space = 0;
      alloca_address_space = 0;
      type_alignments = default_types;
      pointer_alignments = default_pointers;
      aggregate_alignment = align8;
      function_pointer_alignment = None;
      mangling = None;
      native_integer_widths = no_numbers;
      non_integral_address_spaces = no_numbers;
    }
