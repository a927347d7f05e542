-- Document 01, "Layout string": the type rows.
--     rank_of kind                 the kind as a number, in the order of 2026-09
--     same_type new row            "the same kind and width"
--     updated_types specs new      the rows with a new one, and none where they are full
-- Assumes nothing.
use Rattle.std.specs.Prelude.{Bool, ◌&&◌, cond, ℕ, Option, Some, None, eqb}
use Rattle.layout.specs.declared.types.AlignedType.{AlignedType}
use Rattle.layout.specs.declared.types.AlignedType.TheVariants.{Integer, Vector, Float, Aggregate}
use Rattle.layout.specs.declared.types.TypeAlignSpec.{TypeAlignSpec}
use Rattle.layout.specs.declared.types.TypeAlignSpecs.{TypeAlignSpecs}
use Rattle.layout.specs.Rows.{rows_after, count_after, fits}

abbrev pub rank_of : AlignedType → ℕ
rank_of Integer = 0
rank_of Vector = 1
rank_of Float = 2
rank_of Aggregate = 3

abbrev pub same_type : TypeAlignSpec → TypeAlignSpec → Bool
same_type new row = eqb (rank_of new.aligned_type) (rank_of row.aligned_type) && eqb new.width row.width

-- "At most 64 type rows"
abbrev pub max_type_rows : ℕ
max_type_rows = 64

unfoldable pub updated_types : TypeAlignSpecs → TypeAlignSpec → Option TypeAlignSpecs
updated_types specs new =
    cond (fits same_type new specs.count specs.rows max_type_rows)
    (Some (record {
      rows = rows_after same_type new specs.count specs.rows;
      count = count_after same_type new specs.count specs.rows;
    }))
    None
