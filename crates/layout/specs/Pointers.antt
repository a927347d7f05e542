-- Document 01, "Layout string": the pointer rows.
--     same_space new row             the same space
--     updated_pointers specs new     the rows with a new one, and none where they are full
-- Assumes nothing.
use Rattle.std.specs.Prelude.{Bool, cond, ℕ, Option, Some, None, eqb}
use Rattle.layout.specs.declared.pointers.PointerAlignSpec.{PointerAlignSpec}
use Rattle.layout.specs.declared.pointers.PointerAlignSpecs.{PointerAlignSpecs}
use Rattle.layout.specs.Rows.{rows_after, count_after, fits}

abbrev pub same_space : PointerAlignSpec → PointerAlignSpec → Bool
same_space new row = eqb new.address_space row.address_space

-- "32 pointer rows"
abbrev pub max_pointer_rows : ℕ
max_pointer_rows = 32

unfoldable pub updated_pointers : PointerAlignSpecs → PointerAlignSpec → Option PointerAlignSpecs
updated_pointers specs new =
    cond (fits same_space new specs.count specs.rows max_pointer_rows)
    (Some (record {
      rows = rows_after same_space new specs.count specs.rows;
      count = count_after same_space new specs.count specs.rows;
    }))
    None
