-- Document 01, "Resolution": which references are walked and bound a rank.
--     counted from to    a reference of an entry with the row from to one with the row to
-- Assumes nothing.
use Rattle.std.specs.Prelude.{Bool, true}
use Rattle.table.specs.declared.row.Row.{Row}

-- "one more than the largest rank it refers to": every reference counts (2026-06 exempts some)
unfoldable pub counted : Row → Row → Bool
counted from to = true
