-- `table::row::put_row` meets its contract. With room for a row it is stored whole.
-- Assumes nothing.
use Rattle.std.proofs.Common.{refl, sym}
use Rattle.table.specs.Rows.{words_of}
use Rattle.table.proofs.Laws.Buffers.{over-fits}
use Rattle.table.proofs.row.put_row.Goals as goal

pub returns-in-Some : goal.returns-in-Some
returns-in-Some c =
    rw c.words_of.ensures (sym (over-fits (words_of c.args.row) c.args.rest.now (c.in-Some.ensures.variant.0 refl)))
