-- `checker::check::Table::are_entries` meets its contract. The invariant: what is left of the rows answers what all of them answer, and
-- the stretches passed lie in their buffers.
-- Assumes nothing.
use Rattle.std.proofs.Common.{length}
use Rattle.checker.proofs.Laws.Checked.{Checking}
use Rattle.checker.proofs.check.Table.are_entries.Given as goal

abbrev pub invariant-loop-e : goal.invariant-loop-e
invariant-loop-e l =
    let s = l.self in Checking s.rows.now s.refs.now (length s.names.now) s.ranks.now s.count l.e l.refs l.bytes
