-- `walk::walk::resolve_upward` meets its contract. The invariant: what is left from e upward gives what the whole pass gives.
-- Assumes nothing.
use Rattle.walk.proofs.Laws.Pass.{Passing}
use Rattle.walk.proofs.walk.resolve_upward.Given as goal

abbrev pub invariant-loop-e : goal.invariant-loop-e
invariant-loop-e l = Passing l.table.rows.now l.table.refs.now l.initial.marks l.e-end l.marks l.e
