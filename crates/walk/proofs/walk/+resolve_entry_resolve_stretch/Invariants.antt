-- "The count of entries still unstarted, then references left, falls": the first from call to call, the second in the loop.
-- Assumes nothing.
use Rattle.std.proofs.Common.{◌+◌, ◌*◌}
use Rattle.ranks.specs.Walk.{unstarted}
use Rattle.walk.proofs.Laws.Walking.{Walking}
use Rattle.walk.proofs.walk.+resolve_entry_resolve_stretch.Given as goal

abbrev pub decreases-resolve_entry : goal.decreases-resolve_entry
decreases-resolve_entry l = unstarted l.marks.now * 2

abbrev pub decreases-resolve_stretch : goal.decreases-resolve_stretch
decreases-resolve_stretch l = unstarted l.marks.now * 2 + 1

abbrev pub invariant-resolve_stretch-loop-to : goal.invariant-resolve_stretch-loop-to
invariant-resolve_stretch-loop-to l = Walking l.table.rows.now l.table.refs.now l.fn.marks l.depth l.e l.stretch l.marks l.best.0 l.to-index
