-- `walk::marks::settle` meets its contract.
-- Assumes nothing.
use Rattle.std.proofs.Common.{arith}
use Rattle.std.proofs.lemmas.List.{get_or_default}
use Rattle.std.proofs.lemmas.List.Edits.{map_over_more}
use Rattle.walk.specs.Marks.{ranked}
use Rattle.walk.proofs.marks.settle.Goals as goal

pub loop-mark-preserved : goal.loop-mark-preserved
loop-mark-preserved c =
    let within = c.loop-mark-test.true in
    rw c.saturating_sub.ensures
    (map_over_more ranked c.args.marks.now c.loop-mark.marks c.loop-mark.mark-index _ within c.loop-mark.invariant
    (get_or_default c.loop-mark.marks c.loop-mark.mark-index 0 _ (omega arith)))
