-- `walk::marks::settle` meets its contract. The invariant: the ranks lie over the first marks.
-- Assumes nothing.
use Rattle.std.proofs.Common.{◌≡◌, map, ◌++◌, take, drop}
use Rattle.walk.specs.Marks.{ranked}
use Rattle.walk.proofs.marks.settle.Given as goal

abbrev pub invariant-loop-mark : goal.invariant-loop-mark
invariant-loop-mark l = l.marks ≡ map ranked (take l.mark-index l.initial.marks) ++ drop l.mark-index l.initial.marks
