-- `flat::read::read_whole` meets its contract. The invariant is `Reading`: what is left of the specs gives what all of them give, from
-- a layout that the buffer holds. Each answer is a law of the sweep over the string (datalayout/proofs/Laws/Sweep.antt).
-- Assumes nothing.
use Prim.Native.Nat.{◌-◌}
use lib.ListN.{length}
use Rattle.flat.proofs.Laws.Reading.{Reading}
use Rattle.flat.proofs.read.read_whole.Given as goal

abbrev pub invariant-loop-out : goal.invariant-loop-out
invariant-loop-out l = Reading l.value (length l.initial.out) l.out l.at

abbrev pub decreases-loop-out : goal.decreases-loop-out
decreases-loop-out l = length l.value - l.at
