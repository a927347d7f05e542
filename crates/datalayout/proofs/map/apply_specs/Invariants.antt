-- `datalayout::map::apply_specs` meets its contract. The invariant is `Going`: before the spec all is ASCII, and from the layout that stands
-- what is left of the specs gives what all of them give. Each answer is one law of Laws/Sweep.antt.
-- Assumes nothing.
use Prim.Native.Nat.{◌-◌}
use lib.ListN.{length}
use Rattle.datalayout.proofs.Laws.Sweep.{Going}
use Rattle.datalayout.proofs.map.apply_specs.Given as goal

abbrev pub invariant-loop-layout : goal.invariant-loop-layout
invariant-loop-layout l = Going l.value l.layout l.at

abbrev pub decreases-loop-layout : goal.decreases-loop-layout
decreases-loop-layout l = length l.value - l.at
