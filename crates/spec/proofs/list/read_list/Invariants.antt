-- `spec::list::read_list` meets its contract. The invariant: behind the numbers that stand, what is left of the parts gives what the
-- whole gives.
-- Assumes nothing.
use mathlib.Core.Path.{◌≡◌}
use lib.ListN.{length}
use Rattle.std.specs.Prelude.{option_copied}
use Rattle.layout.specs.Numbers.{no_numbers}
use Rattle.fields.specs.Parts.{colon, parts_of, parts_left}
use Rattle.spec.specs.Lists.{numbers_from}
use Rattle.spec.proofs.list.read_list.Given as goal

abbrev pub invariant-loop-left : goal.invariant-loop-left
invariant-loop-left l =
    numbers_from l.listed no_numbers (parts_of colon l.body) ≡ numbers_from l.listed l.numbers (parts_left colon (option_copied l.left))

abbrev pub decreases-loop-left : goal.decreases-loop-left
decreases-loop-left l = length (parts_left colon (option_copied l.left))
