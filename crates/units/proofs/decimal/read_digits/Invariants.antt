-- `units::decimal::read_digits` meets its contract. The invariant: behind the value that stands, what is left of the part gives
-- what the whole gives. Assumes nothing.
use mathlib.Core.Path.{◌≡◌}
use Prim.Native.Nat.{ℕ, ◌≤◌}
use mathlib.Core.List.{List}
use lib.ListN.{length, drop}
use Rattle.units.specs.Decimal.{digits, number_from}
use Rattle.units.proofs.decimal.read_digits.Given as goal

pub record Read (s : List ℕ) (most value i : ℕ) : Type 0 where
  pub in_part : i ≤ length s
  pub fits : value ≤ most
  pub same : digits most s ≡ number_from most value (drop i s)

abbrev pub invariant-loop-b : goal.invariant-loop-b
invariant-loop-b l = Read l.s l.most l.value l.b-index
