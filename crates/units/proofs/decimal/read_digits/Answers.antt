-- `units::decimal::read_digits` meets its contract. The invariant: behind the value that stands, what is left of the part gives
-- what the whole gives. Assumes nothing.
use mathlib.Core.Path.{◌≡◌, sym, ◌∙◌}
use Prim.Native.Nat.{ℕ, ◌+◌, ◌*◌, ◌-◌, ◌≤◌, ◌<◌}
use native.Mathlib.Omega.{arith}
use mathlib.Core.List.{List}
use lib.ListN.{length, get_or}
use borrow.Author.Rules.{rules}
use Rattle.std.specs.Prelude.{Some, None}
use Rattle.units.specs.Decimal.{digits}
use Rattle.units.proofs.Laws.Decimal.{number_from-low, number_from-high, number_from-digit, number_from-over, number_from-done, digits-some, digits-none}
use Rattle.units.proofs.decimal.read_digits.Invariants.{Read}
use Rattle.units.proofs.decimal.read_digits.Goals as goal

-- the ways out of the loop, and round it
module _ {s : List ℕ} {most value i : ℕ} (r : Read s most value i) where
  Read-low : i < length s → get_or s i 0 < 48 → None ≡ digits most s
  Read-low lt low = sym (r.same ∙ number_from-low most s value i lt low)

  Read-high : i < length s → 57 < get_or s i 0 → None ≡ digits most s
  Read-high lt high = sym (r.same ∙ number_from-high most s value i lt high)

  Read-over : i < length s → 48 ≤ get_or s i 0 → get_or s i 0 ≤ 57 → most < value * 10 + (get_or s i 0 - 48) → None ≡ digits most s
  Read-over lt low high over = sym (r.same ∙ number_from-over most s value i lt low high over)

  Read-more : i < length s → 48 ≤ get_or s i 0 → get_or s i 0 ≤ 57 → value * 10 + (get_or s i 0 - 48) ≤ most
      → Read s most (value * 10 + (get_or s i 0 - 48)) (i + 1)
  Read-more lt low high fits =
      record { in_part = omega arith; fits = fits; same = r.same ∙ number_from-digit most s value i lt low high }

  Read-done : i ≡ length s → Some value ≡ digits most s
  Read-done e = sym (r.same ∙ number_from-done most s value i e r.fits)

pub returns-then-is_empty : goal.returns-then-is_empty
returns-then-is_empty c = digits-none c.args.most c.args.s.now (search rules)

pub loop-b-init : goal.loop-b-init
loop-b-init c =
    record { in_part = omega arith; fits = omega arith; same = digits-some c.args.most c.args.s.now (search rules) }

pub returns-in_default : goal.returns-in_default
returns-in_default c = Read-low c.loop-b.invariant (omega arith) (omega arith)

pub returns-in_default-2 : goal.returns-in_default-2
returns-in_default-2 c = Read-high c.loop-b.invariant (omega arith) (omega arith)

pub returns-in_err-checked_mul : goal.returns-in_err-checked_mul
returns-in_err-checked_mul c =
    c.from_residual.ensures ∙ Read-over c.loop-b.invariant (omega arith) (omega arith) (omega arith) (omega (arith, c.in_err-checked_mul.ensures))

pub returns-in_err-value : goal.returns-in_err-value
returns-in_err-value c =
    c.from_residual-in_err-value.ensures
    ∙ Read-over c.loop-b.invariant (omega arith) (omega arith) (omega arith)
    (omega (arith, c.in_ok-checked_mul.ensures, c.in_err-value.ensures))

pub returns-then-most-value : goal.returns-then-most-value
returns-then-most-value c =
    Read-over c.loop-b.invariant (omega arith) (omega arith) (omega arith)
    (omega (arith, c.in_ok-checked_mul.ensures, c.in_ok-value.ensures))

pub loop-b-preserved : goal.loop-b-preserved
loop-b-preserved c =
    let is : c.in_ok-value.value ≡ c.loop-b.value * 10 + (get_or c.args.s.now c.loop-b.b-index 0 - 48) =
    omega (arith, c.in_ok-checked_mul.ensures, c.in_ok-value.ensures) in
    rw is (Read-more c.loop-b.invariant (omega arith) (omega arith) (omega arith) (omega arith))

pub returns : goal.returns
returns c = Read-done c.loop-b.invariant (omega arith)
