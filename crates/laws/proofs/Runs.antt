-- A test that antt computes at each number of a run holds at any number of it.
--     holds_from P first count     P holds at the count numbers from first on
-- Assumes nothing.
use mathlib.Core.Path.{◌≡◌, refl}
use mathlib.Core.Bool.{Bool, true, false, ◌&&◌}
use Prim.Native.Nat.{ℕ, zero, suc, ◌+◌, ◌≤◌, ◌<◌}
use native.Mathlib.Omega.{arith}
use lib.Dec.{T, eqb}
use borrow.Author.Tests.{eqb-true, eqb-false}
use Rattle.laws.proofs.Bools.{T_and}

abbrev pub holds_from : (ℕ → Bool) → ℕ → ℕ → Bool
holds_from P first zero = true
holds_from P first (suc count) = P first && holds_from P (suc first) count

pub holds-of-run : (P : ℕ → Bool) (first count n : ℕ) → T (holds_from P first count) → first ≤ n → n < first + count → T (P n)
holds-of-run P first zero n t low high = absurd (omega arith)
holds-of-run P first (suc count) n t low high =
    let h = T_and (P first) (holds_from P (suc first) count) t in
    go (eqb n first) refl h.0 (λ ne. holds-of-run P (suc first) count n h.1 (omega arith) (omega arith))
  where
    go : (b : Bool) → eqb n first ≡ b → T (P first) → ((n ≡ first → ⊥) → T (P n)) → T (P n)
    go true e here later = rw (eqb-true n first e) here
    go false e here later = later (eqb-false n first e)
