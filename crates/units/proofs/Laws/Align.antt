-- Laws of specs/Align.antt.
--     alignment-of-eq, eq-of-alignment     an alignment of n units at a shift: exactly if n is that many times the unit
--     alignment-none                       none, where n is so at no shift
--     alignment-scaled                     a number of units as a number of ones
--     size_of-..                            the size of a shift, as the machine's shift left gives it
-- Assumes nothing.
use mathlib.Core.Path.{◌≡◌, refl, sym, ap, ◌∙◌}
use mathlib.Core.Bool.{Bool, true, false, cond}
use mathlib.Core.Logic.{⊎_elim}
use Prim.Native.Nat.{ℕ, zero, suc, ◌+◌, ◌*◌, ◌%◌, ◌^◌, ◌≤◌, ◌<◌}
use native.Mathlib.Nat.{mul-lt-mul_of_pos_left, eq_of_mul-eq-mul_left, eq-or-lt_of_le, mod-eq_of_lt}
use native.Mathlib.Omega.{arith}
use lib.Dec.{eqb}
use lib.Pow.{pow-lt, pow_mono, pow-add}
use borrow.Author.Tests.{eq-eqb, ne_eqb, eqb-true, eqb-false, lt-ltb, le-ltb}
use Rattle.std.specs.Prelude.{Option, Some, None}
use Rattle.units.specs.declared.align.Align.{Align}
use Rattle.units.specs.Align.{at, shift_below, size_of}

-- two shifts of one unit are never the same size
size-differs : (unit i j : ℕ) → 0 < unit → i < j → unit * 2 ^ i ≡ unit * 2 ^ j → ⊥
size-differs unit i j pos lt e = let h = mul-lt-mul_of_pos_left (pow-lt lt) pos in omega arith

pub alignment-of-eq : (limit unit n shift : ℕ) → 0 < unit → shift < limit → n ≡ unit * 2 ^ shift → shift_below limit unit n ≡ at shift
unfolding shift_below
alignment-of-eq zero unit n shift pos lt e = absurd (omega arith)
alignment-of-eq (suc top) unit n shift pos lt e =
    ⊎_elim
    (λ here. rw (← here, eq-eqb n (unit * 2 ^ shift) e))
    (λ below.
    let ne = ne_eqb n (unit * 2 ^ top) (λ f. size-differs unit shift top pos below (sym e ∙ f)) in
    rw ne (alignment-of-eq top unit n shift pos below e))
    (eq-or-lt_of_le {n = shift} {m = top} (omega arith))

pub alignment-none : (limit unit n : ℕ) → ((shift : ℕ) → shift < limit → n ≡ unit * 2 ^ shift → ⊥) → shift_below limit unit n ≡ None
unfolding shift_below
alignment-none zero unit n none = refl
alignment-none (suc top) unit n none =
    rw (ne_eqb n (unit * 2 ^ top) (none top (omega arith))) (alignment-none top unit n (λ shift lt. none shift (omega arith)))

abbrev shift_in : Option Align → ℕ
shift_in (Some a) = a.0
shift_in None = 0

-- no second answer: where there is an alignment, n is that many times the unit
pub eq-of-alignment : (limit unit n shift : ℕ) → shift_below limit unit n ≡ at shift → (shift < limit) × (n ≡ unit * 2 ^ shift)
unfolding shift_below
eq-of-alignment zero unit n shift h = let z : ◌≡◌ {A = ℕ} 0 1 = cc in absurd (omega arith)
eq-of-alignment (suc top) unit n shift h = go (eqb n (unit * 2 ^ top)) refl h (λ k. eq-of-alignment top unit n shift k)
  where
    go : (b : Bool) → eqb n (unit * 2 ^ top) ≡ b → cond b (at top) (shift_below top unit n) ≡ at shift
        → (shift_below top unit n ≡ at shift → (shift < top) × (n ≡ unit * 2 ^ shift)) → (shift < suc top) × (n ≡ unit * 2 ^ shift)
    go true e k below = let s : top ≡ shift = ap shift_in k in rw (← s) (omega arith, eqb-true n (unit * 2 ^ top) e)
    go false e k below = let p = below k in (omega arith, p.1)

eqb-scaled : (k m n : ℕ) → 0 < k → eqb (k * m) (k * n) ≡ eqb m (1 * n)
eqb-scaled k m n pos = go (eqb m (1 * n)) refl
  where
    go : (b : Bool) → eqb m (1 * n) ≡ b → eqb (k * m) (k * n) ≡ b
    go true e = let s : m ≡ n = omega (arith, eqb-true m (1 * n) e) in eq-eqb (k * m) (k * n) (ap (λ (x : ℕ). k * x) s)
    go false e = ne_eqb (k * m) (k * n) (λ s. eqb-false m (1 * n) e (omega (arith, eq_of_mul-eq-mul_left k pos m n s)))

pub alignment-scaled : (limit unit m : ℕ) → 0 < unit → shift_below limit unit (unit * m) ≡ shift_below limit 1 m
unfolding shift_below
alignment-scaled zero unit m pos = refl
alignment-scaled (suc top) unit m pos = rw (eqb-scaled unit m (2 ^ top) pos, alignment-scaled top unit m pos)

-- the machine's shift left of a unit that is 2 ^ k, where a word holds it and where it does not
module _ (unit k shift : ℕ) (is : unit ≡ 2 ^ k) where
  joined : unit * 2 ^ shift ≡ 2 ^ (k + shift)
  joined = rw is (sym (pow-add 2 k shift))

  pub size_of-held : k + shift < 64 → unit * 2 ^ shift % 2 ^ 64 ≡ size_of unit shift
  size_of-held h =
      let lt : unit * 2 ^ shift < 2 ^ 64 = rw joined (pow-lt h) in
      rw (lt-ltb (unit * 2 ^ shift) (2 ^ 64) lt) (mod-eq_of_lt lt)

  pub size_of-past : 64 ≤ k + shift → 0 ≡ size_of unit shift
  size_of-past h =
      let le : 2 ^ 64 ≤ unit * 2 ^ shift = rw joined (pow_mono h) in
      rw (le-ltb (unit * 2 ^ shift) (2 ^ 64) le)
