-- Laws of specs/Decimal.antt, one for each way through a turn of the reading loop, at any limit.
-- Assumes nothing.
use mathlib.Core.Path.{◌≡◌, refl, ◌∙◌}
use mathlib.Core.Bool.{Bool, true, false, ◌&&◌, cond}
use mathlib.Core.List.{List, [], ◌∷◌}
use Prim.Native.Nat.{ℕ, suc, ◌+◌, ◌*◌, ◌-◌, ◌≤◌, ◌<◌}
use native.Mathlib.Numerals.{add-one}
use native.Mathlib.Omega.{arith}
use lib.Dec.{eqb, leb}
use lib.ListN.{length, get_or, take, drop}
use lib.Seq.{drop-cons, drop-length, take-length}
use borrow.Author.Tests.{le-leb, lt-leb, leb-true, eq-eqb, ne_eqb}
use Rattle.laws.proofs.Bools.{and-false}
use Rattle.laws.proofs.Told.{and-true}
use Rattle.laws.proofs.Numbers.{within-inside, within-below, within-above}
use Rattle.std.specs.Prelude.{Option, Some, None}
use Rattle.std.specs.Option.{MatchOption, unwrap_or}
use lib.Pointwise.{pointwise}
use denote.Bor.{Bor}
use Rattle.units.specs.Decimal.{is_digit, all_digits, value_from, number_from, digits, decimal}

value_from-ge : (s : List ℕ) (value : ℕ) → value ≤ value_from value s
unfolding value_from
value_from-ge [] value = omega arith
value_from-ge (b ∷ bs) value = omega (arith, value_from-ge bs (value * 10 + (b - 48)))

-- what stands already is too large
number_from-past : (most value : ℕ) (s : List ℕ) → most < value → number_from most value s ≡ None
number_from-past most value s h = rw (lt-leb (value_from value s) most (omega (arith, value_from-ge s value)), and-false)

-- a turn of the loop at byte i, behind which `value` stands
module _ (most : ℕ) (s : List ℕ) (value i : ℕ) (lt : i < length s) where
  number_from-spoiled : is_digit (get_or s i 0) ≡ false → number_from most value (drop i s) ≡ None
  unfolding all_digits
  number_from-spoiled h = rw (drop-cons s i 0, h)

  pub number_from-low : get_or s i 0 < 48 → number_from most value (drop i s) ≡ None
  number_from-low h = number_from-spoiled (within-below 48 57 (get_or s i 0) h)

  pub number_from-high : 57 < get_or s i 0 → number_from most value (drop i s) ≡ None
  number_from-high h = number_from-spoiled (within-above 48 57 (get_or s i 0) h)

  pub number_from-digit : 48 ≤ get_or s i 0 → get_or s i 0 ≤ 57
      → number_from most value (drop i s) ≡ number_from most (value * 10 + (get_or s i 0 - 48)) (drop (i + 1) s)
  unfolding all_digits value_from
  number_from-digit low high = rw (drop-cons s i 0, within-inside 48 57 (get_or s i 0) low high, add-one)

  pub number_from-over : 48 ≤ get_or s i 0 → get_or s i 0 ≤ 57 → most < value * 10 + (get_or s i 0 - 48) → number_from most value (drop i s) ≡ None
  number_from-over low high over =
      number_from-digit low high ∙ number_from-past most (value * 10 + (get_or s i 0 - 48)) (drop (i + 1) s) over

pub number_from-done : (most : ℕ) (s : List ℕ) (value i : ℕ) → i ≡ length s → value ≤ most → number_from most value (drop i s) ≡ Some value
unfolding all_digits value_from
number_from-done most s value i e h = rw (e, drop-length, le-leb value most h)

pub digits-some : (most : ℕ) (s : List ℕ) → (length s ≡ 0 → ⊥) → digits most s ≡ number_from most 0 s
unfolding digits
digits-some most [] h = absurd (h refl)
digits-some most (b ∷ bs) h = refl

pub digits-none : (most : ℕ) (s : List ℕ) → length s ≡ 0 → None ≡ digits most s
unfolding digits
digits-none most [] h = refl
digits-none most (b ∷ bs) h = absurd (omega arith)

-- what is left of s where the plus is passed over, if there is one
pub decimal-of-rest : (most : ℕ) (whole : Bor (List ℕ)) (s : List ℕ) → whole.now ≡ s → (r : Option (Bor (List ℕ)))
    → MatchOption r (pointwise eqb (take 1 s) (43 ∷ []) ≡ false)
    (λ x. (pointwise eqb (take 1 s) (43 ∷ []) ≡ true) × (x.now ≡ drop 1 s) × (length x.now + 1 ≡ length s))
    → digits most (unwrap_or r whole).now ≡ decimal most s
unfolding digits decimal
decimal-of-rest most whole [] e None h = rw e
decimal-of-rest most whole [] e (Some x) h = absurd cc
decimal-of-rest most whole (b ∷ bs) e None h = rw (e, rw (and-true (eqb b 43)) at h)
decimal-of-rest most whole (b ∷ bs) e (Some x) h = rw (h.1, rw (and-true (eqb b 43)) at h.0)

-- Named in docs/TRACE.md.
pub decimal-plus : (most : ℕ) (s : List ℕ) → (length s ≡ 0 → ⊥) → get_or s 0 0 ≡ 43 → digits most (take (length s - 1) (drop 1 s)) ≡ decimal most s
unfolding decimal
decimal-plus most [] some h = absurd (some refl)
decimal-plus most (b ∷ bs) some h = let e : suc (length bs) - 1 ≡ length bs = omega arith in rw (eq-eqb b 43 h, e, take-length)

pub decimal-bare : (most : ℕ) (s : List ℕ) → (length s ≡ 0 → ⊥) → (get_or s 0 0 ≡ 43 → ⊥) → digits most s ≡ decimal most s
unfolding decimal
decimal-bare most [] some h = absurd (some refl)
decimal-bare most (b ∷ bs) some h = rw (ne_eqb b 43 h)

-- a number that is read is at most `most`
abbrev pub Within : ℕ → Option ℕ → Type 0
Within most (Some n) = n ≤ most
Within most None = Unit {0}

number_from-within : (most value : ℕ) (s : List ℕ) → Within most (number_from most value s)
number_from-within most value s = go (all_digits s) (leb (value_from value s) most) refl
  where
    go : (a b : Bool) → leb (value_from value s) most ≡ b → Within most (cond (a && b) (Some (value_from value s)) None)
    go true true e = leb-true (value_from value s) most e
    go true false e = tt
    go false b e = tt

digits-within : (most : ℕ) (s : List ℕ) → Within most (digits most s)
unfolding digits
digits-within most [] = tt
digits-within most (b ∷ bs) = number_from-within most 0 (b ∷ bs)

pub decimal-within : (most : ℕ) (s : List ℕ) → Within most (decimal most s)
unfolding decimal
decimal-within most [] = tt
decimal-within most (b ∷ bs) = go (eqb b 43)
  where
    go : (t : Bool) → Within most (cond t (digits most bs) (digits most (b ∷ bs)))
    go true = digits-within most bs
    go false = digits-within most (b ∷ bs)
