-- Laws of specs/Numbers.antt, in the shape in which a `match` on a number with ranges hands over its facts.
--     Apart ns n            n is none of ns: a fact for each, which `omega` proves and reads
--     within-..             a test of a range, by where n stands
--     Apart, Rest, listed-of-.. are named in docs/PROVING.md and TRACE.md; kinds/proofs and spec/proofs stand on them
--     listed-of-..          a test of a list: by n being none of it, one of a `match` arm's keys, or in a run of it
-- Assumes nothing.
use mathlib.Core.Path.{◌≡◌, refl}
use mathlib.Core.Bool.{Bool, true, false, ◌&&◌}
use mathlib.Core.List.{List, [], ◌∷◌}
use mathlib.Core.Logic.{inl, inr}
use Prim.Native.Nat.{ℕ, zero, suc, ◌+◌, ◌≤◌, ◌<◌}
use native.Mathlib.Omega.{arith}
use lib.Dec.{T, eqb}
use borrow.Author.Tests.{le-leb, lt-leb, ne_eqb, eqb-true, eqb-false}
use types.Run.{OneOf}
use Rattle.laws.specs.Numbers.{within, listed}
use Rattle.laws.proofs.Bools.{and-false, T_true, T_and}

pub within-inside : (first last n : ℕ) → first ≤ n → n ≤ last → within first last n ≡ true
within-inside first last n low high = rw (le-leb first n low, le-leb n last high)

pub within-below : (first last n : ℕ) → n < first → within first last n ≡ false
within-below first last n low = rw (lt-leb first n low)

pub within-above : (first last n : ℕ) → last < n → within first last n ≡ false
within-above first last n high = rw (lt-leb n last high, and-false)

abbrev pub Apart : List ℕ → ℕ → Type 0
Apart [] n = Unit {0}
Apart (m ∷ ms) n = (n ≡ m → ⊥) × Apart ms n

pub listed-of-apart : (ms : List ℕ) (n : ℕ) → Apart ms n → listed ms n ≡ false
listed-of-apart [] n h = refl
listed-of-apart (m ∷ ms) n h = rw (ne_eqb n m h.0, listed-of-apart ms n h.1)

-- what the arms before have left: n is none of their keys
pub apart-of-none : (keys : List ℕ) (n : ℕ) → (OneOf keys n → ⊥) → Apart keys n
apart-of-none [] n h = tt
apart-of-none (k ∷ []) n h = (h, tt)
apart-of-none (k ∷ l ∷ ks) n h = ((λ e. h (inl e)), apart-of-none (l ∷ ks) n (λ e. h (inr e)))

-- the same behind arms of a single key each, of which P and one fact for each arm are known
abbrev pub Rest : Type 0 → List ℕ → ℕ → Type 0
Rest P [] n = P
Rest P (k ∷ ks) n = Rest (P × (n ≡ k → ⊥)) ks n

pub apart-of-rest : (P : Type 0) (keys : List ℕ) (n : ℕ) → Rest P keys n → P × Apart keys n
apart-of-rest P [] n h = (h, tt)
apart-of-rest P (k ∷ ks) n h = let q = apart-of-rest (P × (n ≡ k → ⊥)) ks n h in (q.0.0, (q.0.1, q.1))

-- every key is listed: a test that antt computes
abbrev pub all_listed : List ℕ → List ℕ → Bool
all_listed ms [] = true
all_listed ms (k ∷ ks) = listed ms k && all_listed ms ks

pub listed-of-keys : (ms keys : List ℕ) (n : ℕ) → T (all_listed ms keys) → OneOf keys n → listed ms n ≡ true
listed-of-keys ms [] n t h = absurd h
listed-of-keys ms (k ∷ []) n t h = rw h (T_true (listed ms k) (T_and (listed ms k) true t).0)
listed-of-keys ms (k ∷ l ∷ ks) n t (inl h) = rw h (T_true (listed ms k) (T_and (listed ms k) (all_listed ms (l ∷ ks)) t).0)
listed-of-keys ms (k ∷ l ∷ ks) n t (inr h) = listed-of-keys ms (l ∷ ks) n (T_and (listed ms k) (all_listed ms (l ∷ ks)) t).1 h

-- the count numbers from first on are listed: a test that antt computes
abbrev pub run_listed : List ℕ → ℕ → ℕ → Bool
run_listed ms first zero = true
run_listed ms first (suc count) = listed ms first && run_listed ms (suc first) count

pub listed-of-run : (ms : List ℕ) (first count n : ℕ) → T (run_listed ms first count) → first ≤ n → n < first + count → listed ms n ≡ true
listed-of-run ms first zero n t low high = absurd (omega arith)
listed-of-run ms first (suc count) n t low high =
    let h = T_and (listed ms first) (run_listed ms (suc first) count) t in
    go (eqb n first) refl h.0 (λ ne. listed-of-run ms (suc first) count n h.1 (omega arith) (omega arith))
  where
    go : (b : Bool) → eqb n first ≡ b → T (listed ms first) → ((n ≡ first → ⊥) → listed ms n ≡ true) → listed ms n ≡ true
    go true e here later = rw (eqb-true n first e) (T_true (listed ms first) here)
    go false e here later = later (eqb-false n first e)
