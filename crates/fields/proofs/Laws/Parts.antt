-- Laws of specs/Parts.antt.
--     up_to-..             the bytes before the first separator, by the first byte
--     end_of-bound         a part ends in the string
--     end_of-next          and so does the separator behind it, where it is not the last
--     parts_of-last        the part that starts at `from` is the last
--     parts_of-more        another one stands behind it
--     parts_of-head        it is the first of the parts from there on
--     parts_of-first       another one stands behind the first of the string
--     parts_of-split       the first part and the parts of what is left, as `first_part` hands them on
-- Assumes nothing.
use mathlib.Core.Path.{◌≡◌, refl, sym}
use mathlib.Core.Bool.{Bool, true, false, cond}
use mathlib.Core.List.{List, [], ◌∷◌}
use Prim.Native.Nat.{ℕ, suc, ◌+◌, ◌-◌, ◌≤◌, ◌<◌, zero-le}
use mathlib.Core.Logic.{◌⊎◌, ⊎_elim}
use native.Mathlib.Nat.{eq-or-lt_of_le}
use native.Mathlib.Numerals.{add-one}
use native.Mathlib.Omega.{arith}
use lib.Dec.{eqb}
use lib.ListN.{length, take, drop, length-drop}
use lib.Seq.{drop-drop, take-length}
use borrow.Author.Tests.{eq-eqb, ne_eqb}
use denote.Bor.{Bor}
use Rattle.std.specs.Prelude.{Option, Some, None, option_copied}
use Rattle.std.specs.List.{slice_range}
use Rattle.std.specs.Option.{MatchOption}
use Rattle.fields.specs.Parts.{before, parts_of, parts_left, up_to, end_of}

-- by the first byte
pub up_to-none : (b : ℕ) → up_to b [] ≡ 0
unfolding up_to
up_to-none b = refl

module _ (b byte : ℕ) (bytes : List ℕ) where
  pub up_to-here : byte ≡ b → up_to b (byte ∷ bytes) ≡ 0
  unfolding up_to
  up_to-here h = rw (eq-eqb _ _ h)

  pub up_to-further : (byte ≡ b → ⊥) → up_to b (byte ∷ bytes) ≡ up_to b bytes + 1
  unfolding up_to
  up_to-further h = rw (ne_eqb _ _ h, add-one)

up_to-le : (b : ℕ) (s : List ℕ) → up_to b s ≤ length s
unfolding up_to
up_to-le b [] = omega arith
up_to-le b (byte ∷ bytes) = go (eqb byte b) (up_to-le b bytes)
  where
    go : (t : Bool) → up_to b bytes ≤ length bytes → cond t 0 (suc (up_to b bytes)) ≤ suc (length bytes)
    go true h = omega arith
    go false h = omega arith

whole : (b : ℕ) (s : List ℕ) → up_to b s ≡ length s → parts_of b s ≡ s ∷ []
unfolding up_to parts_of
whole b [] h = refl
whole b (byte ∷ bytes) h = go (eqb byte b) h (λ e. whole b bytes e)
  where
    go : (t : Bool) → cond t 0 (suc (up_to b bytes)) ≡ suc (length bytes) → (up_to b bytes ≡ length bytes → parts_of b bytes ≡ bytes ∷ [])
        → cond t ([] ∷ parts_of b bytes) (before byte (parts_of b bytes)) ≡ (byte ∷ bytes) ∷ []
    go true e later = absurd (omega arith)
    go false e later = rw (later (omega arith))

first : (b : ℕ) (s : List ℕ) → up_to b s < length s → parts_of b s ≡ take (up_to b s) s ∷ parts_of b (drop (suc (up_to b s)) s)
unfolding up_to parts_of
first b [] h = absurd (omega arith)
first b (byte ∷ bytes) h = go (eqb byte b) h (λ e. first b bytes e)
  where
    go : (t : Bool) → cond t 0 (suc (up_to b bytes)) < suc (length bytes)
        → (up_to b bytes < length bytes → parts_of b bytes ≡ take (up_to b bytes) bytes ∷ parts_of b (drop (suc (up_to b bytes)) bytes))
        → cond t ([] ∷ parts_of b bytes) (before byte (parts_of b bytes))
        ≡ take (cond t 0 (suc (up_to b bytes))) (byte ∷ bytes) ∷ parts_of b (drop (suc (cond t 0 (suc (up_to b bytes)))) (byte ∷ bytes))
    go true e later = refl
    go false e later = rw (later (omega arith))

-- the part from `from` to `end` of s
module _ (b : ℕ) (s : List ℕ) (from end : ℕ) (in-s : from ≤ length s) (is : end ≡ end_of b s from) where
  pub end_of-bound : (from ≤ end) × (end ≤ length s)
  end_of-bound = (omega arith, omega (arith, up_to-le b (drop from s), length-drop from s))

  -- Named in docs/PROVING.md.
  pub end_of-next : (end ≡ length s → ⊥) → end + 1 ≤ length s
  end_of-next more = omega (arith, end_of-bound)

  cut : end - from ≡ up_to b (drop from s)
  cut = omega arith

  pub parts_of-last : end ≡ length s → parts_of b (drop from s) ≡ take (end - from) (drop from s) ∷ []
  parts_of-last e =
      let up : up_to b (drop from s) ≡ length (drop from s) = omega (arith, length-drop from s) in
      rw (cut, up, take-length) (whole b (drop from s) up)

  pub parts_of-more : (end ≡ length s → ⊥) → parts_of b (drop from s) ≡ take (end - from) (drop from s) ∷ parts_of b (drop (end + 1) s)
  parts_of-more ne =
      let next : end + 1 ≡ from + suc (up_to b (drop from s)) = omega arith in
      rw (cut, next, ← drop-drop) (first b (drop from s) (omega (arith, end_of-bound, length-drop from s)))

  -- in either case the part is the first
  pub parts_of-head : (P : List (List ℕ) → Type 0) → ((more : List (List ℕ)) → P (take (end - from) (drop from s) ∷ more))
      → P (parts_of b (drop from s))
  parts_of-head P h =
      ⊎_elim
      (λ last. rw (parts_of-last last) (h []))
      (λ lt. rw (parts_of-more (λ last. omega arith)) (h (parts_of b (drop (end + 1) s))))
      (eq-or-lt_of_le {n = end} {m = length s} end_of-bound.1)

-- the same of the part at the start of s
pub parts_of-first : (b : ℕ) (s : List ℕ) (end : ℕ) → end ≡ end_of b s 0 → (end ≡ length s → ⊥) → parts_of b s ≡ take end s ∷ parts_of b (drop (end + 1) s)
parts_of-first b s end is more = let whole : end - 0 ≡ end = omega arith in rw whole at (parts_of-more b s 0 end zero-le is more)

pub range-drop : (s : List ℕ) (from : ℕ) → slice_range s from (length s) ≡ drop from s
range-drop s from = let whole : length s - from ≡ length (drop from s) = sym (length-drop from s) in rw (whole, take-length)

-- the first part, and what `get` finds behind its end
pub parts_of-split : (b : ℕ) (s : List ℕ) (end : ℕ) → end ≡ end_of b s 0 → (rest : Option (Bor (List ℕ)))
    → MatchOption rest ((length s < end + 1) ⊎ (length s < length s))
    (λ x. (end + 1 ≤ length s) × (length s ≤ length s) × (x.now ≡ slice_range s (end + 1) (length s)) × (length x.now + (end + 1) ≡ length s))
    → parts_of b s ≡ take end s ∷ parts_left b (option_copied rest)
parts_of-split b s end is None h =
    let bound = end_of-bound b s 0 end zero-le is in
    let last : end ≡ length s = ⊎_elim (λ lt. omega arith) (λ lt. omega arith) h in
    let whole : end - 0 ≡ end = omega arith in
    rw whole at (parts_of-last b s 0 end zero-le is last)
parts_of-split b s end is (Some x) h = rw (h.2, range-drop s (end + 1)) (parts_of-first b s end is (λ last. omega arith))
