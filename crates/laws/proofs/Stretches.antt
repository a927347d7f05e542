-- Stretches of a list, `take n (drop a l)`: clipped to the list, and cut after the first element.
-- Assumes nothing.
use mathlib.Core.Path.{◌≡◌, sym, ◌∙◌}
use mathlib.Core.List.{List, [], ◌∷◌}
use Prim.Native.Nat.{ℕ, zero, suc, ◌+◌, ◌-◌, ◌≤◌, ◌<◌, min}
use native.Mathlib.Omega.{arith}
use native.Mathlib.Numerals.{add-one}
use lib.ListN.{length, get_or, take, drop, length-drop}
use lib.Seq.{drop-cons, take-nil, drop-nil}

take-clipped : (n : ℕ) (l : List ℕ) → take (min n (length l)) l ≡ take n l
take-clipped n [] = take-nil (min n 0) ∙ sym (take-nil n)
take-clipped zero (x ∷ l) = let e : min 0 (suc (length l)) ≡ 0 = omega arith in rw e
take-clipped (suc n) (x ∷ l) =
    let e : min (suc n) (suc (length l)) ≡ suc (min n (length l)) = omega arith in
    rw (e, take-clipped n l)

drop-clipped : (n : ℕ) (l : List ℕ) → drop (min n (length l)) l ≡ drop n l
drop-clipped n [] = drop-nil (min n 0) ∙ sym (drop-nil n)
drop-clipped zero (x ∷ l) = let e : min 0 (suc (length l)) ≡ 0 = omega arith in rw e
drop-clipped (suc n) (x ∷ l) =
    let e : min (suc n) (suc (length l)) ≡ suc (min n (length l)) = omega arith in
    rw (e, drop-clipped n l)

pub stretch-clipped : (n a : ℕ) (l : List ℕ) → take (min n (length l - a)) (drop (min a (length l)) l) ≡ take n (drop a l)
stretch-clipped n a l = rw (drop-clipped a l, ← (length-drop a l)) (take-clipped n (drop a l))

take-cons : (n x : ℕ) (l : List ℕ) → 0 < n → take n (x ∷ l) ≡ x ∷ take (n - 1) l
take-cons zero x l h = absurd (omega arith)
take-cons (suc n) x l h = let e : suc n - 1 ≡ n = omega arith in rw e

pub stretch-cons : (n a : ℕ) (l : List ℕ) → 0 < n → a + n ≤ length l → take n (drop a l) ≡ get_or l a 0 ∷ take (n - 1) (drop (a + 1) l)
stretch-cons n a l some inside =
    let h : a < length l = omega arith in
    rw (drop-cons l a 0, add-one) (take-cons n (get_or l a 0) (drop (suc a) l) some)
