-- Laws of lists that the kit does not have.
-- Assumes nothing.
use mathlib.Core.Path.{◌≡◌, refl, sym, ◌∙◌}
use mathlib.Core.List.{List, [], ◌∷◌, map}
use Prim.Native.Nat.{ℕ, suc, ◌-◌}
use native.Mathlib.Omega.{arith}
use lib.ListN.{length, length-map, get_or, take, drop}
use lib.Seq.{take-length}

-- what owning an array of structs tells of its list: the kit's `length_unmapped`, at any map
pub length-of-map : {X Y : Type 0} (f : X → Y) (l : List X) (n : ℕ) → length (map f l) ≡ n → length l ≡ n
length-of-map f l n h = sym (length-map l f) ∙ h

-- a list with an element is that element and the rest, in the terms of the code: `s[0]` and `&s[1..]`
pub cons-of-some : (s : List ℕ) → (length s ≡ 0 → ⊥) → s ≡ get_or s 0 0 ∷ take (length s - 1) (drop 1 s)
cons-of-some [] some = absurd (some refl)
cons-of-some (x ∷ xs) some = let e : suc (length xs) - 1 ≡ length xs = omega arith in rw (e, take-length)
