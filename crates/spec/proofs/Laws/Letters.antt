-- A law of specs/Letters.antt: a letter that no line of the table has. Named in docs/PROVING.md.
-- Assumes nothing.
use mathlib.Core.Path.{◌≡◌, refl}
use mathlib.Core.List.{List, [], ◌∷◌}
use Prim.Native.Nat.{ℕ}
use borrow.Author.Tests.{ne_eqb}
use Rattle.laws.proofs.Numbers.{Apart}
use Rattle.spec.specs.Letters.{chosen}

abbrev pub letters_of : {A : Type 0} → List (ℕ × A) → List ℕ
letters_of [] = []
letters_of (line ∷ table) = line.0 ∷ letters_of table

pub chosen-of-apart : {A : Type 0} (other : A) (table : List (ℕ × A)) (letter : ℕ) → Apart (letters_of table) letter
    → chosen other table letter ≡ other
unfolding chosen
chosen-of-apart other [] letter h = refl
chosen-of-apart other (line ∷ table) letter h = rw (ne_eqb letter line.0 h.0, chosen-of-apart other table letter h.1)
