-- A choice by a letter, as the tables of document 01, "Layout string", have it.
--     chosen other table letter     what stands beside the letter in the table, else `other`
-- Assumes nothing.
use Rattle.std.specs.Prelude.{cond, List, [], ◌∷◌, ℕ, eqb}

unfoldable pub chosen : {A : Type 0} → A → List (ℕ × A) → ℕ → A
chosen other [] letter = other
chosen other (line ∷ table) letter = cond (eqb letter line.0) line.1 (chosen other table letter)
