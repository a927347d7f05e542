-- A law of specs/Codes.antt. Named in docs/TRACE.md.
-- Assumes nothing.
use mathlib.Core.Path.{◌≡◌, refl}
use mathlib.Core.List.{List, [], ◌∷◌}
use Prim.Native.Nat.{ℕ}
use borrow.Author.Tests.{ne_eqb}
use Rattle.std.proofs.Common.{Err}
use Rattle.laws.proofs.Numbers.{Apart, Rest, apart-of-rest}
use Rattle.kinds.specs.Codes.{Numbered, codes, code_in, type_code}

abbrev pub numbers : List Numbered → List ℕ
numbers [] = []
numbers (c ∷ cs) = c.number ∷ numbers cs

code_in-of-apart : (cs : List Numbered) (n : ℕ) → Apart (numbers cs) n → Err (record { 0 = n }) ≡ code_in cs n
code_in-of-apart [] n h = refl
code_in-of-apart (c ∷ cs) n h = rw (ne_eqb n c.number h.0) (code_in-of-apart cs n h.1)

-- the arm `_` behind an arm for each code
pub type_code-of-rest : (n : ℕ) → Rest (Unit {0}) (numbers codes) n → Err (record { 0 = n }) ≡ type_code n
unfolding type_code
type_code-of-rest n h = code_in-of-apart codes n (apart-of-rest (Unit {0}) (numbers codes) n h).1
