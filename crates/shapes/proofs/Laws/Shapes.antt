-- Laws of specs/Shapes.antt.
-- Assumes nothing.
use mathlib.Core.Path.{◌≡◌, refl}
use mathlib.Core.Bool.{Bool, true, false, cond}
use mathlib.Core.List.{List, [], ◌∷◌}
use Prim.Native.Nat.{ℕ, ◌+◌, ◌≤◌}
use native.Mathlib.Omega.{arith}
use Rattle.std.specs.Prelude.{Result, Ok, Err}
use lib.Dec.{ltb}
use lib.ListN.{length}
use borrow.Author.Tests.{ltb-false}
use denote.Enum.Declared.{tag_of}
use types.Run.{OneOf}
use Rattle.laws.proofs.Numbers.{listed-of-keys}
use Rattle.kinds.specs.declared.code.TypeCode.{TypeCode}
use Rattle.kinds.specs.declared.code.UnknownCode.{UnknownCode}
use Rattle.kinds.specs.Codes.{type_code}
use Rattle.utf8.specs.Utf8.{is_utf8}
use Rattle.shapes.specs.declared.Seen.{Seen}
use Rattle.shapes.specs.declared.Fault.{Fault}
use Rattle.shapes.specs.declared.Fault.TheVariants.{LacksField}
use Rattle.shapes.specs.declared.Shape.{Shape}
use Rattle.shapes.specs.declared.Shape.TheVariants.{Nothing, Name, Adds, Opaque, Named}
use Rattle.shapes.specs.Shapes.{needed, whole_shape, known_shape, shape_of, seen_in, spelled, spelled_if, shape_in}
use Rattle.shapes.specs.contracts.Shape.{the_type}

-- Named in docs/PROVING.md: whatever is no name is not spelled.

abbrev not_name : List ℕ
not_name = 0 ∷ 2 ∷ 3 ∷ 4 ∷ []

pub spelled-other : (fs : List ℕ) (s : Shape) → OneOf not_name (tag_of the_type s) → Ok s ≡ spelled fs s
spelled-other fs Nothing h = refl
spelled-other fs Name h = let listed : false ≡ true = listed-of-keys not_name not_name 1 tt h in absurd cc
spelled-other fs (Adds head from) h = refl
spelled-other fs (Opaque head from) h = refl
spelled-other fs (Named head from) h = refl

-- the references lie in the fields

abbrev pub last_field : Shape → ℕ
last_field Nothing = 0
last_field Name = 0
last_field (Adds h from) = from + h.count
last_field (Opaque h from) = from + h.count
last_field (Named h from) = from + h.count

abbrev pub Inside : Result Shape Fault → ℕ → Type 0
Inside (Ok s) n = last_field s ≤ n
Inside (Err fault) n = 0 ≤ n

whole_shape-inside : (c : TypeCode) (s : Seen) (p : Bool) → needed c ≤ s.count → Inside (whole_shape c s p) s.count
unfolding whole_shape
whole_shape-inside c s p le = grind arith

known_shape-inside : (c : TypeCode) (s : Seen) (p : Bool) → Inside (known_shape c s p) s.count
known_shape-inside c s p = by (ltb s.count (needed c)) refl
  where
    by : (b : Bool) → ltb s.count (needed c) ≡ b → Inside (cond b (Err LacksField) (whole_shape c s p)) s.count
    by true e = omega arith
    by false e = whole_shape-inside c s p (ltb-false s.count (needed c) e)

spelled-inside : (fs : List ℕ) (r : Result Shape Fault) (n : ℕ) → Inside r n → Inside (spelled_if fs r) n
spelled-inside fs r n le = grind arith

shape_of-inside : (r : Result TypeCode UnknownCode) (s : Seen) (p : Bool) → Inside (shape_of r s p) s.count
shape_of-inside (Ok c) s p = known_shape-inside c s p
shape_of-inside (Err e) s p = omega arith

pub shape_in-inside : (k : ℕ) (fs : List ℕ) (p : Bool) → Inside (shape_in k fs p) (length fs)
shape_in-inside k fs p =
    spelled-inside fs (shape_of (type_code k) (seen_in fs) p) (length fs) (shape_of-inside (type_code k) (seen_in fs) p)

-- a name that is taken is well formed

name : (r : Result Shape Fault) (fs : List ℕ) → spelled_if fs r ≡ Ok Name → is_utf8 fs ≡ true
name r fs e = grind arith

pub shape_in-name : (k : ℕ) (fs : List ℕ) (p : Bool) → shape_in k fs p ≡ Ok Name → is_utf8 fs ≡ true
shape_in-name k fs p e = name (shape_of (type_code k) (seen_in fs) p) fs e
