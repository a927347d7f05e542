-- Every entry that the first pass takes is formed: by the code of its record, and by the last entry where that is filled.
--     FairHead h     a row with the head h is formed, whatever its name's length
-- Assumes nothing.
use mathlib.Core.Path.{◌≡◌, refl, ◌∙◌}
use mathlib.Core.Bool.{Bool, true, false, cond, ◌&&◌}
use mathlib.Core.List.{List, [], ◌∷◌}
use Prim.Native.Nat.{ℕ, ◌≤◌}
use native.Mathlib.Omega.{arith}
use Rattle.std.specs.Prelude.{Result, Ok, Err}
use lib.Dec.{T, eqb, leb, ltb}
use borrow.Author.Tests.{ltb-false, leb-true}
use Rattle.laws.proofs.Bools.{T_true, T_and}
use Rattle.laws.proofs.Runs.{holds-of-run}
use Rattle.kinds.specs.declared.code.TypeCode.{TypeCode}
use Rattle.kinds.specs.declared.code.TypeCode.TheVariants as code
use Rattle.kinds.specs.declared.code.UnknownCode.{UnknownCode}
use Rattle.units.specs.Limits.{is_address_space}
use Rattle.kinds.specs.declared.kind.TypeId.{TypeId}
use Rattle.kinds.specs.TypeIds.{number}
use Rattle.kinds.specs.Codes.{Numbered, codes, code_in, type_code}
use Rattle.table.specs.declared.row.Row.{Row}
use Rattle.shapes.specs.declared.Head.{Head}
use Rattle.shapes.specs.declared.Seen.{Seen}
use Rattle.shapes.specs.declared.Fault.{Fault}
use Rattle.shapes.specs.declared.Fault.TheVariants.{LacksField, SpaceTooLarge}
use Rattle.shapes.specs.declared.Shape.{Shape}
use Rattle.shapes.specs.declared.Shape.TheVariants as says
use Rattle.shapes.specs.Shapes.{needed, whole_shape, known_shape, shape_of, seen_in, spelled_if}
use Rattle.shapes.specs.Shapes.{adds, spaced, shape_in}
use Rattle.formed.specs.Form.{formed}

-- a head with a name's length, as a row
abbrev row_by : Head → ℕ → Row
row_by h len = record {
  kind = h.kind;
  number = h.number;
  flag = h.flag;
  first = 0;
  count = h.count;
  start = 0;
  len = cond h.named len
      0;
  named = cond h.named 1 0;
}

abbrev pub FairHead : Head → Type 0
FairHead h = (len : ℕ) → formed (row_by h len) ≡ true

-- the same of a record's shape, at a name of that length
abbrev FairAt : ℕ → Result Shape Fault → Type 0
FairAt len (Ok says.Nothing) = Unit {0}
FairAt len (Ok says.Name) = Unit {0}
FairAt len (Ok (says.Adds h from)) = formed (row_by h len) ≡ true
FairAt len (Ok (says.Opaque h from)) = formed (row_by h len) ≡ true
FairAt len (Ok (says.Named h from)) = formed (row_by h len) ≡ true
FairAt len (Err fault) = Unit {0}

abbrev pub Fair : Result Shape Fault → Type 0
Fair r = (len : ℕ) → FairAt len r

-- the kind of a plain code is at most 12

abbrev plain_low : TypeCode → Bool
plain_low (code.Plain kind) = leb (number kind) 12
plain_low _ = true

abbrev known_low : Result TypeCode UnknownCode → Bool
known_low (Ok c) = plain_low c
known_low (Err e) = true

abbrev all_low : List Numbered → Bool
all_low [] = true
all_low (c ∷ cs) = plain_low c.says && all_low cs

code_in-low : (cs : List Numbered) (n : ℕ) → T (all_low cs) → T (known_low (code_in cs n))
code_in-low [] n t = tt
code_in-low (c ∷ cs) n t =
    let h = T_and (plain_low c.says) (all_low cs) t in
    by (eqb n c.number) h.0 (code_in-low cs n h.1)
  where
    by : (b : Bool) → T (plain_low c.says) → T (known_low (code_in cs n)) → T (known_low (cond b (Ok c.says) (code_in cs n)))
    by true here later = here
    by false here later = later

type_code-low : (n : ℕ) → T (known_low (type_code n))
unfolding type_code
type_code-low n = code_in-low codes n tt

-- the shapes

abbrev plain_fair : ℕ → Bool
plain_fair kind = formed (row_by (record { kind = kind; number = 0; flag = 0; count = 0; named = false }) 0)

plain-fair : (kind : ℕ) → T (leb kind 12) → FairHead (record { kind = kind; number = 0; flag = 0; count = 0; named = false })
unfolding formed
plain-fair kind t len = T_true _ (holds-of-run plain_fair 0 13 kind tt (omega arith) (let le = leb-true kind 12 (T_true _ t) in omega arith))

-- Named in docs/TRACE.md.
pub spaced-fair : (pointer : TypeId) (count space : ℕ)
    → ((n : ℕ) → formed (row_by (record { kind = number pointer; number = n; flag = 0; count = count; named = false }) 0) ≡ is_address_space n)
    → Fair (spaced pointer space count)
spaced-fair pointer count space is len = by (is_address_space space) refl
  where
    by : (b : Bool) → is_address_space space ≡ b → FairAt len (cond b (Ok (adds pointer space 0 0 count)) (Err (SpaceTooLarge space)))
    by true e = is space ∙ e
    by false e = tt

whole_shape-fair : (c : TypeCode) (s : Seen) (p : Bool) (len : ℕ) → T (plain_low c) → needed c ≤ s.count → FairAt len (whole_shape c s p)
unfolding whole_shape formed
whole_shape-fair (code.Plain kind) s p len t le = plain-fair (number kind) t len
whole_shape-fair c s p len t le = grind arith

known_shape-fair : (c : TypeCode) (s : Seen) (p : Bool) (len : ℕ) → T (plain_low c) → FairAt len (known_shape c s p)
known_shape-fair c s p len t = by (ltb s.count (needed c)) refl
  where
    by : (b : Bool) → ltb s.count (needed c) ≡ b → FairAt len (cond b (Err LacksField) (whole_shape c s p))
    by true e = tt
    by false e = whole_shape-fair c s p len t (ltb-false s.count (needed c) e)

shape_of-fair : (r : Result TypeCode UnknownCode) (s : Seen) (p : Bool) (len : ℕ) → T (known_low r) → FairAt len (shape_of r s p)
shape_of-fair (Ok c) s p len t = known_shape-fair c s p len t
shape_of-fair (Err e) s p len t = tt

spelled-fair : (fs : List ℕ) (r : Result Shape Fault) (len : ℕ) → FairAt len r → FairAt len (spelled_if fs r)
spelled-fair fs r len h = grind arith

pub shape_in-fair : (k : ℕ) (fs : List ℕ) (p : Bool) → Fair (shape_in k fs p)
shape_in-fair k fs p len =
    spelled-fair fs (shape_of (type_code k) (seen_in fs) p) len (shape_of-fair (type_code k) (seen_in fs) p len (type_code-low k))
