-- Room: more of it changes no answer but 9, and with room enough there is no 9.
-- Assumes nothing.
use mathlib.Core.Path.{◌≡◌, refl, ap}
use mathlib.Core.Bool.{Bool, true, false, cond}
use mathlib.Core.Logic.{◌⊎◌, inl, inr}
use mathlib.Core.List.{List, [], ◌∷◌, ◌++◌}
use Prim.Native.Nat.{ℕ, ◌+◌, ◌≤◌}
use native.Mathlib.Omega.{arith}
use Rattle.std.specs.Prelude.{Result, Ok, Err}
use lib.Dec.{ltb}
use lib.ListN.{length}
use borrow.Author.Tests.{le-leb, leb-true}
use Rattle.laws.proofs.Told.{no, and-told}
use Rattle.kinds.specs.declared.code.TypeCode.{TypeCode}
use Rattle.kinds.specs.declared.code.UnknownCode.{UnknownCode}
use Rattle.kinds.specs.Codes.{type_code}
use Rattle.table.specs.Entries.{Entry}
use Rattle.table.specs.Rows.{refs_of, names_of}
use Rattle.stream.specs.Stream.{Stream, done, cut, rec}
use Rattle.shapes.specs.declared.Fault.{Fault}
use Rattle.shapes.specs.declared.Fault.TheVariants as fault
use Rattle.shapes.specs.declared.Seen.{Seen}
use Rattle.shapes.specs.declared.Shape.{Shape}
use Rattle.shapes.specs.Shapes.{needed, whole_shape, known_shape, shape_of, seen_in, spelled_if, shape_in}
use Rattle.records.specs.Table.{Table, Room, fits, Deed, passes, pends, puts, refuses}
use Rattle.records.specs.Records.{deed_if, Outcome, go, stop, after, step_of, bad, onward, run}
use Rattle.records.specs.Promises.{Larger}

pub fits_told : (room : Room) (es : List Entry) → fits room es ≡ true
    → (length es ≤ room.entries) × (length (refs_of es) ≤ room.refs) × (length (names_of es) ≤ room.names)
unfolding fits
fits_told room es h =
    let a = and-told _ _ h in
    let b = and-told _ _ a.1 in
    (leb-true _ _ a.0, leb-true _ _ b.0, leb-true _ _ b.1)

pub fits-of : (room : Room) (es : List Entry) → length es ≤ room.entries → length (refs_of es) ≤ room.refs
    → length (names_of es) ≤ room.names → fits room es ≡ true
unfolding fits
fits-of room es x y z = rw (
  le-leb (length es) room.entries x,
  le-leb (length (refs_of es)) room.refs y,
  le-leb (length (names_of es))
      room.names z,
)

pub fits-none : (room : Room) → fits room [] ≡ true
unfolding refs_of names_of
fits-none room = fits-of room [] (omega arith) (omega arith) (omega arith)

fits_more : (a b : Room) → Larger a b → (es : List Entry) → fits a es ≡ true → fits b es ≡ true
fits_more a b l es h =
    let t = fits_told a es h in
    fits-of b es (omega (arith, l.entries)) (omega (arith, l.refs)) (omega (arith, l.names))

-- more room

module _ (a b : Room) (l : Larger a b) where
  after_more : (t : Table) (d : Deed) → (after a t d ≡ after b t d) ⊎ (after a t d ≡ stop fault.NoRoom)
  unfolding after
  after_more t passes = inl refl
  after_more t (pends bytes) = inl refl
  after_more t (puts front e) = by (fits a (front ++ (e ∷ []))) refl
    where
      by : (x : Bool) → fits a (front ++ (e ∷ [])) ≡ x
          → (after a t (puts front e) ≡ after b t (puts front e)) ⊎ (after a t (puts front e) ≡ stop fault.NoRoom)
      by true q = inl (rw (q, fits_more a b l (front ++ (e ∷ [])) q))
      by false q = inr (rw q)
  after_more t (refuses f) = inl refl

  pub run_more : (s : Stream) (n : ℕ) (t : Table) → (run a n t s ≡ run b n t s) ⊎ ((k : ℕ) × (run a n t s ≡ bad k fault.NoRoom))
  unfolding run
  run_more done n t = inl refl
  run_more cut n t = inl refl
  run_more (rec c fs s) n t = by (step_of a t c fs) (step_of b t c fs) (after_more t
      (deed_if t fs (shape_in c fs (ltb 0 (length t.pending))))) (λ u. run_more s (n + 1) u)
    where
      by : (o p : Outcome) → (o ≡ p) ⊎ (o ≡ stop fault.NoRoom)
          → ((u : Table) → (run a (n + 1) u s ≡ run b (n + 1) u s) ⊎ ((k : ℕ) × (run a (n + 1) u s ≡ bad k fault.NoRoom)))
          → (onward o n (λ u. run a (n + 1) u s) ≡ onward p n (λ u. run b (n + 1) u s)) ⊎
          ((k : ℕ) × (onward o n (λ u. run a (n + 1) u s) ≡ bad k fault.NoRoom))
      by (go u) p (inl e) later = rw (← e) (later u)
      by (go u) p (inr e) later = no (cc)
      by (stop f) p (inl e) later = inl (rw (← e))
      by (stop f) p (inr e) later = let same : f ≡ fault.NoRoom = cc in inr (n, ap (bad n) same)

-- no record is refused for room before its deed is known

abbrev pub is_no_room : Fault → Bool
is_no_room fault.LacksField = false
is_no_room (fault.UnknownCode k) = false
is_no_room fault.OldFunction = false
is_no_room fault.BadName = false
is_no_room fault.NamelessOpaque = false
is_no_room fault.AlreadyFilled = false
is_no_room (fault.SpaceTooLarge k) = false
is_no_room fault.NoRoom = true

abbrev pub Early : Result Shape Fault → Type 0
Early (Ok s) = Unit {0}
Early (Err f) = is_no_room f ≡ false

whole-early : (c : TypeCode) (s : Seen) (p : Bool) → Early (whole_shape c s p)
unfolding whole_shape
whole-early c s p = grind arith

shape-early : (c : TypeCode) (s : Seen) (p : Bool) → Early (known_shape c s p)
shape-early c s p = by (ltb s.count (needed c))
  where
    by : (b : Bool) → Early (cond b (Err fault.LacksField) (whole_shape c s p))
    by true = refl
    by false = whole-early c s p

from-early : (r : Result TypeCode UnknownCode) (s : Seen) (p : Bool) → Early (shape_of r s p)
from-early (Ok c) s p = shape-early c s p
from-early (Err e) s p = refl

spelled-early : (fs : List ℕ) (r : Result Shape Fault) → Early r → Early (spelled_if fs r)
spelled-early fs r h = grind arith

pub shape_in-early : (k : ℕ) (fs : List ℕ) (p : Bool) → Early (shape_in k fs p)
shape_in-early k fs p = spelled-early fs (shape_of (type_code k) (seen_in fs) p) (from-early (type_code k) (seen_in fs) p)
