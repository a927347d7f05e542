-- What the records do to the entries: every entry of a table that was read is formed, and the table has room.
-- Assumes nothing.
use mathlib.Core.Path.{◌≡◌, refl}
use mathlib.Core.Bool.{Bool, true, false, cond, ◌&&◌, ◌||◌}
use mathlib.Core.List.{List, [], ◌∷◌, ◌++◌}
use Prim.Native.Nat.{ℕ, ◌+◌, ◌≤◌}
use native.Mathlib.Omega.{arith}
use lib.Dec.{eqb, leb, ltb}
use lib.ListN.{length, take, drop, length-drop}
use lib.Seq.{length-take-le}
use borrow.Author.Tests.{eqb-true}
use Rattle.laws.proofs.Told.{no, and-told}
use Rattle.laws.proofs.Bools.{or-true}
use Rattle.kinds.specs.Kinds.{struct}
use Rattle.table.specs.Entries.{Name, unnamed, called, Form, Entry, bytes_of, named_of}
use Rattle.stream.specs.Stream.{Stream, done, cut, rec}
use Rattle.shapes.specs.declared.Head.{Head}
use Rattle.shapes.specs.declared.Fault.TheVariants.{AlreadyFilled, NoRoom}
use Rattle.std.proofs.Common.{Result, Ok, Err}
use Rattle.shapes.specs.declared.Fault.{Fault}
use Rattle.shapes.specs.declared.Shape.{Shape}
use Rattle.shapes.specs.declared.Shape.TheVariants as says
use Rattle.shapes.specs.Shapes.{shape_in}
use Rattle.shapes.proofs.Laws.Shapes.{last_field, Inside, shape_in-inside}
use Rattle.formed.specs.Form.{formed}
use Rattle.formed.proofs.Laws.Formed.{FormedEntry, Every}
use Rattle.records.specs.Table.{Table, Room, fits, Deed, passes, pends, puts, refuses, form_of, entry_of, name_if}
use Rattle.records.specs.Fill.{last_form, front_of, is_named, is_struct}
use Rattle.records.specs.Records.{deed_on, deed_if, Outcome, go, stop, pending_after, after, step_of, whole, onward, run}
use Rattle.records.proofs.Laws.Forms.{FairHead, Fair, shape_in-fair}

Every-snoc : (es : List Entry) (e : Entry) → Every es → FormedEntry e → Every (es ++ (e ∷ []))
Every-snoc [] e all h = (h, tt)
Every-snoc (x ∷ es) e all h = (all.0, Every-snoc es e all.1 h)

Every-front : (es : List Entry) → Every es → Every (front_of es)
Every-front [] all = tt
Every-front (x ∷ []) all = tt
Every-front (x ∷ y ∷ es) all = (all.0, Every-front (y ∷ es) all.1)

Every-last : (es : List Entry) → is_struct (last_form es) ≡ true → Every es → FormedEntry (entry_of (last_form es))
Every-last [] e all = no (cc)
Every-last (x ∷ []) e all = all.0
Every-last (x ∷ y ∷ es) e all = Every-last (y ∷ es) e all.1

-- an entry by its head
by-head : (p fs : List ℕ) (h : Head) (from : ℕ) → from + h.count ≤ length fs → FairHead h → FormedEntry (entry_of (form_of p fs h from))
unfolding formed
by-head p fs h from inside fair =
    let count : length (take h.count (drop from fs)) ≡ h.count =
    length-take-le h.count (drop from fs) (simp length-drop (omega arith)) in
    rw count (by h.named fair)
  where
    by : (b : Bool)
        → ((len : ℕ) → formed (record {
          kind = h.kind;
          number = h.number;
          flag = h.flag;
          first = 0;
          count = h.count;
          start = 0;
          len =
              cond b len 0;
          named = cond b 1 0;
        }) ≡ true)
        → formed (record {
          kind = h.kind;
          number = h.number;
          flag = h.flag;
          first = 0;
          count = h.count;
          start = 0;
          len = length
              (bytes_of (name_if b p));
          named = named_of (name_if b p);
        }) ≡ true
    by true f = f (length p)
    by false f = f 0

-- the last struct with other references and another name
refill-formed : (last : Form) (refs : List ℕ) (n : Name) → is_struct last ≡ true → FormedEntry (entry_of last)
    → FormedEntry (entry_of (record { kind = last.kind; number = last.number; flag = last.flag; refs = refs; name = n }))
unfolding formed
refill-formed last refs n is was =
    let kind : last.kind ≡ struct = eqb-true last.kind struct is in
    let names = leb (named_of last.name) 1 && (eqb (length (bytes_of last.name)) 0 || eqb (named_of last.name) 1) in
    let words : eqb last.number 0 && (leb last.flag 1 && names) ≡ true = rw kind at was in
    let number = and-told (eqb last.number 0) (leb last.flag 1 && names) words in
    let flag = and-told (leb last.flag 1) names number.1 in
    let first = number.0 in
    let second = flag.0 in
    rw (kind, first, second) (by n)
  where
    by : (m : Name) → leb (named_of m) 1 && (eqb (length (bytes_of m)) 0 || eqb (named_of m) 1) ≡ true
    by unnamed = refl
    by (called bytes) = or-true (eqb (length bytes) 0)

abbrev FormedDeed : Deed → Type 0
FormedDeed passes = Unit {0}
FormedDeed (pends bytes) = Unit {0}
FormedDeed (puts front e) = Every front × FormedEntry e
FormedDeed (refuses fault) = Unit {0}

module _ (t : Table) (fs : List ℕ) (all : Every t.entries) where
  fill-formed : (h : Head) (from : ℕ) (barred : Bool) (refs : List ℕ) → from + h.count ≤ length fs → FairHead h → (b : Bool)
      → is_struct (last_form t.entries) ≡ b
      → FormedDeed (cond b (cond barred (refuses AlreadyFilled) (puts (front_of t.entries)
      (entry_of (record {
        kind = (last_form t.entries).kind;
        number = (last_form t.entries).number;
        flag = (last_form t.entries).flag;
        refs = refs;
        name = name_if h.named t.pending;
      }))))
      (puts t.entries (entry_of (form_of t.pending fs h from))))
  fill-formed h from true refs inside fair true is = tt
  fill-formed h from false refs inside fair true is = (
    Every-front t.entries all,
    refill-formed (last_form t.entries) refs (name_if h.named t.pending) is
        (Every-last t.entries is all),
  )
  fill-formed h from barred refs inside fair false is = (all, by-head t.pending fs h from inside fair)

  deed-formed : (s : Shape) → Fair (Ok s) → last_field s ≤ length fs → FormedDeed (deed_on t fs s)
  deed-formed says.Nothing fair inside = tt
  deed-formed says.Name fair inside = tt
  deed-formed (says.Adds h from) fair inside = (all, by-head t.pending fs h from inside fair)
  deed-formed (says.Opaque h from) fair inside =
      fill-formed h from (is_named (last_form t.entries).name) (last_form t.entries).refs inside fair
      (is_struct (last_form t.entries)) refl
  deed-formed (says.Named h from) fair inside =
      fill-formed h from (is_named (last_form t.entries).name || ltb 0 (length (last_form t.entries).refs))
      (take h.count (drop from fs)) inside fair (is_struct (last_form t.entries)) refl

  deed_if-formed : (r : Result Shape Fault) → Fair r → Inside r (length fs) → FormedDeed (deed_if t fs r)
  deed_if-formed (Ok s) fair inside = deed-formed s fair inside
  deed_if-formed (Err fault) fair inside = tt

-- what every record keeps, the whole stream keeps

abbrev Keeps : (List Entry → Type 0) → Outcome → Type 0
Keeps Q (go u) = Q u.entries
Keeps Q (stop fault) = Unit {0}

pub run-keeps : (Q : List Entry → Type 0) (room : Room)
    → ((t : Table) (c : ℕ) (fs : List ℕ) → Q t.entries → Keeps Q (step_of room t c fs))
    → (s : Stream) (n : ℕ) (t u : Table) → Q t.entries → run room n t s ≡ whole u → Q u.entries
unfolding run
run-keeps Q room step done n t u q e = let same : t ≡ u = cc in rw same at q
run-keeps Q room step cut n t u q e = let same : t ≡ u = cc in rw same at q
run-keeps Q room step (rec c fs s) n t u q e = by (step_of room t c fs) (step t c fs q) (λ v. run-keeps Q room step s (n + 1) v u) e
  where
    by : (o : Outcome) → Keeps Q o → ((v : Table) → Q v.entries → run room (n + 1) v s ≡ whole u → Q u.entries)
        → onward o n (λ v. run room (n + 1) v s) ≡ whole u → Q u.entries
    by (go v) k later r = later v k r
    by (stop fault) k later r = no (cc)

after-keeps : (Q : List Entry → Type 0) (room : Room) (t : Table) → Q t.entries → (d : Deed)
    → ((front : List Entry) (e : Entry) → d ≡ puts front e → fits room (front ++ (e ∷ [])) ≡ true → Q (front ++ (e ∷ [])))
    → Keeps Q (after room t d)
unfolding after
after-keeps Q room t q passes h = q
after-keeps Q room t q (pends bytes) h = q
after-keeps Q room t q (puts front e) h = by (fits room (front ++ (e ∷ []))) refl (h front e refl)
  where
    by : (b : Bool) → fits room (front ++ (e ∷ [])) ≡ b → (fits room (front ++ (e ∷ [])) ≡ true → Q (front ++ (e ∷ [])))
        → Keeps Q (cond b (go (record { entries = front ++ (e ∷ []); pending = pending_after e.form.name t.pending })) (stop NoRoom))
    by true is f = f is
    by false is f = tt
after-keeps Q room t q (refuses fault) h = tt

pub step-formed : (room : Room) (t : Table) (c : ℕ) (fs : List ℕ) → Every t.entries → Keeps Every (step_of room t c fs)
step-formed room t c fs all =
    let p = ltb 0 (length t.pending) in
    let good = deed_if-formed t fs all (shape_in c fs p) (shape_in-fair c fs p) (shape_in-inside c fs p) in
    after-keeps Every room t all (deed_if t fs (shape_in c fs p)) (λ front e is fit. let both-formed : Every front × FormedEntry e = rw is
    at good in Every-snoc front e both-formed.0 both-formed.1)

pub step_fits : (room : Room) (t : Table) (c : ℕ) (fs : List ℕ) → fits room t.entries ≡ true
    → Keeps (λ es. fits room es ≡ true) (step_of room t c fs)
step_fits room t c fs q =
    after-keeps (λ es. fits room es ≡ true) room t q (deed_if t fs (shape_in c fs (ltb 0 (length t.pending)))) (λ front e is fit. fit)
