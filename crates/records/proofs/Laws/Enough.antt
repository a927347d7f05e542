-- With room enough no record is refused for room: each record asks for so much and no more.
--     Enough r     there is a room from which on r is no 9
-- Assumes nothing.
use mathlib.Core.Path.{◌≡◌}
use mathlib.Core.Bool.{true, false}
use mathlib.Core.List.{List, [], ◌∷◌, ◌++◌}
use Prim.Native.Nat.{ℕ, ◌+◌}
use native.Mathlib.Omega.{arith}
use lib.Dec.{ltb}
use lib.ListN.{length}
use Rattle.laws.proofs.Told.{no}
use Rattle.table.specs.Entries.{Entry}
use Rattle.table.specs.Rows.{refs_of, names_of}
use Rattle.stream.specs.Stream.{Stream, done, cut, rec}
use Rattle.shapes.specs.declared.Fault.{Fault}
use Rattle.shapes.specs.declared.Fault.TheVariants.{NoRoom}
use Rattle.std.proofs.Common.{Result}
use Rattle.shapes.specs.declared.Shape.{Shape}
use Rattle.shapes.specs.Shapes.{shape_in}
use Rattle.records.specs.Table.{Table, Room, fits, Deed, passes, pends, puts, refuses}
use Rattle.records.specs.Records.{deed_if, pending_after, after, Ran, bad, onward, run}
use Rattle.records.specs.Promises.{Larger}
use Rattle.records.proofs.Laws.Room.{is_no_room, Early, shape_in-early, fits-of}

abbrev EarlyDeed : Deed → Type 0
EarlyDeed passes = Unit {0}
EarlyDeed (pends bytes) = Unit {0}
EarlyDeed (puts front e) = Unit {0}
EarlyDeed (refuses f) = is_no_room f ≡ false

deed-early : (t : Table) (fs : List ℕ) (r : Result Shape Fault) → Early r → EarlyDeed (deed_if t fs r)
deed-early t fs r h = grind arith

abbrev pub Enough : (Room → Ran) → Type 0
Enough r = (room : Room) × ((b : Room) → Larger room b → (k : ℕ) → r b ≡ bad k NoRoom → ⊥)

abbrev no_room : Room
no_room = record { entries = 0; refs = 0; names = 0 }

not-early : (n k : ℕ) (f : Fault) → is_no_room f ≡ false → bad n f ≡ bad k NoRoom → ⊥
not-early n k f early e = grind arith

module _ (n : ℕ) (t : Table) (s : Stream) (later : (u : Table) → Enough (λ b. run b (n + 1) u s)) where
  put-enough : (front : List Entry) (e : Entry) → Enough (λ b. onward (after b t (puts front e)) n (λ u. run b (n + 1) u s))
  unfolding after
  put-enough front e =
      let es = front ++ (e ∷ []) in
      let u : Table = record { entries = es; pending = pending_after e.form.name t.pending } in
      let next = later u in
      let room : Room = record {
        entries = next.0.entries + length es;
        refs = next.0.refs + length (refs_of es);
        names = next.0.names +
            length (names_of es);
      } in (
        room,
        λ b l k q.
            let fit : fits b es ≡ true = fits-of b es (omega (arith, l.entries)) (omega (arith, l.refs)) (omega (arith, l.names)) in
            let larger : Larger next.0 b =
            record { entries = omega (arith, l.entries); refs = omega (arith, l.refs); names = omega (arith, l.names) } in
            next.1 b larger k (rw fit at q),
      )

  step-enough : (d : Deed) → EarlyDeed d → Enough (λ b. onward (after b t d) n (λ u. run b (n + 1) u s))
  unfolding after
  step-enough passes early = later t
  step-enough (pends bytes) early = later (record { entries = t.entries; pending = t.pending ++ bytes })
  step-enough (puts front e) early = put-enough front e
  step-enough (refuses f) early = (no_room, λ b l k q. not-early n k f early q)

pub run-enough : (s : Stream) (n : ℕ) (t : Table) → Enough (λ b. run b n t s)
unfolding run
run-enough done n t = (no_room, λ b l k q. no (cc))
run-enough cut n t = (no_room, λ b l k q. no (cc))
run-enough (rec c fs s) n t =
    let p = ltb 0 (length t.pending) in
    step-enough n t s (λ u. run-enough s (n + 1) u) (deed_if t fs (shape_in c fs p)) (deed-early t fs (shape_in c fs p) (shape_in-early c fs p))
