-- The promises of specs/Promises.antt, by the laws of the run.
-- Assumes nothing.
use mathlib.Core.Path.{◌≡◌, refl, sym, ap, ◌∙◌}
use mathlib.Core.Bool.{Bool, true, false, cond}
use mathlib.Core.Logic.{◌⊎◌, inl, inr}
use mathlib.Core.List.{List, []}
use Prim.Native.Nat.{ℕ}
use native.Mathlib.Omega.{arith}
use lib.Dec.{eqb}
use lib.ListN.{length}
use Rattle.laws.proofs.Told.{no}
use Rattle.table.specs.Buffers.{padded}
use Rattle.table.specs.Entries.{Entry}
use Rattle.table.proofs.Laws.Back.{entries_from-flat, Flat-whole}
use Rattle.std.proofs.Common.{Some, None, Result, Ok, Err}
use Rattle.stream.specs.declared.Cut.{Cut}
use Rattle.stream.specs.Stream.{stream, framed}
use Rattle.stream.specs.Count.{num_entries, Stated, stated_by}
use Rattle.shapes.specs.declared.Fault.TheVariants.{NoRoom}
use Rattle.formed.proofs.Laws.Formed.{Every, well_formed-flat}
use Rattle.records.specs.declared.Error.TheVariants.{BadRecord, CountDiffers}
use Rattle.records.specs.Table.{Table, Room, empty, fits}
use Rattle.records.specs.Records.{Ran, whole, bad, run}
use Rattle.records.specs.Read.{Output, by_entries, by_count, by_frame, reading}
use Rattle.records.specs.Promises.{Determined, ReadsBack, RowsFormed, InRoom, MoreRoom, EnoughRoom}
use Rattle.records.proofs.Laws.Entries.{run-keeps, step-formed, step_fits}
use Rattle.records.proofs.Laws.Room.{fits_told, fits-none, run_more}
use Rattle.records.proofs.Laws.Enough.{run-enough}

-- a stream that is taken was run to its end

entries-taken : (stated : ℕ) (r : Ran) (es : List Entry) → by_entries stated r ≡ Ok es → (t : Table) × (r ≡ whole t) × (t.entries ≡ es)
entries-taken stated (whole t) es e = by (eqb stated (length t.entries)) e
  where
    by : (b : Bool) → cond b (Ok t.entries) (Err (CountDiffers stated (length t.entries))) ≡ Ok es
        → (u : Table) × (whole t ≡ whole u) × (u.entries ≡ es)
    by true q = (t, refl, cc)
    by false q = no (cc)
entries-taken stated (bad n f) es e = no (cc)

run-taken : (f : Result (Unit {0}) Cut) (s : Stated) (r : Ran) (es : List Entry) → by_frame f (by_count s r) ≡ Ok es
    → (t : Table) × (r ≡ whole t) × (t.entries ≡ es)
run-taken (Err head) s r es e = no (cc)
run-taken (Ok ok) (Ok None) r es e = no (cc)
run-taken (Ok ok) (Err faulty) r es e = no (cc)
run-taken (Ok ok) (Ok (Some n)) r es e = entries-taken n r es e

reading-taken : (room : Room) (ws : List ℕ) (es : List Entry) → reading room ws ≡ Ok es
    → (t : Table) × (run room 0 empty (stream ws) ≡ whole t) × (t.entries ≡ es)
unfolding reading
reading-taken room ws es e = run-taken (framed 0 (stream ws)) (stated_by (num_entries (stream ws))) (run room 0 empty (stream ws)) es e

pub determined : Determined
determined words rows refs names witness a b r s f g m n p q =
    let same = p ∙ sym q in
    (ap (λ (o : Output). o.answer) same, ap (λ (o : Output). o.rows) same, ap (λ (o : Output). o.refs) same, ap (λ (o : Output). o.names) same)

pub reads-back : ReadsBack
unfolding padded
reads-back room ws es r f n e = entries_from-flat es 0 [] [] [] _ _ _ (Flat-whole es _ _ _)

every-formed : (room : Room) (ws : List ℕ) (es : List Entry) → reading room ws ≡ Ok es → Every es
every-formed room ws es e =
    let u = reading-taken room ws es e in
    let same = u.2 in
    rw same at (run-keeps Every room (step-formed room) (stream ws) 0 empty u.0 tt u.1)

pub rows-formed : RowsFormed
unfolding padded
rows-formed room ws es r f n e = well_formed-flat es _ _ _ (every-formed room ws es e)

pub in-room : InRoom
in-room room ws es e =
    let u = reading-taken room ws es e in
    let same = u.2 in
    let kept : fits room u.0.entries ≡ true =
    run-keeps (λ l. fits room l ≡ true) room (step_fits room) (stream ws) 0 empty u.0 (fits-none room) u.1 in
    fits_told room es (rw same at kept)

more_by : (f : Result (Unit {0}) Cut) (s : Stated) (r q : Ran) → (r ≡ q) ⊎ ((k : ℕ) × (r ≡ bad k NoRoom))
    → (by_frame f (by_count s r) ≡ by_frame f (by_count s q)) ⊎ ((k : ℕ) × (by_frame f (by_count s r) ≡ Err (BadRecord k NoRoom)))
more_by f s r q (inl e) = inl (rw e)
more_by (Err head) s r q (inr h) = inl refl
more_by (Ok ok) (Ok None) r q (inr h) = inl refl
more_by (Ok ok) (Err faulty) r q (inr h) = inl refl
more_by (Ok ok) (Ok (Some n)) r q (inr h) = let e = h.1 in inr (h.0, rw e)

pub more_room : MoreRoom
unfolding reading
more_room a b ws l =
    more_by (framed 0 (stream ws)) (stated_by (num_entries (stream ws))) (run a 0 empty (stream ws)) (run b 0 empty (stream ws))
    (run_more a b l (stream ws) 0 empty)

nine-by : (f : Result (Unit {0}) Cut) (s : Stated) (r : Ran) (k : ℕ) → by_frame f (by_count s r) ≡ Err (BadRecord k NoRoom) → r ≡ bad k NoRoom
nine-by f s r k e = grind arith

pub enough-room : EnoughRoom
unfolding reading
enough-room ws =
    let h = run-enough (stream ws) 0 empty in (
      h.0,
      λ b l nine. h.1 b l nine.0 (nine-by (framed 0 (stream ws)) (stated_by (num_entries (stream ws))) (run b 0 empty (stream ws))
          nine.0 nine.1),
    )
