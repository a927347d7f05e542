-- The turn of a record: what its deed leaves in the outputs is the table after the deed.
-- Assumes nothing.
use mathlib.Core.Path.{◌≡◌, refl, sym, ap, ◌∙◌}
use mathlib.Core.Bool.{true, false}
use mathlib.Core.List.{List, [], ◌∷◌, ◌++◌, append_assoc}
use Prim.Native.Nat.{ℕ, ◌+◌, ◌-◌, ◌*◌, ◌≤◌}
use native.Mathlib.Omega.{arith}
use lib.Dec.{ltb}
use lib.ListN.{length, take, drop, length-append}
use borrow.Author.Tests.{lt-ltb, le-ltb}
use Rattle.table.specs.declared.row.Row.{Row}
use Rattle.table.specs.Buffers.{over}
use Rattle.table.specs.Entries.{Entry}
use Rattle.table.specs.Rows.{row_words, words_of, row_of, rows_of, refs_of, names_of}
use Rattle.table.proofs.Laws.Buffers.{length_over, over-rest, over-again}
use Rattle.table.proofs.Laws.Rows.{rows_of-snoc, length-rows_of}
use Rattle.shapes.specs.declared.Fault.{Fault}
use Rattle.shapes.specs.declared.Fault.TheVariants.{NoRoom}
use Rattle.records.specs.declared.Filled.{Filled}
use Rattle.records.specs.declared.Put.{Put}
use Rattle.std.proofs.Common.{Result, Ok, Err}
use Rattle.records.specs.Table.{Table, Room, fits, passes, pends, puts, refuses}
use Rattle.records.specs.Records.{Outcome, after}
use Rattle.records.specs.Values.{filled_of, end_of, has_room, row_for, grown}
use Rattle.records.specs.Held.{Buffers, room_in, Holds, After}
use Rattle.records.specs.Putting.{Puts}
use Rattle.records.proofs.Laws.Values.{room-told}
use Rattle.records.proofs.Laws.Putting.{names-join, same-filled, refs-after, names-after, refs-count, names-count, row-after}
use Rattle.records.proofs.Laws.Putting.{filled-after, room_after}

pub pending-is : (f : Filled) (t : Table) → f ≡ filled_of t → ltb f.taken f.mark ≡ ltb 0 (length t.pending)
pending-is f t is = ap (λ (x : Filled). ltb x.taken x.mark) is ∙ by t.pending (length (names_of t.entries))
  where
    by : (p : List ℕ) (n : ℕ) → ltb n (n + length p) ≡ ltb 0 (length p)
    by [] n = le-ltb n (n + 0) (omega arith) ∙ sym (le-ltb 0 0 (omega arith))
    by (x ∷ p) n = lt-ltb n (n + length (x ∷ p)) (omega arith) ∙ sym (lt-ltb 0 (length (x ∷ p)) (omega arith))

-- what is known of an outcome is known of an equal one
pub step_after : (b : Buffers) (o u : Outcome) (s : Result Filled Fault) (x y z : List ℕ) → u ≡ o → After b o s x y z → After b u s x y z
step_after b o u s x y z e h = rw e h

module _ (b : Buffers) (t : Table) (rows refs names : List ℕ) (H : Holds b t rows refs names) where
  pub length-rows : length rows ≡ length b.rows
  length-rows = ap length H.rows_are ∙ length_over (rows_of t.entries) b.rows

  pub length-refs : length refs ≡ length b.refs
  length-refs = ap length H.refs_are ∙ length_over (refs_of t.entries) b.refs

  pub length-names : length names ≡ length b.names
  length-names = ap length H.names_are ∙ length_over (names_of t.entries ++ t.pending) b.names

  pub After-pass : (room : Room) (f : Filled) → f ≡ filled_of t → After b (after room t passes) (Ok f) rows refs names
  unfolding after
  After-pass room f is = (ap Ok is, H)

  pub After-refuse : (room : Room) (fault : Fault) → After b (after room t (refuses fault)) (Err fault) rows refs names
  unfolding after
  After-refuse room fault = refl

  pub After-pend : (room : Room) (f g : Filled) (fs z : List ℕ) → f ≡ filled_of t
      → g ≡ record { entries = f.entries; refs = f.refs; taken = f.taken; mark = f.mark + length fs; last = f.last }
      → z ≡ over ((names_of t.entries ++ t.pending) ++ fs) b.names → After b (after room t (pends fs)) (Ok g) rows refs z
  unfolding after
  After-pend room f g fs z is is-g is-z =
      let n = length (names_of t.entries) in
      let m : n + length t.pending + length fs ≡ n + length (t.pending ++ fs) = simp length-append (omega arith) in
      let next = filled_of (record { entries = t.entries; pending = t.pending ++ fs }) in
      let k : f.mark ≡ n + length t.pending = ap (λ (x : Filled). x.mark) is in (
        ap Ok (is-g ∙ same-filled _ next (ap (λ (x : Filled). x.entries) is) (ap (λ (x : Filled). x.refs) is)
            (ap (λ (x : Filled). x.taken) is) (rw k m) (ap (λ (x : Filled). x.last) is)),
        record {
          rows_are = H.rows_are;
          refs_are = H.refs_are;
          names_are = rw (← (append_assoc (names_of t.entries) t.pending fs)) is-z;
          rows_fit = H.rows_fit;
          refs_fit = H.refs_fit;
          names_fit = H.names_fit;
        },
      )

  module _ (fs : List ℕ) (p : Put) (front : List Entry) (e : Entry) (P : Puts t fs p front e) (inside : p.from + p.more ≤ length fs)
      (entries : ℕ) (f : Filled) (is : f ≡ filled_of t) (y z : ℕ) (is_y : y ≡ length refs) (is-z : z ≡ length b.names) where
    room-is : has_room p f entries y z ≡ fits (room_in entries b) (front ++ (e ∷ []))
    room-is = rw (is, is_y ∙ length-refs, is-z) (room_after t fs p front e P inside entries b)

    pub After-full : has_room p f entries y z ≡ false → After b (after (room_in entries b) t (puts front e)) (Err NoRoom) rows refs names
    unfolding after
    After-full none = rw (sym room-is ∙ none)

    pub After-put : has_room p f entries y z ≡ true → entries * row_words ≤ length rows → (g : Filled) (r : Row) (x y' src : List ℕ)
        → g ≡ grown p f → r ≡ row_for p f → src ≡ take p.more (drop p.from fs)
        → x ≡ over (words_of r) (take (length rows - p.row * row_words) (drop (p.row * row_words) rows))
        → y' ≡ over src (take (length refs - f.refs) (drop f.refs refs))
        → After b (after (room_in entries b) t (puts front e)) (Ok g)
        (take (p.row * row_words) rows ++ (x ++ drop (length rows - p.row * row_words) (drop (p.row * row_words) rows)))
        (take f.refs refs ++ (y' ++ drop (length refs - f.refs) (drop f.refs refs))) names
    unfolding after
    After-put room le g r x y' src is-g is-r is-src is_x is-y' =
        let told = room-told p f entries y z room in
        let refs-mark : f.refs ≡ length (refs_of t.entries) = ap (λ (v : Filled). v.refs) is in
        let end : end_of p f ≡ length (names_of (front ++ (e ∷ []))) = ap (end_of p) is ∙ sym (names-count t fs p front e P inside) in
        let row : words_of r ≡ words_of (row_of (length (refs_of front)) (length (names_of front)) e) =
        ap words_of (is-r ∙ ap (row_for p) is) ∙ row-after t fs p front e P inside in
        let at : p.row * row_words ≡ length (rows_of front) = omega (arith, length-rows_of front, P.row_is) in
        let long : length rows ≡ length b.rows = length-rows in
        let old : rows ≡ over (rows_of front ++ P.old_row) b.rows = H.rows_are ∙ ap (λ (l : List ℕ). over l b.rows) P.rows_were in
        rw (sym room-is ∙ room) (
          ap Ok (is-g ∙ ap (grown p) is ∙ filled-after t fs p front e P inside),
          record {
            rows_are = over-again (rows_of front) b.rows rows x (p.row * row_words) at (omega arith) P.old_row (words_of r) old
                P.old_le (simp length-append (omega arith)) is_x ∙ rw (row, rows_of-snoc front e);
            refs_are = over-rest (refs_of t.entries) b.refs refs y' f.refs refs-mark H.refs_fit src H.refs_are is-y' ∙
                rw (is-src, refs-after t fs p front e P inside);
            names_are = H.names_are ∙ ap (λ (l : List ℕ). over l b.names)
                (names-join p.head.named t.pending (names_of t.entries) ∙ rw (names-after t fs p front e P inside, P.name_is));
            rows_fit = simp length-append (omega (arith, P.row_is));
            refs_fit = omega (arith, refs-count t fs p front e P inside, length-refs);
            names_fit = omega arith;
          },
        )
