-- Laws of specs/Putting.antt: an entry that is put makes the row, the marks and the room of the table with that entry last.
-- Assumes nothing.
use mathlib.Core.Path.{◌≡◌, refl, sym, ap, ◌∙◌}
use mathlib.Core.Bool.{Bool, true, false, cond}
use mathlib.Core.List.{List, [], ◌∷◌, ◌++◌, append-nil, append_assoc}
use Prim.Native.Nat.{ℕ, ◌+◌, ◌-◌, ◌≤◌}
use native.Mathlib.Omega.{arith}
use lib.Dec.{leb, ltb}
use lib.ListN.{length, take, drop, length-append, length-drop}
use lib.Seq.{length-take-le}
use borrow.Author.Tests.{le-leb, lt-leb, ltb-true, ltb-false}
use Rattle.table.specs.declared.row.Row.{Row}
use Rattle.table.specs.Entries.{Name, Entry, bytes_of, named_of}
use Rattle.table.specs.Rows.{words_of, row_of, refs_of, names_of}
use Rattle.table.proofs.Laws.Rows.{refs_of-snoc, names_of-snoc}
use Rattle.shapes.specs.declared.Head.{Head}
use Rattle.records.specs.declared.Filled.{Filled}
use Rattle.records.specs.declared.Put.{Put}
use Rattle.records.specs.Table.{Table, fits, name_if}
use Rattle.records.specs.Fill.{last_form}
use Rattle.records.specs.Records.{pending_after}
use Rattle.records.specs.Values.{head_of, filled_of, end_of, has_room, row_for, grown}
use Rattle.records.specs.Held.{Buffers, room_in}
use Rattle.records.specs.Putting.{Puts}

pub last_form-snoc : (es : List Entry) (e : Entry) → last_form (es ++ (e ∷ [])) ≡ e.form
last_form-snoc [] e = refl
last_form-snoc (x ∷ []) e = refl
last_form-snoc (x ∷ y ∷ es) e = last_form-snoc (y ∷ es) e

-- a name that is taken, or none

ends : (b : Bool) (p : List ℕ) (m : ℕ) → m + length (bytes_of (name_if b p)) ≡ cond b (m + length p) m
ends b p m = grind arith

ends-pending : (b : Bool) (p : List ℕ) (m : ℕ) → m + length p ≡ m + length (bytes_of (name_if b p)) + length (pending_after (name_if b p) p)
ends-pending b p m = grind arith

name-length : (b : Bool) (p : List ℕ) (m : ℕ) → cond b (m + length p) m - m ≡ length (bytes_of (name_if b p))
name-length b p m = grind arith

named-word : (b : Bool) (p : List ℕ) → cond b 1 0 ≡ named_of (name_if b p)
named-word b p = grind arith

pub names-join : (b : Bool) (p ns : List ℕ) → ns ++ p ≡ (ns ++ bytes_of (name_if b p)) ++ pending_after (name_if b p) p
names-join true p ns = sym (append-nil (ns ++ p))
names-join false p ns = rw (append-nil ns)

leb-suc : (n m : ℕ) → ltb n m ≡ leb (n + 1) m
leb-suc n m = by (ltb n m) refl
  where
    by : (b : Bool) → ltb n m ≡ b → b ≡ leb (n + 1) m
    by true e = sym (le-leb (n + 1) m (let lt = ltb-true n m e in omega arith))
    by false e = sym (lt-leb (n + 1) m (let le = ltb-false n m e in omega arith))

same_row : (r s : Row) → r.kind ≡ s.kind → r.number ≡ s.number → r.flag ≡ s.flag → r.first ≡ s.first → r.count ≡ s.count
    → r.start ≡ s.start → r.len ≡ s.len → r.named ≡ s.named → r ≡ s
same_row r s a b c d e f g h = rw (← a, ← b, ← c, ← d, ← e, ← f, ← g, ← h)

pub same-filled : (a b : Filled) → a.entries ≡ b.entries → a.refs ≡ b.refs → a.taken ≡ b.taken → a.mark ≡ b.mark → a.last ≡ b.last
    → a ≡ b
same-filled a b p q r s t = rw (← p, ← q, ← r, ← s, ← t)

module _ (t : Table) (fs : List ℕ) (p : Put) (front : List Entry) (e : Entry) (P : Puts t fs p front e)
    (inside : p.from + p.more ≤ length fs) where
  abbrev added : List ℕ
  added = take p.more (drop p.from fs)

  length-added : length added ≡ p.more
  length-added = length-take-le p.more (drop p.from fs) (simp length-drop (omega arith))

  pub refs-after : refs_of (front ++ (e ∷ [])) ≡ refs_of t.entries ++ take p.more (drop p.from fs)
  refs-after =
      refs_of-snoc front e ∙ rw (P.refs_are, P.refs_were) (sym (append_assoc (refs_of front) P.kept_refs
      (take p.more (drop p.from fs))))

  pub names-after : names_of (front ++ (e ∷ [])) ≡ names_of t.entries ++ bytes_of (name_if p.head.named t.pending)
  names-after = names_of-snoc front e ∙ rw (P.name_is, P.names_were)

  pub refs-count : length (refs_of (front ++ (e ∷ []))) ≡ length (refs_of t.entries) + p.more
  refs-count = ap length refs-after ∙ length-append (refs_of t.entries) added ∙ rw length-added

  pub names-count : length (names_of (front ++ (e ∷ []))) ≡ end_of p (filled_of t)
  names-count =
      ap length names-after ∙ length-append (names_of t.entries) (bytes_of (name_if p.head.named t.pending))
      ∙ ends p.head.named t.pending (length (names_of t.entries))

  pub row-after : words_of (row_for p (filled_of t)) ≡ words_of (row_of (length (refs_of front)) (length (names_of front)) e)
  row-after =
      let h : p.head ≡ head_of e.form = P.head_is in
      let count : p.head.count ≡ length e.form.refs = ap (λ (x : Head). x.count) h in
      let place : length (refs_of t.entries) - p.kept ≡ length (refs_of front) =
      omega (arith, ap length P.refs_were, length-append (refs_of front) P.kept_refs, P.kept_is) in
      let taken : length (names_of t.entries) ≡ length (names_of front) = ap length P.names_were in
      let len : end_of p (filled_of t) - length (names_of t.entries) ≡ length (bytes_of e.form.name) =
      name-length p.head.named t.pending (length (names_of t.entries)) ∙ ap (λ (n : Name). length (bytes_of n)) (sym P.name_is)
      in
      ap words_of (same_row (row_for p (filled_of t)) (row_of (length (refs_of front)) (length (names_of front)) e)
      (ap (λ (x : Head). x.kind) h) (ap (λ (x : Head). x.number) h) (ap (λ (x : Head). x.flag) h)
      (rw (count, place)) count (rw (len, taken)) len (named-word p.head.named t.pending ∙ ap named_of (sym P.name_is)))

  pub filled-after : grown p (filled_of t) ≡ filled_of (record {
    entries = front ++ (e ∷ []);
    pending = pending_after e.form.name
        t.pending;
  })
  filled-after =
      let n = length (names_of t.entries) in
      let mark : n + length t.pending ≡ length (names_of (front ++ (e ∷ []))) + length (pending_after e.form.name t.pending) =
      ends-pending p.head.named t.pending n ∙ rw (names-count, ends p.head.named t.pending n, P.name_is) in
      same-filled (grown p (filled_of t)) (filled_of (record {
        entries = front ++ (e ∷ []);
        pending = pending_after e.form.name
            t.pending;
      }))
      (omega (arith, length-append front (e ∷ []), P.row_is)) (sym refs-count) (sym names-count) mark
      (rw (last_form-snoc front e) P.head_is)

  pub room_after : (entries : ℕ) (b : Buffers)
      → has_room p (filled_of t) entries (length b.refs) (length b.names) ≡ fits (room_in entries b) (front ++ (e ∷ []))
  unfolding fits
  room_after entries b =
      let n : length (front ++ (e ∷ [])) ≡ p.row + 1 = omega (arith, length-append front (e ∷ []), P.row_is) in
      rw (refs-count, names-count, n, leb-suc p.row entries)
