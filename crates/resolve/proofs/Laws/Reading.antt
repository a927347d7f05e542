-- Well-formed buffers hold the entries that their rows say: the other way of Laws/Entries.
-- Assumes nothing.
use mathlib.Core.Path.{◌≡◌, refl, sym, ap, ◌∙◌}
use mathlib.Core.Bool.{Bool, true, false, cond, ◌&&◌, ◌||◌}
use mathlib.Core.List.{List, ◌∷◌, ◌++◌, append_assoc}
use Prim.Native.Nat.{ℕ, zero, suc, ◌+◌, ◌*◌, ◌-◌, ◌≤◌, ◌<◌}
use native.Mathlib.Omega.{arith}
use native.Mathlib.Numerals.{add-one}
use lib.Dec.{eqb, leb}
use lib.ListN.{length, get_or, take, drop, length-drop, take-append-drop}
use lib.Seq.{drop-cons, drop-drop, length-take-le}
use borrow.Author.Tests.{eqb-true, leb-true}
use Rattle.laws.proofs.Conjunctions.{and-true}
use Rattle.kinds.specs.Kinds.{struct, opaque_pointer}
use Rattle.table.specs.declared.row.Row.{Row}
use Rattle.table.specs.Entries.{Entry, bytes_of, named_of}
use Rattle.table.specs.Rows.{row_words, entry_room, row_at, words_of, row_of, place_of, rows_from, refs_of, names_of}
use Rattle.table.specs.Back.{name_by, entry_at, entries_from}
use Rattle.table.proofs.Laws.Rows.{row_at-is}
use Rattle.rules.specs.Lawful.{max_entries, refs_at}
use Rattle.formed.specs.Form.{formed, placed, number_form, flag_form, count_form, named_form}
use Rattle.formed.specs.Formed.{row_ok, formed_from, well_formed}
use Rattle.resolve.specs.Formed.{table_formed}
use Rattle.resolve.specs.Entries.{Begins, Holds}
use Rattle.resolve.proofs.Laws.Entries.{Held, stretch-place, formed-places}

words_of_row : (l : List ℕ) (a : ℕ) → a + 8 ≤ length l
    → drop a l ≡ get_or l a 0 ∷ get_or l (a + 1) 0 ∷ get_or l (a + 2) 0 ∷ get_or l (a + 3) 0 ∷ get_or l (a + 4) 0 ∷ get_or l (a + 5) 0 ∷ get_or l
    (a + 6) 0 ∷ get_or l (a + 7) 0 ∷ drop (a + 8) l
words_of_row l a h =
    let d0 = step a (a + 1) (omega arith) (omega arith) in
    let d1 = step (a + 1) (a + 2) (omega arith) (omega arith) in
    let d2 = step (a + 2) (a + 3) (omega arith) (omega arith) in
    let d3 = step (a + 3) (a + 4) (omega arith) (omega arith) in
    let d4 = step (a + 4) (a + 5) (omega arith) (omega arith) in
    let d5 = step (a + 5) (a + 6) (omega arith) (omega arith) in
    let d6 = step (a + 6) (a + 7) (omega arith) (omega arith) in
    let d7 = step (a + 7) (a + 8) (omega arith) (omega arith) in
    cc
  where
    step : (j k : ℕ) → k ≡ j + 1 → j < length l → drop j l ≡ get_or l j 0 ∷ drop k l
    step j k e lt = rw (e, add-one) (drop-cons l j 0 lt)

-- a placed stretch: where it starts, that it fits, and what is read there
module _ (place c fill : ℕ) (l : List ℕ) (h : placed place c fill (length l) ≡ true) where
  both : (eqb place (place_of c fill) ≡ true) × (leb c (length l - fill) ≡ true)
  both = and-true (eqb place (place_of c fill)) _ h

  placed_at : place ≡ place_of c fill
  placed_at = eqb-true place (place_of c fill) both.0

  placed-stretch : take c (drop place l) ≡ take c (drop fill l)
  placed-stretch = rw placed_at (stretch-place c fill l)

  placed-length : length (take c (drop fill l)) ≡ c
  placed-length = length-take-le c (drop fill l) (simp length-drop (leb-true c (length l - fill) both.1))

stretch-begins : (c fill : ℕ) (l more : List ℕ) → Begins (drop (fill + c) l) more → Begins (drop fill l) (take c (drop fill l) ++ more)
stretch-begins c fill l more b = record {
  rest = b.rest;
  is = sym (take-append-drop c (drop fill l)) ∙ rw (drop-drop c fill l, b.is) (sym (append_assoc (take c (drop fill l)) more b.rest));
}

-- what a well-formed row says of its name
named_small : (kind named : ℕ) → named_form kind named ≡ true → named ≤ 1
named_small kind named h = go (eqb kind struct) h
  where
    go : (b : Bool) → cond b (leb named 1) (eqb named 0) ≡ true → named ≤ 1
    go true h = leb-true named 1 h
    go false h = let z = eqb-true named 0 h in omega arith

named_back : (named : ℕ) (bytes : List ℕ) → named ≤ 1 → named_of (name_by named bytes) ≡ named
named_back zero bytes h = refl
named_back (suc zero) bytes h = refl
named_back (suc (suc n)) bytes h = absurd (omega arith)

bytes_back : (named len : ℕ) (bytes : List ℕ) → eqb len 0 || eqb named 1 ≡ true → bytes_of (name_by named (take len bytes)) ≡ take len bytes
bytes_back (suc n) len bytes h = refl
bytes_back zero len bytes h = let z = eqb-true len 0 (none (eqb len 0) h) in rw z
  where
    none : (b : Bool) → b || false ≡ true → b ≡ true
    none true h = refl
    none false h = h

module _ (rows refs names : List ℕ) (e r k : ℕ) (ok : row_ok rows (length refs) (length names) e r k ≡ true) where
  abbrev row : Row
  row = row_at rows e

  fine : (formed row ≡ true) × (placed row.first row.count r (length refs) && placed row.start row.len k (length names) ≡ true)
  fine = and-true (formed row) _ ok

  places : (placed row.first row.count r (length refs) ≡ true) × (placed row.start row.len k (length names) ≡ true)
  places = and-true (placed row.first row.count r (length refs)) _ fine.1

  naming : (named_form row.kind row.named ≡ true) × (eqb row.len 0 || eqb row.named 1 ≡ true)
  unfolding formed
  naming =
      let a = and-true (leb row.kind opaque_pointer) _ fine.0 in
      let b = and-true (number_form row.kind row.number) _ a.1 in
      let c = and-true (flag_form row.kind row.flag) _ b.1 in
      let d = and-true (count_form row.kind row.count) _ c.1 in
      and-true (named_form row.kind row.named) _ d.1

  refs_are : refs_at rows refs e ≡ take row.count (drop r refs)
  refs_are = placed-stretch row.first row.count r refs places.0

  bytes-are : bytes_of (entry_at rows refs names e).form.name ≡ take row.len (drop k names)
  bytes-are =
      bytes_back row.named row.len (drop row.start names) naming.1
      ∙ placed-stretch row.start row.len k names places.1

  many : length (refs_at rows refs e) ≡ row.count
  many = ap length refs_are ∙ placed-length row.first row.count r refs places.0

  long : length (bytes_of (entry_at rows refs names e).form.name) ≡ row.len
  long = ap length bytes-are ∙ placed-length row.start row.len k names places.1

  row_back : row_of r k (entry_at rows refs names e) ≡ row_at rows e
  row_back =
      row_at-is rows e _ _ _ _ _ _ _ _ refl refl refl
      (ap (λ (n : ℕ). place_of n r) many ∙ sym (placed_at row.first row.count r refs places.0))
      many
      (ap (λ (n : ℕ). place_of n k) long ∙ sym (placed_at row.start row.len k names places.1))
      long
      (named_back row.named (take row.len (drop row.start names)) (named_small row.kind row.named naming.0))

  entry-formed : formed (row_of 0 0 (entry_at rows refs names e)) ≡ true
  entry-formed = formed-places 0 0 r k (entry_at rows refs names e) ∙ (ap formed row_back ∙ fine.0)

  held_first : (xs : List Entry) → e * row_words + 8 ≤ length rows → Held rows refs names (suc e) (r + row.count) (k + row.len) xs
      → Held rows refs names e r k (entry_at rows refs names e ∷ xs)
  unfolding rows_from refs_of names_of
  held_first xs inside h = record {
    in_rows = record {
      rest = h.in_rows.rest;
      is = words_of_row rows (e * row_words) inside
          ∙ (ap (λ (w : Row). words_of w ++ drop (e * row_words + 8) rows) (sym row_back)
          ∙ (ap (λ (l : List ℕ). words_of (row_of r k (entry_at rows refs names e)) ++ l) behind));
    };
    in_refs = rw refs_are (stretch-begins row.count r refs (refs_of xs) h.in_refs);
    in_names = rw bytes-are (stretch-begins row.len k names (names_of xs) h.in_names);
    each = (entry-formed, h.each);
  }
    where
      behind : drop (e * row_words + 8) rows
          ≡ rows_from (r + length (refs_at rows refs e)) (k + length (bytes_of (entry_at rows refs names e).form.name)) xs ++ h.in_rows.rest
      behind = let s : suc e * row_words ≡ e * row_words + 8 = omega arith in rw (many, long) (rw s at h.in_rows.is)

module _ (rows refs names : List ℕ) where
  held-from : (left e r k : ℕ) → (e + left) * row_words ≤ length rows → formed_from rows (length refs) (length names) left e r k ≡ true
      → Held rows refs names e r k (entries_from rows refs names e left)
  unfolding formed_from entries_from rows_from refs_of names_of
  held-from zero e r k inside h = record {
    in_rows = record { rest = drop (e * row_words) rows; is = refl };
    in_refs = record { rest = drop r refs; is = refl };
    in_names = record { rest = drop k names; is = refl };
    each = tt;
  }
  held-from (suc left) e r k inside h =
      let p = and-true (row_ok rows (length refs) (length names) e r k) _ h in
      held_first rows refs names e r k p.0 (entries_from rows refs names (suc e) left) (omega arith)
      (held-from left (suc e) (r + (row_at rows e).count) (k + (row_at rows e).len) (omega arith) p.1)

  entries-length : (left e : ℕ) → length (entries_from rows refs names e left) ≡ left
  unfolding entries_from
  entries-length zero e = refl
  entries-length (suc left) e = ap suc (entries-length left (suc e))

  pub table_formed-holds : (n : ℕ) → table_formed rows refs names n ≡ true
      → (length (entries_from rows refs names 0 n) ≡ n) × Holds rows refs names (entries_from rows refs names 0 n)
  unfolding table_formed well_formed
  table_formed-holds n h =
      let a = and-true (leb n max_entries) _ h in
      let b = and-true (leb n (entry_room (length rows))) _ a.1 in
      let few = leb-true n max_entries a.0 in
      let room = leb-true n (entry_room (length rows)) b.0 in
      let len = entries-length n 0 in
      let held = held-from n 0 0 0 (omega arith) b.1 in
      (len, record { few = rw len few; in_rows = held.in_rows; in_refs = held.in_refs; in_names = held.in_names; each = held.each })
