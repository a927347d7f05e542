-- Buffers that hold the flat form of well-formed entries are well formed, and each row reads as its entry.
-- Assumes nothing.
use mathlib.Core.Path.{◌≡◌, refl, sym, ap, ◌∙◌}
use mathlib.Core.Bool.{true, ◌&&◌}
use mathlib.Core.List.{List, [], ◌∷◌, ◌++◌, append_assoc}
use Prim.Native.Nat.{ℕ, zero, suc, ◌+◌, ◌*◌, ◌-◌, ◌≤◌}
use native.Mathlib.Omega.{arith}
use lib.ListN.{length, get_or, take, drop, length-append, length-drop}
use lib.Seq.{drop-drop, get_or-drop, drop-append_seam, take-append_seam}
use borrow.Author.Tests.{eq-eqb, le-leb}
use Rattle.table.specs.declared.row.Row.{Row}
use Rattle.table.specs.Entries.{Entry, Name, bytes_of, named_of}
use Rattle.table.specs.Rows.{row_words, entry_room, row_at, words_of, row_of, place_of, rows_from, rows_of, refs_of, names_of}
use Rattle.table.specs.Back.{name_by, entry_of_row, entry_at, entries_from}
use Rattle.table.proofs.Laws.Rows.{row_at-is, length-rows_of}
use Rattle.table.proofs.Laws.Back.{name_back}
use Rattle.rules.specs.Lawful.{max_entries}
use Rattle.formed.specs.Form.{formed, placed}
use Rattle.formed.specs.Formed.{row_ok, formed_from, well_formed}
use Rattle.resolve.specs.Formed.{table_formed}
use Rattle.resolve.specs.Entries.{Begins, EachFormed, Holds}

-- a buffer that begins, behind fill elements, with a stretch and more
module _ (fill : ℕ) (l x more : List ℕ) (b : Begins (drop fill l) (x ++ more)) where
  whole : drop fill l ≡ x ++ (more ++ b.rest)
  whole = b.is ∙ append_assoc x more b.rest

  pub begun-stretch : take (length x) (drop fill l) ≡ x
  begun-stretch = rw whole (take-append_seam x (more ++ b.rest))

  pub begun_more : Begins (drop (fill + length x) l) more
  begun_more = record { rest = b.rest; is = sym (drop-drop (length x) fill l) ∙ rw whole (drop-append_seam x (more ++ b.rest)) }

  pub begun-fits : length x ≤ length l - fill
  begun-fits = let w = ap length whole in omega (arith, simp (length-append, length-drop) at w)

-- where an empty stretch starts does not matter
pub stretch-place : (c fill : ℕ) (l : List ℕ) → take c (drop (place_of c fill) l) ≡ take c (drop fill l)
stretch-place zero fill l = refl
stretch-place (suc c) fill l = refl

placed-is : (c fill : ℕ) (l : List ℕ) → c ≤ length l - fill → placed (place_of c fill) c fill (length l) ≡ true
placed-is c fill l f = rw (eq-eqb (place_of c fill) (place_of c fill) refl, le-leb c (length l - fill) f)

-- where its stretches start is no matter of an entry's form
pub formed-places : (a b c d : ℕ) (x : Entry) → formed (row_of a b x) ≡ formed (row_of c d x)
unfolding formed
formed-places a b c d x = refl

-- what the buffers hold from entry e on, behind r references and k name bytes
pub record Held (rows refs names : List ℕ) (e r k : ℕ) (xs : List Entry) : Type 0 where
  pub in_rows : Begins (drop (e * row_words) rows) (rows_from r k xs)
  pub in_refs : Begins (drop r refs) (refs_of xs)
  pub in_names : Begins (drop k names) (names_of xs)
  pub each : EachFormed xs

module _ (rows refs names : List ℕ) (e r k : ℕ) (x : Entry) (xs : List Entry) (h : Held rows refs names e r k (x ∷ xs)) where
  abbrev form-refs : List ℕ
  form-refs = x.form.refs

  abbrev form-name : List ℕ
  form-name = bytes_of x.form.name

  row : drop (e * row_words) rows ≡ words_of (row_of r k x) ++ (rows_from (r + length form-refs) (k + length form-name) xs ++ h.in_rows.rest)
  unfolding rows_from
  row = h.in_rows.is

  word : (i : ℕ) → get_or rows (e * row_words + i) 0 ≡ get_or
      (words_of (row_of r k x) ++ (rows_from (r + length form-refs) (k + length form-name) xs ++ h.in_rows.rest)) i 0
  word i = sym (get_or-drop (e * row_words) rows i 0) ∙ ap (λ (l : List ℕ). get_or l i 0) row

  pub row_reads : row_of r k x ≡ row_at rows e
  row_reads =
      let z : e * row_words + 0 ≡ e * row_words = omega arith in
      let w : get_or rows (e * row_words) 0 ≡ x.form.kind = rw z at (word 0) in
      row_at-is rows e _ _ _ _ _ _ _ _ (sym w) (sym (word 1)) (sym (word 2)) (sym (word 3)) (sym (word 4)) (sym (word 5)) (sym (word 6))
      (sym (word 7))

  refs-first : Begins (drop r refs) (form-refs ++ refs_of xs)
  unfolding refs_of
  refs-first = h.in_refs

  names-first : Begins (drop k names) (form-name ++ names_of xs)
  unfolding names_of
  names-first = h.in_names

  held_more : Held rows refs names (suc e) (r + length form-refs) (k + length form-name) xs
  held_more = record {
    in_rows = record {
      rest = h.in_rows.rest;
      is = let s : suc e * row_words ≡ e * row_words + 8 = omega arith in rw s (sym (drop-drop 8 (e * row_words) rows) ∙ ap (drop 8) row);
    };
    in_refs = begun_more r refs form-refs (refs_of xs) refs-first;
    in_names = begun_more k names form-name (names_of xs) names-first;
    each = h.each.1;
  }

  row-ok : row_ok rows (length refs) (length names) e r k ≡ true
  row-ok = sym (ap (λ (w : Row). formed w && (placed w.first w.count r (length refs) && placed w.start w.len k
      (length names))) row_reads)
      ∙ rw (
        formed-places r k 0 0 x,
        h.each.0,
        placed-is (length form-refs) r refs (begun-fits r refs form-refs (refs_of xs) refs-first),
        placed-is (length form-name) k names (begun-fits k names form-name (names_of xs) names-first),
      )

  name-read : take (length form-name) (drop (place_of (length form-name) k) names) ≡ form-name
  name-read = stretch-place (length form-name) k names ∙ begun-stretch k names form-name (names_of xs) names-first

  -- the whole row reads as the entry
  entry_read : entry_at rows refs names e ≡ x
  entry_read =
      sym (ap (λ (w : Row). entry_of_row w refs names) row_reads)
      ∙ (ap (λ (l : List ℕ). made l
      (name_by (named_of x.form.name) (take (length form-name) (drop (place_of (length form-name) k) names)))) refs-back
      ∙ ap (λ (m : Name). made form-refs m) (name_back x.form.name _ name-read))
    where
      made : List ℕ → Name → Entry
      made l m = record { form = record { kind = x.form.kind; number = x.form.number; flag = x.form.flag; refs = l; name = m } }

      refs-back : take (length form-refs) (drop (place_of (length form-refs) r) refs) ≡ form-refs
      refs-back = stretch-place (length form-refs) r refs ∙ begun-stretch r refs form-refs (refs_of xs) refs-first

module _ (rows refs names : List ℕ) where
  entries-read : (xs : List Entry) (e r k : ℕ) → Held rows refs names e r k xs → entries_from rows refs names e (length xs) ≡ xs
  unfolding entries_from
  entries-read [] e r k h = refl
  entries-read (x ∷ xs) e r k h =
      rw (
        entry_read rows refs names e r k x xs h,
        entries-read xs (suc e) (r + length x.form.refs) (k + length (bytes_of x.form.name))
            (held_more rows refs names e r k x xs h),
      )

  -- there is no second list of entries
  pub holds-unique : (es : List Entry) → Holds rows refs names es → entries_from rows refs names 0 (length es) ≡ es
  holds-unique es h = entries-read es 0 0 0 (record { in_rows = h.in_rows; in_refs = h.in_refs; in_names = h.in_names; each = h.each })

  formed-from : (xs : List Entry) (e r k : ℕ) → Held rows refs names e r k xs → formed_from rows (length refs) (length names)
      (length xs) e r k ≡ true
  unfolding formed_from
  formed-from [] e r k h = refl
  formed-from (x ∷ xs) e r k h =
      let q = row_reads rows refs names e r k x xs h in
      let count : (row_at rows e).count ≡ length x.form.refs = sym (ap (λ (w : Row). w.count) q) in
      let len : (row_at rows e).len ≡ length (bytes_of x.form.name) = sym (ap (λ (w : Row). w.len) q) in
      rw (row-ok rows refs names e r k x xs h, count, len)
      (formed-from xs (suc e) (r + length x.form.refs) (k + length (bytes_of x.form.name)) (held_more rows refs names e r k x xs h))

  pub holds-table_formed : (es : List Entry) → Holds rows refs names es → table_formed rows refs names (length es) ≡ true
  unfolding table_formed well_formed
  holds-table_formed es h =
      let room : length es ≤ entry_room (length rows) = rows-room h.in_rows.rest (ap length h.in_rows.is) in
      rw (le-leb (length es) max_entries h.few, le-leb (length es) (entry_room (length rows)) room)
      (formed-from es 0 0 0 (record { in_rows = h.in_rows; in_refs = h.in_refs; in_names = h.in_names; each = h.each }))
    where
      rows-room : (rest : List ℕ) → length rows ≡ length (rows_of es ++ rest) → length es ≤ entry_room (length rows)
      rows-room rest q =
          let w = simp length-append at q in
          let l = length-rows_of es in
          omega arith
