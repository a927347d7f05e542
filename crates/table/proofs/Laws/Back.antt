-- Laws of specs/Back.antt: the flat form of a table, read back, is the table; and the row of an entry, found by its number, is the
-- row that was laid there.
--     Flat es e r n rows refs names     from entry e on, behind r references and n name bytes, the outputs hold es and then anything
-- Assumes nothing.
use mathlib.Core.Path.{◌≡◌, refl, sym, ap, ◌∙◌}
use mathlib.Core.List.{List, [], ◌∷◌, ◌++◌, append_assoc}
use Prim.Native.Nat.{ℕ, suc, ◌+◌, ◌*◌}
use native.Mathlib.Omega.{arith}
use lib.ListN.{length, get_or, take, drop, length-append}
use lib.Seq.{take-append_seam, drop-append_seam, get_or-append-add}
use Rattle.table.specs.declared.row.Row.{Row}
use Rattle.table.specs.Entries.{Name, unnamed, called, Entry, bytes_of, named_of}
use Rattle.table.specs.Rows.{row_words, row_at, words_of, place_of, row_of, rows_from, rows_of, refs_of, names_of}
use Rattle.table.specs.Back.{name_by, entry_of_row, entry_at, entries_from}
use Rattle.table.proofs.Laws.Rows.{row_at-is}

pub row_at-laid : (front : List ℕ) (r : Row) (rest : List ℕ) (e : ℕ) → length front ≡ e * row_words
    → row_at (front ++ (words_of r ++ rest)) e ≡ r
row_at-laid front r rest e is =
    let l = words_of r ++ rest in
    let word : (k : ℕ) → get_or l k 0 ≡ get_or (front ++ l) (e * row_words + k) 0 = λ k. sym (rw (← is) (get_or-append-add front l k 0)) in
    let none : e * row_words + 0 ≡ e * row_words = omega arith in
    let first : get_or l 0 0 ≡ get_or (front ++ l) (e * row_words) 0 = rw none at (word 0) in
    sym (row_at-is (front ++ l) e r.kind r.number r.flag r.first r.count r.start r.len r.named
    first (word 1) (word 2) (word 3) (word 4) (word 5) (word 6) (word 7))

-- a stretch, which starts at 0 where it is empty
stretch-back : (front x rest : List ℕ) → take (length x) (drop (place_of (length x) (length front)) (front ++ (x ++ rest))) ≡ x
stretch-back front [] rest = refl
stretch-back front (a ∷ x) rest = rw (drop-append_seam front (a ∷ (x ++ rest)), take-append_seam x rest)

pub name_back : (n : Name) (bytes : List ℕ) → bytes ≡ bytes_of n → name_by (named_of n) bytes ≡ n
name_back unnamed bytes is = refl
name_back (called b) bytes is = ap called is

pub record Flat (es : List Entry) (e : ℕ) (front-rows front-refs front-names rows refs names : List ℕ) : Type 0 where
  pub long : length front-rows ≡ e * row_words
  pub rest_rows : List ℕ
  pub rest_refs : List ℕ
  pub rest_names : List ℕ
  pub rows_are : rows ≡ front-rows ++ (rows_from (length front-refs) (length front-names) es ++ rest_rows)
  pub refs_are : refs ≡ front-refs ++ (refs_of es ++ rest_refs)
  pub names_are : names ≡ front-names ++ (names_of es ++ rest_names)

module _ (x : Entry) (es : List Entry) (e : ℕ) (p r n rows refs names : List ℕ) (F : Flat (x ∷ es) e p r n rows refs names) where
  pub Flat-row : row_at rows e ≡ row_of (length r) (length n) x
  unfolding rows_from
  Flat-row =
      let row = row_of (length r) (length n) x in
      let more = rows_from (length r + length x.form.refs) (length n + length (bytes_of x.form.name)) es in
      ap (λ (l : List ℕ). row_at l e) F.rows_are ∙ row_at-laid p row (more ++ F.rest_rows) e F.long

  pub Flat-entry : entry_at rows refs names e ≡ x
  unfolding refs_of names_of
  Flat-entry =
      let f = x.form in
      let bytes = bytes_of f.name in
      let refs-back : take (length f.refs) (drop (place_of (length f.refs) (length r)) refs) ≡ f.refs =
      rw (F.refs_are, append_assoc f.refs (refs_of es) F.rest_refs) (stretch-back r f.refs (refs_of es ++ F.rest_refs)) in
      let name-bytes : take (length bytes) (drop (place_of (length bytes) (length n)) names) ≡ bytes =
      rw (F.names_are, append_assoc bytes (names_of es) F.rest_names) (stretch-back n bytes (names_of es ++ F.rest_names)) in
      ap (λ (row : Row). entry_of_row row refs names) Flat-row
      ∙ rw (refs-back, name_back f.name _ name-bytes)

  pub Flat-next : Flat es (suc e) (p ++ words_of (row_of (length r) (length n) x)) (r ++ x.form.refs) (n ++ bytes_of x.form.name) rows
      refs names
  unfolding rows_from refs_of names_of
  Flat-next =
      let row = words_of (row_of (length r) (length n) x) in
      let rs = x.form.refs in
      let bs = bytes_of x.form.name in
      record {
        long = simp length-append (omega (arith, F.long));
        rest_rows = F.rest_rows;
        rest_refs = F.rest_refs;
        rest_names = F.rest_names;
        rows_are = F.rows_are ∙ rw (
          length-append r rs,
          length-append n bs,
          append_assoc p row
              (rows_from (length r + length rs) (length n + length bs) es ++ F.rest_rows),
        );
        refs_are = F.refs_are ∙ rw (append_assoc rs (refs_of es) F.rest_refs, append_assoc r rs (refs_of es ++ F.rest_refs));
        names_are = F.names_are ∙ rw (append_assoc bs (names_of es) F.rest_names, append_assoc n bs (names_of es ++ F.rest_names));
      }

pub entries_from-flat : (es : List Entry) (e : ℕ) (p r n rows refs names : List ℕ) → Flat es e p r n rows refs names
    → entries_from rows refs names e (length es) ≡ es
unfolding entries_from
entries_from-flat [] e p r n rows refs names F = refl
entries_from-flat (x ∷ es) e p r n rows refs names F =
    rw (
      Flat-entry x es e p r n rows refs names F,
      entries_from-flat es (suc e) _ _ _ rows refs names
          (Flat-next x es e p r n rows refs names F),
    )

pub Flat-whole : (es : List Entry) (a b c : List ℕ) → Flat es 0 [] [] [] (rows_of es ++ a) (refs_of es ++ b) (names_of es ++ c)
Flat-whole es a b c = record {
  long = refl;
  rest_rows = a;
  rest_refs = b;
  rest_names = c;
  rows_are = refl;
  refs_are = refl;
  names_are = refl;
}
