-- Laws of specs/Rows.antt: an entry appended to a table appends its row, its references and its name to the flat form.
-- Assumes nothing.
use mathlib.Core.Path.{◌≡◌, refl, sym, ◌∙◌}
use mathlib.Core.List.{List, [], ◌∷◌, ◌++◌, append-nil, append_assoc}
use Prim.Native.Nat.{ℕ, ◌+◌, ◌*◌}
use native.Mathlib.Omega.{arith}
use lib.ListN.{length, get_or, length-append}
use Rattle.table.specs.declared.row.Row.{Row}
use Rattle.table.specs.Entries.{Entry, bytes_of}
use Rattle.table.specs.Rows.{row_words, row_at, words_of, row_of, rows_from, rows_of, refs_of, names_of}

pub refs_of-snoc : (es : List Entry) (e : Entry) → refs_of (es ++ (e ∷ [])) ≡ refs_of es ++ e.form.refs
unfolding refs_of
refs_of-snoc [] e = append-nil e.form.refs
refs_of-snoc (x ∷ es) e = rw (refs_of-snoc es e) (sym (append_assoc x.form.refs (refs_of es) e.form.refs))

pub names_of-snoc : (es : List Entry) (e : Entry) → names_of (es ++ (e ∷ [])) ≡ names_of es ++ bytes_of e.form.name
unfolding names_of
names_of-snoc [] e = append-nil (bytes_of e.form.name)
names_of-snoc (x ∷ es) e =
    rw (names_of-snoc es e) (sym (append_assoc (bytes_of x.form.name) (names_of es) (bytes_of e.form.name)))

pub rows_from-snoc : (r n : ℕ) (es : List Entry) (e : Entry)
    → rows_from r n (es ++ (e ∷ [])) ≡ rows_from r n es ++ words_of (row_of (r + length (refs_of es)) (n + length (names_of es)) e)
unfolding rows_from refs_of names_of
rows_from-snoc r n [] e =
    let a : r + 0 ≡ r = omega arith in
    let b : n + 0 ≡ n = omega arith in
    rw (a, b)
rows_from-snoc r n (x ∷ es) e =
    let refs = x.form.refs in
    let name = bytes_of x.form.name in
    let a : r + length (refs ++ refs_of es) ≡ r + length refs + length (refs_of es) = simp length-append (omega arith) in
    let b : n + length (name ++ names_of es) ≡ n + length name + length (names_of es) = simp length-append (omega arith) in
    rw (a, b, rows_from-snoc (r + length refs) (n + length name) es e)

pub rows_of-snoc : (es : List Entry) (e : Entry)
    → rows_of (es ++ (e ∷ [])) ≡ rows_of es ++ words_of (row_of (length (refs_of es)) (length (names_of es)) e)
rows_of-snoc es e =
    let a : 0 + length (refs_of es) ≡ length (refs_of es) = omega arith in
    let b : 0 + length (names_of es) ≡ length (names_of es) = omega arith in
    rows_from-snoc 0 0 es e ∙ rw (a, b)

pub length-rows_from : (r n : ℕ) (es : List Entry) → length (rows_from r n es) ≡ length es * row_words
unfolding rows_from
length-rows_from r n [] = refl
length-rows_from r n (x ∷ es) = omega (arith, length-rows_from (r + length x.form.refs) (n + length (bytes_of x.form.name)) es)

pub length-rows_of : (es : List Entry) → length (rows_of es) ≡ length es * row_words
length-rows_of es = length-rows_from 0 0 es

-- the words of a row, one by one; behind the last whole row there is none
module _ (rows : List ℕ) (e : ℕ) where
  pub row_at-is : (a b c d f g h i : ℕ) → a ≡ get_or rows (e * row_words) 0 → b ≡ get_or rows (e * row_words + 1) 0
      → c ≡ get_or rows (e * row_words + 2) 0 → d ≡ get_or rows (e * row_words + 3) 0 → f ≡ get_or rows (e * row_words + 4) 0
      → g ≡ get_or rows (e * row_words + 5) 0 → h ≡ get_or rows (e * row_words + 6) 0 → i ≡ get_or rows (e * row_words + 7) 0
      → ◌≡◌ {A = Row} (record { kind = a; number = b; flag = c; first = d; count = f; start = g; len = h; named = i }) (row_at rows e)
  row_at-is a b c d f g h i is-a is_b is_c is-d is_f is-g is-h is-i = rw (is-a, is_b, is_c, is-d, is_f, is-g, is-h, is-i)
