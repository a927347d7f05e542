-- Document 01, "Type stream and table": the rows, references and names of a table. No other file knows a row's words.
--     row_words             how many words a row has (2026-07: nine);  max_entries  how many entries a table has at most
--     row_at rows e         the row of entry e; a word that is not there reads as 0
--     rows_of es            the rows of the entries es;  refs_of es, names_of es  their references and names
-- Assumes nothing.
use Rattle.std.specs.Prelude.{List, [], ◌∷◌, ◌++◌, ℕ, zero, suc, ◌+◌, ◌*◌, ◌/◌, length, get_or}
use Rattle.table.specs.declared.row.Row.{Row}
use Rattle.table.specs.Entries.{Entry, bytes_of, named_of}

-- "rows (8 words an entry)"
abbrev pub row_words : ℕ
row_words = 8

-- "the least of 4,096, .."; "the count is at most 4,096"
abbrev pub max_entries : ℕ
max_entries = 4096

-- "rows length / 8 rounded down"
abbrev pub entry_room : ℕ → ℕ
entry_room words = words / row_words

-- "A row: kind; number; flag; first reference place; reference count; name start; name length; 1 if named."
abbrev pub words_of : Row → List ℕ
words_of r = r.kind ∷ r.number ∷ r.flag ∷ r.first ∷ r.count ∷ r.start ∷ r.len ∷ r.named ∷ []

abbrev pub row_at : List ℕ → ℕ → Row
row_at rows e = record {
  kind = get_or rows (e * row_words) 0;
  number = get_or rows (e * row_words + 1) 0;
  flag = get_or rows (e * row_words + 2) 0;
  first = get_or rows (e * row_words + 3) 0;
  count = get_or rows (e * row_words + 4) 0;
  start = get_or rows (e * row_words + 5) 0;
  len = get_or rows (e * row_words + 6) 0;
  named = get_or rows (e * row_words + 7) 0;
}

-- "a place is 0 where its count is 0, a name start 0 where its length is 0"
abbrev pub place_of : ℕ → ℕ → ℕ
place_of zero fill = 0
place_of (suc n) fill = fill

-- the row of an entry behind r references and n name bytes
abbrev pub row_of : ℕ → ℕ → Entry → Row
row_of r n e =
    let f = e.form in
    let bytes = bytes_of f.name in
    record {
      kind = f.kind;
      number = f.number;
      flag = f.flag;
      first = place_of (length f.refs) r;
      count = length f.refs;
      start = place_of (length bytes) n;
      len = length bytes;
      named = named_of f.name;
    }

-- "References and names are appended in record order with no gaps."
unfoldable pub rows_from : ℕ → ℕ → List Entry → List ℕ
rows_from r n [] = []
rows_from r n (e ∷ es) = words_of (row_of r n e) ++ rows_from (r + length e.form.refs) (n + length (bytes_of e.form.name)) es

abbrev pub rows_of : List Entry → List ℕ
rows_of es = rows_from 0 0 es

unfoldable pub refs_of : List Entry → List ℕ
refs_of [] = []
refs_of (e ∷ es) = e.form.refs ++ refs_of es

unfoldable pub names_of : List Entry → List ℕ
names_of [] = []
names_of (e ∷ es) = bytes_of e.form.name ++ names_of es
