-- Reading a table back from its flat form.
--     name_by named bytes                 the name that a row's eighth word and its stretch say
--     entry_at rows refs names e          what the row of entry e says, with its stretches of references and name bytes
--     entries_from rows refs names e n    the n entries from e on
-- Assumes nothing.
use Rattle.std.specs.Prelude.{List, [], ◌∷◌, ℕ, zero, suc, take, drop}
use Rattle.table.specs.declared.row.Row.{Row}
use Rattle.table.specs.Entries.{Name, unnamed, called, Entry}
use Rattle.table.specs.Rows.{row_at}

-- "1 if named"
abbrev pub name_by : ℕ → List ℕ → Name
name_by zero bytes = unnamed
name_by (suc n) bytes = called bytes

abbrev pub entry_of_row : Row → List ℕ → List ℕ → Entry
entry_of_row row refs names = record {
  form = record {
    kind = row.kind;
    number = row.number;
    flag = row.flag;
    refs = take row.count (drop row.first refs);
    name = name_by row.named (take row.len (drop row.start names));
  };
}

abbrev pub entry_at : List ℕ → List ℕ → List ℕ → ℕ → Entry
entry_at rows refs names e = entry_of_row (row_at rows e) refs names

unfoldable pub entries_from : List ℕ → List ℕ → List ℕ → (e n : ℕ) → List Entry
entries_from rows refs names e zero = []
entries_from rows refs names e (suc n) = entry_at rows refs names e ∷ entries_from rows refs names (suc e) n
