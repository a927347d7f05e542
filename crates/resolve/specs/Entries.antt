-- A table as a list of entries (table/specs/Entries), and buffers that hold its flat form.
--     Begins whole part            the list whole begins with part
--     formed_entry x                the words that x says of itself are well formed;  EachFormed es  of each
--     Holds rows refs names es     the buffers begin with the flat form of the entries es, each well formed
-- Assumes nothing.
use Rattle.std.specs.Prelude.{◌≡◌, Bool, true, List, [], ◌∷◌, ◌++◌, ℕ, ◌≤◌, length}
use Rattle.table.specs.Entries.{Entry}
use Rattle.table.specs.Rows.{row_of, rows_of, refs_of, names_of}
use Rattle.rules.specs.Lawful.{max_entries}
use Rattle.formed.specs.Form.{formed}

pub record Begins (whole part : List ℕ) : Type 0 where
  pub rest : List ℕ
  pub is : whole ≡ part ++ rest

-- where its stretches start is no matter of the entry
abbrev pub formed_entry : Entry → Bool
formed_entry x = formed (row_of 0 0 x)

abbrev pub EachFormed : List Entry → Type 0
EachFormed [] = Unit {0}
EachFormed (x ∷ xs) = (formed_entry x ≡ true) × EachFormed xs

-- "References and names are appended in record order with no gaps."
pub record Holds (rows refs names : List ℕ) (es : List Entry) : Type 0 where
  pub few : length es ≤ max_entries
  pub in_rows : Begins rows (rows_of es)
  pub in_refs : Begins refs (refs_of es)
  pub in_names : Begins names (names_of es)
  pub each : EachFormed es
