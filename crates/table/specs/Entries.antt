-- Document 01, "Type stream and table": a table is a list of entries.
--     Name        none, or the bytes of a name, which may be empty: "Its name may be empty and still counts as a name"
--     Form        what a record says of an entry
--     Entry       a form in the table. 2026-07 adds the number of the record that added it
-- Assumes nothing.
use Rattle.std.specs.Prelude.{List, [], ℕ}

pub data Name : Type 0 where
  unnamed : Name
  called : List ℕ → Name

-- "Number is the width, address space or element count; flag is vararg or packed. A function's references are its return,
-- then its parameters."
pub record Form : Type 0 where
  pub kind : ℕ
  pub number : ℕ
  pub flag : ℕ
  pub refs : List ℕ
  pub name : Name

pub record Entry : Type 0 where
  pub form : Form

abbrev pub bytes_of : Name → List ℕ
bytes_of unnamed = []
bytes_of (called bytes) = bytes

-- "1 if named"
abbrev pub named_of : Name → ℕ
named_of unnamed = 0
named_of (called bytes) = 1
