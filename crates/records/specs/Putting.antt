-- How an entry that the code puts by value is the entry that a deed puts. No public contract cites this file.
--     Fits p f fields          what is kept was there, and what is added lies in the fields
--     Puts t fs p front e      p puts e behind front, where the table is t and the record has the fields fs
-- Assumes nothing.
use Rattle.std.specs.Prelude.{◌≡◌, List, ◌++◌, ℕ, ◌+◌, ◌≤◌, length, take, drop}
use Rattle.table.specs.Entries.{Entry}
use Rattle.table.specs.Rows.{row_words, rows_of, refs_of, names_of}
use Rattle.records.specs.declared.Filled.{Filled}
use Rattle.records.specs.declared.Put.{Put}
use Rattle.records.specs.Table.{Table, name_if}
use Rattle.records.specs.Values.{head_of}

pub record Fits (p : Put) (f : Filled) (fields : ℕ) : Type 0 where
  pub kept_le : p.kept ≤ f.refs
  pub inside : p.from + p.more ≤ fields

pub record Puts (t : Table) (fs : List ℕ) (p : Put) (front : List Entry) (e : Entry) : Type 0 where
  pub head_is : p.head ≡ head_of e.form
  pub row_is : p.row ≡ length front
  pub kept_refs : List ℕ
  pub kept_is : length kept_refs ≡ p.kept
  pub refs_were : refs_of t.entries ≡ refs_of front ++ kept_refs
  pub refs_are : e.form.refs ≡ kept_refs ++ take p.more (drop p.from fs)
  pub names_were : names_of t.entries ≡ names_of front
  pub name_is : e.form.name ≡ name_if p.head.named t.pending
  pub old_row : List ℕ
  pub rows_were : rows_of t.entries ≡ rows_of front ++ old_row
  pub old_le : length old_row ≤ row_words
