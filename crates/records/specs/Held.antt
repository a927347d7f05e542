-- How the outputs hold a table while it is read, and what is left for the last sweep. No public contract cites this file.
--     Holds b t x y z          the outputs, which held b, hold the table t, and its pending name as far as there is room
--     After, Passed, Left      an answer and the outputs show an outcome; at a refusal nothing is said of the outputs
--     Ready                    the counts that a step needs to be in range
-- Assumes nothing.
use Rattle.std.specs.Prelude.{◌≡◌, List, ◌++◌, ℕ, ◌+◌, ◌*◌, ◌≤◌, ◌<◌, ◌^◌, length, Some, None, Result, Ok, Err}
use Rattle.table.specs.Buffers.{over}
use Rattle.table.specs.Rows.{row_words, rows_of, refs_of, names_of}
use Rattle.stream.specs.declared.Cut.{Cut}
use Rattle.stream.specs.Count.{Stated}
use Rattle.shapes.specs.declared.Fault.{Fault}
use Rattle.records.specs.declared.Filled.{Filled}
use Rattle.records.specs.declared.Error.{Error}
use Rattle.records.specs.declared.Error.TheVariants.{CutRecord, NoSingleCount, BadRecord}
use Rattle.records.specs.Table.{Table, Room}
use Rattle.records.specs.Records.{Outcome, go, stop, Ran, whole, bad}
use Rattle.table.specs.Entries.{Entry}
use Rattle.records.specs.Values.{filled_of}

pub record Buffers : Type 0 where
  pub rows : List ℕ
  pub refs : List ℕ
  pub names : List ℕ

abbrev pub buffers_of : List ℕ → List ℕ → List ℕ → Buffers
buffers_of rows refs names = record { rows = rows; refs = refs; names = names }

abbrev pub room_in : ℕ → Buffers → Room
room_in entries b = record { entries = entries; refs = length b.refs; names = length b.names }

pub record Holds (b : Buffers) (t : Table) (rows refs names : List ℕ) : Type 0 where
  pub rows_are : rows ≡ over (rows_of t.entries) b.rows
  pub refs_are : refs ≡ over (refs_of t.entries) b.refs
  pub names_are : names ≡ over (names_of t.entries ++ t.pending) b.names
  pub rows_fit : length t.entries * row_words ≤ length b.rows
  pub refs_fit : length (refs_of t.entries) ≤ length b.refs
  pub names_fit : length (names_of t.entries) ≤ length b.names

abbrev pub After : Buffers → Outcome → Result Filled Fault → List ℕ → List ℕ → List ℕ → Type 0
After b (go t) r rows refs names = (r ≡ Ok (filled_of t)) × Holds b t rows refs names
After b (stop fault) r rows refs names = r ≡ Err fault

abbrev pub Passed : Buffers → Ran → Result Filled Error → List ℕ → List ℕ → List ℕ → Type 0
Passed b (whole t) r rows refs names = (r ≡ Ok (filled_of t)) × Holds b t rows refs names
Passed b (bad number fault) r rows refs names = r ≡ Err (BadRecord number fault)

-- framing and NumEntry, which are judged before any record
abbrev pub opening_of : Result (Unit {0}) Cut → Stated → Result ℕ Error
opening_of (Err cut) stated = Err (CutRecord cut.head)
opening_of (Ok ok) (Ok None) = Err NoSingleCount
opening_of (Ok ok) (Ok (Some n)) = Ok n
opening_of (Ok ok) (Err faulty) = Err NoSingleCount

-- what is kept, and the table that the outputs hold
abbrev pub Left : Buffers → Result (List Entry) Error → Result Filled Error → List ℕ → List ℕ → List ℕ → Type 0
Left b (Ok es) r rows refs names = (t : Table) × (t.entries ≡ es) × (r ≡ Ok (filled_of t)) × Holds b t rows refs names
Left b (Err e) r rows refs names = r ≡ Err e

abbrev pub mark_of : Result Filled Fault → ℕ
mark_of (Ok f) = f.mark
mark_of (Err fault) = 0

pub record Ready (entries : ℕ) (f : Filled) (rows refs fields : ℕ) : Type 0 where
  pub rows_hold : entries * row_words ≤ rows
  pub refs_hold : f.refs ≤ refs
  pub last_le : f.last.count ≤ f.refs
  pub taken_le : f.taken ≤ f.mark
  pub mark_fits : f.mark + fields < 2 ^ 64
