-- Document 01, "Refusal numbers": "Order: 1 over the whole stream; NumEntry; records in order ..; 10", and the outputs.
--     reading room ws            the entries of the stream ws, or the refusal
--     room_of r f n w             the room in outputs of these lengths: rows, references, names, witness
--     shown r f n result         the answer and what the outputs of these lengths hold
--     read_into ws r f n w        the whole of it: words ws, outputs that held r, f and n, a witness of length w
-- Assumes nothing.
use Rattle.std.specs.Prelude.{cond, List, ℕ, min, eqb, length, Some, None, Result, Ok, Err}
use Rattle.table.specs.Buffers.{zeros, padded}
use Rattle.table.specs.Entries.{Entry}
use Rattle.table.specs.Rows as rows
use Rattle.table.specs.Rows.{entry_room, rows_of, refs_of, names_of}
use Rattle.stream.specs.declared.Cut.{Cut}
use Rattle.stream.specs.Stream.{stream, framed}
use Rattle.stream.specs.Count.{num_entries, Stated, stated_by}
use Rattle.records.specs.declared.Error.{Error}
use Rattle.records.specs.declared.Error.TheVariants.{CutRecord, NoSingleCount, BadRecord, CountDiffers}
use Rattle.records.specs.Table.{Room, empty}
use Rattle.records.specs.Records.{Ran, whole, bad, run}

-- "10 | count differs | stated, got"
abbrev pub by_entries : ℕ → Ran → Result (List Entry) Error
by_entries stated (whole t) =
    cond (eqb stated (length t.entries)) (Ok t.entries) (Err (CountDiffers stated (length t.entries)))
by_entries stated (bad number fault) = Err (BadRecord number fault)

-- "2 | not exactly one NumEntry, or it is empty"
abbrev pub by_count : Stated → Ran → Result (List Entry) Error
by_count (Ok None) ran = Err NoSingleCount
by_count (Ok (Some stated)) ran = by_entries stated ran
by_count (Err faulty) ran = Err NoSingleCount

-- "1 | stream ends inside a record | word index of its head"
abbrev pub by_frame : Result (Unit {0}) Cut → Result (List Entry) Error → Result (List Entry) Error
by_frame (Err cut) result = Err (CutRecord cut.head)
by_frame (Ok ok) result = result

unfoldable pub reading : Room → List ℕ → Result (List Entry) Error
reading room ws = by_frame (framed 0 (stream ws)) (by_count (stated_by (num_entries (stream ws))) (run room 0 empty (stream ws)))

abbrev pub max_entries : ℕ
max_entries = rows.max_entries

-- "the least of 4,096, rows length / 8 rounded down, and witness length"
abbrev pub room_of : (rows refs names witness : ℕ) → Room
room_of rows refs names witness =
    record { entries = min max_entries (min (entry_room rows) witness); refs = refs; names = names }

pub record Output : Type 0 where
  pub answer : Result ℕ Error
  pub rows : List ℕ
  pub refs : List ℕ
  pub names : List ℕ

abbrev pub output : Result ℕ Error → List ℕ → List ℕ → List ℕ → Output
output a rows refs names = record { answer = a; rows = rows; refs = refs; names = names }

-- "After acceptance the unused rest of every output is 0."; "Every refusal: outputs all zero"
abbrev pub shown : ℕ → ℕ → ℕ → Result (List Entry) Error → Output
shown r f n (Ok es) =
    output (Ok (length es)) (padded r (rows_of es)) (padded f (refs_of es)) (padded n (names_of es))
shown r f n (Err e) = output (Err e) (zeros r) (zeros f) (zeros n)

abbrev pub read_into : (words rows refs names : List ℕ) (witness : ℕ) → Output
read_into words rows refs names witness =
    shown (length rows) (length refs) (length names) (reading (room_of (length rows) (length refs) (length names) witness) words)
