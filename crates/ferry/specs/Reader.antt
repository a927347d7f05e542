-- Document 01, "Refusal numbers": "Order: 1 over the whole stream; NumEntry; records in order ..; 10; resolution", and the outputs.
--     Lent                how long the lent outputs are
--     Outcome             an answer, and what every output holds after it
--     whole_of lent ws     the outcome for the stream ws
--     Reads ..            the answer and the outputs are that outcome
-- Assumes nothing.
use Rattle.std.specs.Prelude.{◌≡◌, List, ℕ, length, Result, Ok, Err}
use Rattle.table.specs.Buffers.{zeros, padded}
use Rattle.table.specs.Entries.{Entry}
use Rattle.table.specs.Rows.{rows_of, refs_of, names_of}
use Rattle.ranks.specs.Walk as ranks
use Rattle.rules.specs.Lawful.{table_of}
use Rattle.records.specs.declared.Error.{Error}
use Rattle.records.specs.Read.{reading, room_of}
use Rattle.walk.specs.Resolve.{entries_of, witness_in}
use Rattle.ferry.specs.Answers.{Answer, first_answer, answer_by}

pub record Lent : Type 0 where
  pub rows : ℕ
  pub refs : ℕ
  pub names : ℕ
  pub witness : ℕ

abbrev pub lent_by : (rows refs names witness : List ℕ) → Lent
lent_by rows refs names witness =
    record { rows = length rows; refs = length refs; names = length names; witness = length witness }

pub record Outcome : Type 0 where
  pub answer : Answer
  pub rows : List ℕ
  pub refs : List ℕ
  pub names : List ℕ
  pub witness : List ℕ

abbrev pub outcome : Answer → (rows refs names witness : List ℕ) → Outcome
outcome a rows refs names witness = record { answer = a; rows = rows; refs = refs; names = names; witness = witness }

-- "Every refusal: outputs all zero, except that 19 leaves its ring first in the witness."
abbrev pub keeps_by : Answer → List ℕ → List ℕ
keeps_by (Ok entries) l = l
keeps_by (Err refusal) l = zeros (length l)

-- the second pass over the rows and references that the first left
abbrev pub resolved_in : List ℕ → List ℕ → ℕ → ℕ → ranks.Out
resolved_in rows refs entries witness = ranks.resolve (table_of rows refs (entries_of entries (length rows) witness))

abbrev pub second_of : (rows refs names : List ℕ) (witness entries : ℕ) → Outcome
second_of rows refs names witness entries =
    let o = resolved_in rows refs entries witness in
    let a = answer_by entries o.answer in
    outcome a (keeps_by a rows) (keeps_by a refs) (keeps_by a names) (padded witness (witness_in o))

-- "After acceptance the unused rest of every output is 0."
abbrev pub result_of : Lent → Result (List Entry) Error → Outcome
result_of lent (Err error) = outcome (first_answer (Err error)) (zeros lent.rows) (zeros lent.refs) (zeros lent.names) (zeros lent.witness)
result_of lent (Ok es) =
    second_of (padded lent.rows (rows_of es)) (padded lent.refs (refs_of es)) (padded lent.names (names_of es)) lent.witness (length es)

unfoldable pub whole_of : Lent → List ℕ → Outcome
whole_of lent ws = result_of lent (reading (room_of lent.rows lent.refs lent.names lent.witness) ws)

pub record Reads (words : List ℕ) (lent : Lent) (a : Answer) (rows refs names witness : List ℕ) : Type 0 where
  pub answer : a ≡ (whole_of lent words).answer
  pub rows_are : rows ≡ (whole_of lent words).rows
  pub refs_are : refs ≡ (whole_of lent words).refs
  pub names_are : names ≡ (whole_of lent words).names
  pub witness_is : witness ≡ (whole_of lent words).witness

-- the second pass, over outputs that held rows₀, refs₀ and names₀
pub record Second (rows₀ refs₀ names₀ : List ℕ) (lent entries : ℕ) (a : Answer) (rows refs names witness : List ℕ) : Type 0 where
  pub answer : a ≡ (second_of rows₀ refs₀ names₀ lent entries).answer
  pub rows_are : rows ≡ (second_of rows₀ refs₀ names₀ lent entries).rows
  pub refs_are : refs ≡ (second_of rows₀ refs₀ names₀ lent entries).refs
  pub names_are : names ≡ (second_of rows₀ refs₀ names₀ lent entries).names
  pub witness_is : witness ≡ (second_of rows₀ refs₀ names₀ lent entries).witness
