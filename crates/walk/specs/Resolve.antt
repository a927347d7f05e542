-- Document 01, "Resolution": what the second pass answers and leaves in the lent witness.
--     entries_of count words room   how many entries are walked: those whose rows lie in so many words and for which the witness has room
--     witness_by, witness_in o       the words that the outcome o leaves first in the witness
--     Resolves                     the answer, and the whole witness
-- Assumes nothing.
use Rattle.std.specs.Prelude.{◌≡◌, List, [], ℕ, min, Result}
use Rattle.table.specs.Buffers.{padded}
use Rattle.table.specs.Rows.{entry_room}
use Rattle.ranks.specs.Walk.{Answer, Rank, Ring, Bad, Out, resolve, ranks_of}
use Rattle.rules.specs.Lawful.{max_entries, table_of}
use Rattle.walk.specs.declared.Error.{Error}
use Rattle.walk.specs.Answers.{paper_of, paper_in}

-- "the least of 4,096, rows length / 8 rounded down, and witness length": the first pass leaves no more entries than that
abbrev pub entries_of : ℕ → ℕ → ℕ → ℕ
entries_of count words room = min count (min (entry_room words) (min room max_entries))

-- "Every refusal: outputs all zero, except that 19 leaves its ring first in the witness."
abbrev pub witness_by : Answer → List ℕ → List ℕ
witness_by (Rank k) marks = ranks_of marks
witness_by (Ring ring) marks = ring
witness_by (Bad n e r) marks = []

abbrev pub witness_in : Out → List ℕ
witness_in o = witness_by o.answer o.marks

-- the first n entries, and a witness of that room; "the unused rest of every output is 0"
pub record Resolves (rows refs : List ℕ) (n room : ℕ) (r : Result Unit Error) (witness : List ℕ) : Type 0 where
  pub answer : paper_of r ≡ paper_in (resolve (table_of rows refs n)).answer
  pub content : witness ≡ padded room (witness_in (resolve (table_of rows refs n)))
