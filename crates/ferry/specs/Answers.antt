-- Document 01, "Refusal numbers": the paper's answer for the answers of either pass.
--     Answer               so many entries, or a refusal
--     first_answer a       the first pass;  second_answer n r  the second over n entries;  answer_by n a  the walk's outcome
-- Assumes nothing.
use Rattle.std.specs.Prelude.{ℕ, Result, Ok, Err}
use Rattle.units.specs.declared.refusal.Refusal.{Refusal}
use Rattle.ranks.specs.Walk as ranks
use Rattle.records.specs.declared.Error.{Error as First}
use Rattle.records.specs.Answers.{refusal, verdict_of}
use Rattle.walk.specs.declared.Error.{Error}
use Rattle.walk.specs.Answers.{Paper, accepted as allowed, refused, paper_of, paper_in}

abbrev pub Answer : Type 0
Answer = Result ℕ Refusal

abbrev pub first_answer : Result ℕ First → Answer
first_answer = verdict_of

abbrev pub on_paper : ℕ → Paper → Answer
on_paper entries allowed = Ok entries
on_paper entries (refused number place detail) = Err (refusal number place detail)

abbrev pub second_answer : ℕ → Result Unit Error → Answer
second_answer entries r = on_paper entries (paper_of r)

abbrev pub answer_by : ℕ → ranks.Answer → Answer
answer_by entries a = on_paper entries (paper_in a)
