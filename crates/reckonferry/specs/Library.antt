-- docs/DECISIONS.md, "The library to link": what the exported functions leave in the buffers that a C caller lends. What it
-- means is said in the crates below: `Reads` and `whole_of` of ferry, `checked` of checker, `has_name` and `stretch_of` of lookup,
-- `mapped` and `refusal_of` of datalayout, `Puts` and `layout_words` of flat. The quotations are of a transcript's answers.
--     answer_words a        an answer as words;  layout_answer r  the answer of the layout reader
--     ReadsTable ..        the outputs of the reader, and its answer over the front of the answer buffer
--     ReadsLayout ..       the same for a layout string; the layout's words lie over zeros
-- Assumes nothing.
use Rattle.std.specs.Prelude.{◌≡◌, Result, Ok, Err, List, [], ◌∷◌, ℕ, length}
use Rattle.table.specs.Buffers.{over, zeros}
use Rattle.ferry.specs.Answers.{Answer}
use Rattle.ferry.specs.Reader.{Lent, Reads, whole_of}
use Rattle.datalayout.specs.declared.error.Error.{Error}
use Rattle.datalayout.specs.Answers.{refusal_of}
use Rattle.datalayout.specs.Strings.{mapped}
use Rattle.flat.specs.Words.{layout_words}
use Rattle.flat.specs.Puts.{Puts}

-- "number (0: accepted), place (accepted: the entry count), detail"
abbrev pub answer_words : Answer → List ℕ
answer_words (Ok entries) = 0 ∷ entries ∷ 0 ∷ []
answer_words (Err r) = r.number ∷ r.place ∷ r.detail ∷ []

pub record ReadsTable (words : List ℕ) (lent : Lent) (answer₀ rows refs names witness answer : List ℕ) : Type 0 where
  pub outputs : Reads words lent (whole_of lent words).answer rows refs names witness
  pub answer_is : answer ≡ over (answer_words (whole_of lent words).answer) answer₀

-- "number, place, detail (0, 0, 0: accepted)"
abbrev pub layout_answer : Result (Unit {0}) Error → Answer
layout_answer (Ok done) = Ok 0
layout_answer (Err error) = Err (refusal_of error)

-- "then the layout": "the layout returned with a refusal is the default one", as `mapped` says
pub record ReadsLayout (value answer₀ layout₀ : List ℕ) (count : ℕ) (answer layout : List ℕ) : Type 0 where
  pub answer_is : answer ≡ over (answer_words (layout_answer (mapped value).answer)) answer₀
  pub layout_is : Puts (layout_words (mapped value).layout) (zeros (length layout₀)) count layout
