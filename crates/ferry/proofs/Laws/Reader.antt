-- Laws of specs/Reader.antt: either pass by its answer, and the two put together.
-- Assumes nothing.
use mathlib.Core.Path.{◌≡◌, sym, ap, ◌∙◌}
use mathlib.Core.List.{List}
use Prim.Native.Nat.{ℕ}
use lib.ListN.{length}
use Rattle.std.specs.Prelude.{Result, Ok, Err}
use Rattle.laws.proofs.Told.{no}
use Rattle.table.specs.Buffers.{zeros, padded}
use Rattle.table.specs.Rows.{rows_of, refs_of, names_of}
use Rattle.table.specs.Entries.{Entry}
use Rattle.records.specs.declared.Error.{Error}
use Rattle.records.specs.declared.Error.TheVariants.{CutRecord, NoSingleCount, BadRecord, CountDiffers}
use Rattle.records.specs.Read.{reading, room_of, Output, output, shown}
use Rattle.units.specs.declared.refusal.Refusal.{Refusal}
use Rattle.walk.specs.declared.Error.{Error as Stopped}
use Rattle.walk.specs.Resolve.{Resolves, entries_of}
use Rattle.ferry.specs.Answers.{Answer, first_answer, on_paper, second_answer, answer_by}
use Rattle.ferry.specs.Reader.{Lent, Outcome, outcome, resolved_in, second_of, result_of, whole_of, Reads, Second}

-- the first pass, whose result is given, answered a and left these outputs
abbrev LeftBy : Lent → Result (List Entry) Error → Result ℕ Error → (rows refs names : List ℕ) → Type 0
LeftBy lent result a rows refs names = output a rows refs names ≡ shown lent.rows lent.refs lent.names result

result_of-refused : (lent : Lent) (result : Result (List Entry) Error) (a : Result ℕ Error) (rows refs names : List ℕ)
    → LeftBy lent result a rows refs names → (error : Error) → a ≡ Err error → (r : Refusal) → Err r ≡ first_answer (Err error)
    → outcome (Err r) rows refs names (zeros lent.witness) ≡ result_of lent result
result_of-refused lent (Ok es) a rows refs names left error e r same =
    let is : a ≡ Ok (length es) = ap (λ (o : Output). o.answer) left in
    no (cc)
result_of-refused lent (Err b) a rows refs names left error e r same =
    let is : a ≡ Err b = ap (λ (o : Output). o.answer) left in
    let one : error ≡ b = cc in
    let rows_are : rows ≡ zeros lent.rows = ap (λ (o : Output). o.rows) left in
    let refs_are : refs ≡ zeros lent.refs = ap (λ (o : Output). o.refs) left in
    let names_are : names ≡ zeros lent.names = ap (λ (o : Output). o.names) left in
    rw (same, rows_are, refs_are, names_are, one)

result_of-taken : (lent : Lent) (result : Result (List Entry) Error) (a : Result ℕ Error) (rows refs names : List ℕ)
    → LeftBy lent result a rows refs names → (entries : ℕ) → a ≡ Ok entries
    → second_of rows refs names lent.witness entries ≡ result_of lent result
result_of-taken lent (Ok es) a rows refs names left entries e =
    let is : a ≡ Ok (length es) = ap (λ (o : Output). o.answer) left in
    let same : entries ≡ length es = cc in
    let rows_are : rows ≡ padded lent.rows (rows_of es) = ap (λ (o : Output). o.rows) left in
    let refs_are : refs ≡ padded lent.refs (refs_of es) = ap (λ (o : Output). o.refs) left in
    let names_are : names ≡ padded lent.names (names_of es) = ap (λ (o : Output). o.names) left in
    rw (same, rows_are, refs_are, names_are)
result_of-taken lent (Err b) a rows refs names left entries e =
    let is : a ≡ Err b = ap (λ (o : Output). o.answer) left in
    no (cc)

-- what the first pass refuses is no answer with a count
pub refused-not-passed : (b : Error) (n : ℕ) → first_answer (Err b) ≡ Ok n → ⊥
refused-not-passed (CutRecord head) n e = no (cc)
refused-not-passed NoSingleCount n e = no (cc)
refused-not-passed (BadRecord number fault) n e = no (cc)
refused-not-passed (CountDiffers stated got) n e = no (cc)

-- the whole reader from its two passes
module _ (lent : Lent) (words rows refs names : List ℕ) (a : Result ℕ Error)
    (left : LeftBy lent (reading (room_of lent.rows lent.refs lent.names lent.witness) words) a rows refs names) where
  pub Reads-refused : (error : Error) → a ≡ Err error → (r : Refusal) (w : List ℕ) → Err r ≡ first_answer (Err error)
      → w ≡ zeros lent.witness → Reads words lent (Err r) rows refs names w
  unfolding whole_of
  Reads-refused error e r w same is =
      let result = reading (room_of lent.rows lent.refs lent.names lent.witness) words in
      let all = result_of-refused lent result a rows refs names left error e r same in
      record {
        answer = ap (λ (o : Outcome). o.answer) all;
        rows_are = ap (λ (o : Outcome). o.rows) all;
        refs_are = ap (λ (o : Outcome). o.refs) all;
        names_are = ap (λ (o : Outcome). o.names) all;
        witness_is = is ∙ ap (λ (o : Outcome). o.witness) all;
      }

  pub Reads-second : (entries : ℕ) (b : Answer) (rows' refs' names' w : List ℕ) → a ≡ Ok entries
      → Second rows refs names lent.witness entries b rows' refs' names' w → Reads words lent b rows' refs' names' w
  unfolding whole_of
  Reads-second entries b rows' refs' names' w e s =
      let room = room_of lent.rows lent.refs lent.names lent.witness in
      let all = result_of-taken lent (reading room words) a rows refs names left entries e in
      record {
        answer = s.answer ∙ ap (λ (o : Outcome). o.answer) all;
        rows_are = s.rows_are ∙ ap (λ (o : Outcome). o.rows) all;
        refs_are = s.refs_are ∙ ap (λ (o : Outcome). o.refs) all;
        names_are = s.names_are ∙ ap (λ (o : Outcome). o.names) all;
        witness_is = s.witness_is ∙ ap (λ (o : Outcome). o.witness) all;
      }

-- Named in docs/TRACE.md: the second pass answered a, and its refusals clear the outputs.
module _ (rows refs names w : List ℕ) (room entries : ℕ) (r : Result (Unit {0}) Stopped)
    (done : Resolves rows refs (entries_of entries (length rows) room) room r w) (a : Answer) (is : a ≡ second_answer entries r) where
  answered : a ≡ answer_by entries (resolved_in rows refs entries room).answer
  answered = is ∙ ap (on_paper entries) done.answer

  pub Second-kept : (n : ℕ) → a ≡ Ok n → Second rows refs names room entries (Ok n) rows refs names w
  Second-kept n e =
      let all = sym answered ∙ e in
      record { answer = sym all; rows_are = rw all; refs_are = rw all; names_are = rw all; witness_is = done.content }

  pub Second-cleared : (f : Refusal) (rows' refs' names' : List ℕ) → a ≡ Err f
      → rows' ≡ zeros (length rows) → refs' ≡ zeros (length refs) → names' ≡ zeros (length names)
      → Second rows refs names room entries (Err f) rows' refs' names' w
  Second-cleared f rows' refs' names' e cleared-rows cleared-refs cleared-names =
      let all = sym answered ∙ e in
      record {
        answer = sym all;
        rows_are = rw all cleared-rows;
        refs_are = rw all cleared-refs;
        names_are = rw all cleared-names;
        witness_is = done.content;
      }
