-- The demands for the whole reader: the rows that the first pass leaves are well formed (records/proofs/Promises), so that demand 3
-- holds of the second pass over them (resolve/proofs/Promises).
-- Assumes nothing.
use mathlib.Core.Path.{◌≡◌, refl, sym, ap, ◌∙◌}
use mathlib.Core.Bool.{true}
use mathlib.Core.List.{List}
use Prim.Native.Nat.{ℕ, ◌≤◌}
use native.Mathlib.Omega.{arith}
use lib.Dec.{leb}
use lib.ListN.{length, length-append, length-replicate}
use borrow.Author.Tests.{leb-true, le-leb}
use Rattle.laws.proofs.Conjunctions.{and-true}
use Rattle.std.specs.Prelude.{Result, Ok, Err}
use Rattle.units.specs.declared.refusal.Refusal.{Refusal}
use Rattle.table.specs.Buffers.{zeros, padded}
use Rattle.table.proofs.Laws.Buffers.{padded-none}
use Rattle.table.specs.Entries.{Entry}
use Rattle.table.specs.Rows.{rows_of, refs_of, names_of, entry_room}
use Rattle.table.proofs.Laws.Rows.{length-rows_of}
use Rattle.ranks.specs.Walk as ranks
use Rattle.ranks.specs.Walk.{Rank, Ring, Bad, resolve}
use Rattle.rules.specs.Lawful.{max_entries, table_of}
use Rattle.formed.specs.Formed.{well_formed}
use Rattle.records.specs.Table.{Room}
use Rattle.records.specs.declared.Error.{Error}
use Rattle.records.specs.Read.{reading, room_of}
use Rattle.records.proofs.Promises as records
use Rattle.records.proofs.Promises.{rows-formed, in-room}
use Rattle.walk.specs.Answers.{paper_in, cycle}
use Rattle.walk.specs.Resolve.{entries_of, witness_by, witness_in}
use Rattle.resolve.specs.Formed.{table_formed}
use Rattle.resolve.proofs.Promises as walk
use Rattle.resolve.proofs.Promises.{outcome-demand-3}
use Rattle.ferry.specs.Answers.{Answer, answer_by}
use Rattle.ferry.specs.Reader.{keeps_by, resolved_in, result_of, whole_of}
use Rattle.ferry.proofs.Laws.Reader.{refused-not-passed}
use Rattle.demands.specs.Demands.{Zeroed, Flattened, Tied, Demanded, OneAnswer}

padded-fits : (n : ℕ) (xs : List ℕ) → length xs ≤ n → length (padded n xs) ≡ n
unfolding padded
padded-fits n xs h = simp (length-append, length-replicate) (omega arith)

-- the second pass refuses: nothing is kept, and the witness is zero but for a ring
module _ (refusal : Refusal) (entries : ℕ) where
  refused-keeps : (x : ranks.Answer) → ◌≡◌ {A = Answer} (Err refusal) (answer_by entries x) → (n : ℕ) (l : List ℕ) → length l ≡ n
      → keeps_by (answer_by entries x) l ≡ zeros n
  refused-keeps (Rank k) e n l q = let z : ◌≡◌ {A = ℕ} 0 1 = cc in absurd (omega arith)
  refused-keeps (Ring xs) e n l q = ap zeros q
  refused-keeps (Bad p i d) e n l q = ap zeros q

  refused-witness : (x : ranks.Answer) → ◌≡◌ {A = Answer} (Err refusal) (answer_by entries x) → (refusal.number ≡ cycle → ⊥) → (room : ℕ) (marks : List ℕ)
      → padded room (witness_by x marks) ≡ zeros room
  refused-witness (Rank k) e other room marks = let z : ◌≡◌ {A = ℕ} 0 1 = cc in absurd (omega arith)
  refused-witness (Ring xs) e other room marks = let same : refusal.number ≡ cycle = cc in absurd (other same)
  refused-witness (Bad p i d) e other room marks = padded-none room

pub zeroed : Zeroed
unfolding whole_of
zeroed words lent refusal rows refs names w h =
    by_result (reading room words) refl
  where
    room : Room
    room = room_of lent.rows lent.refs lent.names lent.witness

    by_result : (x : Result (List Entry) Error) → reading room words ≡ x
        → (rows ≡ zeros lent.rows) × (refs ≡ zeros lent.refs) × (names ≡ zeros lent.names)
        × ((refusal.number ≡ cycle → ⊥) → w ≡ zeros lent.witness)
    by_result (Err b) e = (
      h.rows_are ∙ ap (λ (x : Result (List Entry) Error). (result_of lent x).rows) e,
      h.refs_are ∙ ap (λ (x : Result (List Entry) Error). (result_of lent x).refs) e,
      h.names_are ∙ ap (λ (x : Result (List Entry) Error). (result_of lent x).names) e,
      λ other. h.witness_is ∙ ap (λ (x : Result (List Entry) Error). (result_of lent x).witness) e,
    )
    by_result (Ok es) e =
        let R = padded lent.rows (rows_of es) in
        let F = padded lent.refs (refs_of es) in
        let N = padded lent.names (names_of es) in
        let fit = in-room room words es e in
        let eight = length-rows_of es in
        let o = resolved_in R F (length es) lent.witness in
        let says = h.answer ∙ ap (λ (x : Result (List Entry) Error). (result_of lent x).answer) e in
        let keeps = refused-keeps refusal (length es) o.answer says in (
          h.rows_are ∙ (ap (λ (x : Result (List Entry) Error). (result_of lent x).rows) e ∙ keeps lent.rows R (padded-fits lent.rows (rows_of es) (omega arith))),
          h.refs_are ∙ (ap (λ (x : Result (List Entry) Error). (result_of lent x).refs) e ∙ keeps lent.refs F (padded-fits lent.refs (refs_of es) fit.1)),
          h.names_are ∙ (ap (λ (x : Result (List Entry) Error). (result_of lent x).names) e ∙ keeps lent.names N (padded-fits lent.names (names_of es) fit.2)),
          λ other. h.witness_is ∙ (ap (λ (x : Result (List Entry) Error). (result_of lent x).witness) e
              ∙ refused-witness refusal (length es) o.answer says other lent.witness o.marks),
        )

-- an acceptance comes from the second pass, and keeps what the first left
accepted-keeps : (n entries : ℕ) (x : ranks.Answer) → ◌≡◌ {A = Answer} (Ok n) (answer_by entries x)
    → (n ≡ entries) × ((l : List ℕ) → keeps_by (answer_by entries x) l ≡ l)
accepted-keeps n entries (Rank k) e = (cc, λ l. refl)
accepted-keeps n entries (Ring xs) e = let z : ◌≡◌ {A = ℕ} 0 1 = cc in absurd (omega arith)
accepted-keeps n entries (Bad p i d) e = let z : ◌≡◌ {A = ℕ} 0 1 = cc in absurd (omega arith)

pub tied : Tied
unfolding whole_of
tied words lent n rows refs names w h =
    by_result (reading (room_of lent.rows lent.refs lent.names lent.witness) words) refl
  where
    by_result : (x : Result (List Entry) Error) → reading (room_of lent.rows lent.refs lent.names lent.witness) words ≡ x
        → Flattened words lent n rows refs names
    by_result (Err b) e =
        absurd (refused-not-passed b n (sym (h.answer ∙ ap (λ (x : Result (List Entry) Error). (result_of lent x).answer) e)))
    by_result (Ok es) e =
        let R = padded lent.rows (rows_of es) in
        let F = padded lent.refs (refs_of es) in
        let N = padded lent.names (names_of es) in
        let o = resolved_in R F (length es) lent.witness in
        let keeps = accepted-keeps n (length es) o.answer (h.answer ∙ ap (λ (x : Result (List Entry) Error). (result_of lent x).answer) e) in
        record {
          entries = es;
          passed = e;
          counted = keeps.0;
          rows_are = h.rows_are ∙ (ap (λ (x : Result (List Entry) Error). (result_of lent x).rows) e ∙ keeps.1 R);
          refs_are = h.refs_are ∙ (ap (λ (x : Result (List Entry) Error). (result_of lent x).refs) e ∙ keeps.1 F);
          names_are = h.names_are ∙ (ap (λ (x : Result (List Entry) Error). (result_of lent x).names) e ∙ keeps.1 N);
        }

pub demanded : Demanded
unfolding whole_of table_formed well_formed
demanded words lent es a rows refs names w e h =
    let R = padded lent.rows (rows_of es) in
    let F = padded lent.refs (refs_of es) in
    let N = padded lent.names (names_of es) in
    let room = room_of lent.rows lent.refs lent.names lent.witness in
    let ok = rows-formed room words es lent.rows lent.refs lent.names e in
    let few = (in-room room words es e).0 in
    let wide = leb-true (length es) (entry_room (length R)) (and-true (leb (length es) (entry_room (length R))) _ ok).0 in
    let all : entries_of (length es) (length R) lent.witness ≡ length es = omega arith in
    let a-is : a ≡ answer_by (length es) (resolve (table_of R F (length es))).answer =
    h.answer ∙ (ap (λ (x : Result (List Entry) Error). (result_of lent x).answer) e
    ∙ ap (λ (n : ℕ). answer_by (length es) (resolve (table_of R F n)).answer) all) in
    let w-is : w ≡ padded lent.witness (witness_in (resolve (table_of R F (length es)))) =
    h.witness_is ∙ (ap (λ (x : Result (List Entry) Error). (result_of lent x).witness) e
    ∙ ap (λ (n : ℕ). padded lent.witness (witness_in (resolve (table_of R F n)))) all) in
    let formed : table_formed R F N (length es) ≡ true = rw (le-leb (length es) max_entries (omega arith)) ok in
    record {
      verdict = paper_in (resolve (table_of R F (length es))).answer;
      answers = a-is;
      demand-3 = outcome-demand-3 R F N (length es) lent.witness _ w formed refl w-is;
    }

pub one_answer : OneAnswer
one_answer = record {
  read_table = λ words lent a b r s f g m n w v h k. (
    h.answer ∙ sym k.answer,
    h.rows_are ∙ sym k.rows_are,
    h.refs_are ∙ sym k.refs_are,
    h.names_are ∙ sym k.names_are,
    h.witness_is ∙ sym k.witness_is,
  );
  read = records.determined;
  resolve = walk.determined;
  name = λ rows e names at part other place elsewhere h k. (
    h.bytes ∙ sym k.bytes,
    h.block ∙ sym k.block,
    h.offset ∙ sym k.offset,
  );
  equation = λ d a b p q. p ∙ sym q;
}
