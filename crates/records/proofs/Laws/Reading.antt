-- The loop over the records. Its invariant, `Reading`: the outputs hold a table from which what is left gives what the whole gives.
-- Assumes nothing.
use mathlib.Core.Path.{◌≡◌, refl, ap, ◌∙◌}
use mathlib.Core.Bool.{false}
use mathlib.Core.List.{List, [], ◌∷◌}
use Prim.Native.Nat.{ℕ, ◌+◌, ◌*◌, ◌≤◌, ◌<◌, ◌^◌}
use native.Mathlib.Omega.{arith}
use lib.ListN.{length}
use lib.Seq.{take-nil}
use Rattle.std.proofs.Common.{Option, Some, Result, Ok, Err}
use Rattle.std.specs.declared.iter.Enumerate.{Enumerate}
use Rattle.std.specs.Iterator.{YieldsFirstBy}
use Rattle.std.specs.Iterator.Adapters.{enumerate_source, enumerate_count, enumerate_steps}
use Rattle.std.specs.Result.{MatchResult, IsErrAnd}
use Rattle.std.proofs.lemmas.Result.{err_from_is_err_and}
use Rattle.laws.proofs.Told.{no}
use Rattle.table.specs.Buffers.{over}
use Rattle.table.specs.Rows.{row_words, rows_from, refs_of, names_of}
use Rattle.stream.specs.declared.Cut.{Cut}
use Rattle.stream.specs.declared.Record.{Record}
use Rattle.stream.specs.declared.Records.{Records}
use Rattle.stream.specs.Stream.{Stream, done, cut, rec, stream, Read, records_in, records_of, read_of, left}
use Rattle.stream.proofs.Laws.Stream.{words_in, words_in-le}
use Rattle.shapes.specs.declared.Fault.{Fault}
use Rattle.records.specs.declared.Filled.{Filled}
use Rattle.records.specs.declared.Error.{Error}
use Rattle.records.specs.declared.Error.TheVariants.{BadRecord}
use Rattle.records.specs.Table.{Table, Room, empty}
use Rattle.records.specs.Fill.{last_form}
use Rattle.records.specs.Records.{Outcome, go, stop, step_of, Ran, whole, onward, run}
use Rattle.records.specs.Values.{filled_of}
use Rattle.records.specs.Held.{Buffers, room_in, Holds, After, Passed, mark_of, Ready}
use Rattle.records.proofs.Laws.Deeds.{last-refs-le}
use Rattle.records.proofs.Laws.Turn.{length-rows, length-refs, length-names}

-- a turn of the loop: the record's number, and what is left behind it
pub turn : (s t : Enumerate Records) (r : Option (ℕ × Result Record Cut)) (n : ℕ) (x : Result Record Cut)
    → enumerate_steps (YieldsFirstBy read_of left) s r t → r ≡ Some (n, x)
    → (left (enumerate_source s) ≡ read_of x ∷ left (enumerate_source t)) × (n ≡ enumerate_count s)
    × (enumerate_count t ≡ enumerate_count s + 1) × (n + 1 < 2 ^ 64)
turn s t r n x steps q = rw q at steps

-- the records that are left, in order, the first of them number n
abbrev run_on : Room → ℕ → Table → List (Result Read Cut) → Ran
run_on room n t [] = whole t
run_on room n t (Ok r ∷ l) = onward (step_of room t r.code r.fields) n (λ next. run_on room (n + 1) next l)
run_on room n t (Err c ∷ l) = whole t

onward-same : (o : Outcome) (n : ℕ) (f g : Table → Ran) → ((t : Table) → f t ≡ g t) → onward o n f ≡ onward o n g
onward-same (go t) n f g same = same t
onward-same (stop fault) n f g same = refl

run-on : (room : Room) (s : Stream) (at n : ℕ) (t : Table) → run room n t s ≡ run_on room n t (records_in at s)
unfolding run records_in
run-on room done at n t = refl
run-on room cut at n t = refl
run-on room (rec c fs s) at n t = onward-same (step_of room t c fs) n _ _ (λ next. run-on room s (at + 2 + length fs) (n + 1) next)

pub record Reading (ws : List ℕ) (b : Buffers) (entries : ℕ) (left : List (Result Read Cut)) (number : ℕ) (f : Filled)
    (rows refs names : List ℕ) : Type 0 where
  pub mark_le : f.mark + words_in left ≤ length ws
  pub rows_length : length rows ≡ length b.rows
  pub refs_length : length refs ≡ length b.refs
  pub names_length : length names ≡ length b.names
  pub read : Table
  pub filled_is : f ≡ filled_of read
  pub held : Holds b read rows refs names
  pub same : run (room_in entries b) 0 empty (stream ws) ≡ run_on (room_in entries b) number read left

pub Reading-first : (ws : List ℕ) (b : Buffers) (entries : ℕ) (left : List (Result Read Cut)) (f : Filled) → left ≡ records_of ws
    → (f.entries ≡ 0) × ((f.refs ≡ 0) × ((f.taken ≡ 0) × ((f.mark ≡ 0) × ((f.last.kind ≡ 0) × ((f.last.number ≡ 0)
    × ((f.last.flag ≡ 0) × ((f.last.count ≡ 0) × (f.last.named ≡ false))))))))
    → Reading ws b entries left 0 f b.rows b.refs b.names
unfolding over rows_from refs_of names_of
Reading-first ws b entries left f is none = record {
  mark_le = let le = words_in-le ws in rw is (omega arith);
  rows_length = refl;
  refs_length = refl;
  names_length = refl;
  read = empty;
  filled_is = grind arith;
  held = record {
    rows_are = rw take-nil;
    refs_are = rw take-nil;
    names_are = rw take-nil;
    rows_fit = omega arith;
    refs_fit = omega arith;
    names_fit = omega arith;
  };
  same = rw is (run-on (room_in entries b) (stream ws) 0 0 empty);
}

After-go : (b : Buffers) (o : Outcome) (f : Filled) (x y z : List ℕ) → After b o (Ok f) x y z
    → (t : Table) × (o ≡ go t) × (f ≡ filled_of t) × Holds b t x y z
After-go b (go t) f x y z h = (t, refl, cc, h.1)
After-go b (stop fault) f x y z h = no (cc)

After-stop : (b : Buffers) (o : Outcome) (fault : Fault) (x y z : List ℕ) → After b o (Err fault) x y z → o ≡ stop fault
After-stop b (go t) fault x y z h = let e = h.0 in no (cc)
After-stop b (stop other) fault x y z h = cc

module _ (ws : List ℕ) (b : Buffers) (entries : ℕ) (left : List (Result Read Cut)) (number : ℕ) (f : Filled) (rows refs names : List ℕ)
    (I : Reading ws b entries left number f rows refs names) where
  module _ (r : Read) (rest : List (Result Read Cut)) (q : left ≡ Ok r ∷ rest) where
    pub Reading-ready : entries * row_words ≤ length b.rows → length ws < 2 ^ 64
        → Ready entries f (length rows) (length refs) (length r.fields)
    Reading-ready le fits =
        let es = I.read.entries in
        let k : f.refs ≡ length (refs_of es) = ap (λ (x : Filled). x.refs) I.filled_is in
        let m : f.taken ≡ length (names_of es) = ap (λ (x : Filled). x.taken) I.filled_is in
        let j : f.mark ≡ length (names_of es) + length I.read.pending = ap (λ (x : Filled). x.mark) I.filled_is in
        let i : f.last.count ≡ length (last_form es).refs = ap (λ (x : Filled). x.last.count) I.filled_is in
        let more : f.mark + (2 + length r.fields + words_in rest) ≤ length ws = rw q at I.mark_le in
        record {
          rows_hold = omega (arith, I.rows_length);
          refs_hold = omega (arith, I.refs_length, I.held.refs_fit);
          last_le = omega (arith, last-refs-le es);
          taken_le = omega arith;
          mark_fits = omega arith;
        }

    module _ (step : Result Filled Fault) (x y z : List ℕ) (after : After b (step_of (room_in entries b) I.read r.code r.fields) step x y z)
      where
        pub Reading-stop : (fault : Fault) → step ≡ Err fault → (result : Result Filled Error) → result ≡ Err (BadRecord number fault)
            → Passed b (run (room_in entries b) 0 empty (stream ws)) result x y z
        Reading-stop fault p result is =
            let o : step_of (room_in entries b) I.read r.code r.fields ≡ stop fault = After-stop b _ fault x y z (rw p at after) in
            rw (I.same, q, o) is

        pub Reading-more : (g : Filled) → step ≡ Ok g → mark_of step ≤ f.mark + length r.fields
            → Reading ws b entries rest (number + 1) g x y z
        Reading-more g p le =
            let u = After-go b (step_of (room_in entries b) I.read r.code r.fields) g x y z (rw p at after) in
            let m : g.mark ≤ f.mark + length r.fields = rw p at le in
            let more : f.mark + (2 + length r.fields + words_in rest) ≤ length ws = rw q at I.mark_le in
            record {
              mark_le = omega arith;
              rows_length = length-rows b u.0 x y z u.3;
              refs_length = length-refs b u.0 x y z u.3;
              names_length = length-names b u.0 x y z u.3;
              read = u.0;
              filled_is = u.2;
              held = u.3;
              same = I.same ∙ ap (run_on (room_in entries b) number I.read) q
                  ∙ ap (λ (o : Outcome). onward o number (λ next. run_on (room_in entries b) (number + 1) next rest)) u.1;
            }

-- what a step under `map_err` tells: it is kept, or its fault becomes the record's
module _ (step : Result Filled Fault) (m : Result Filled Error) (n : ℕ) (Gives : Fault → Error → Type 0)
    (cases : MatchResult step (λ g. m ≡ Ok g) (λ fault. IsErrAnd m (Gives fault)))
    (gives : (fault : Fault) (e : Error) → Gives fault e → e ≡ BadRecord n fault) where
  pub mapped-ok : (g : Filled) → m ≡ Ok g → step ≡ Ok g
  mapped-ok g q = by step cases
    where
      by : (s : Result Filled Fault) → MatchResult s (λ g. m ≡ Ok g) (λ fault. IsErrAnd m (Gives fault)) → s ≡ Ok g
      by (Ok h) t = cc
      by (Err fault) t = let p = err_from_is_err_and m t in let e = p.1 in no (cc)

  pub mapped-err : (e : Error) → m ≡ Err e → (fault : Fault) × (step ≡ Err fault) × (e ≡ BadRecord n fault)
  mapped-err e q = by step cases
    where
      by : (s : Result Filled Fault) → MatchResult s (λ g. m ≡ Ok g) (λ fault. IsErrAnd m (Gives fault))
          → (fault : Fault) × (s ≡ Err fault) × (e ≡ BadRecord n fault)
      by (Ok h) t = no (cc)
      by (Err fault) t = let p = err_from_is_err_and m t in let same = p.1 in let is = gives fault p.0 p.2 in (fault, refl, cc)
