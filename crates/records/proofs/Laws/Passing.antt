-- The order of the refusals, and the outputs cleared behind what is kept.
-- Assumes nothing.
use mathlib.Core.Path.{◌≡◌, refl, sym, ap, ◌∙◌}
use mathlib.Core.List.{List, [], ◌++◌, append-nil}
use Prim.Native.Nat.{ℕ, ◌-◌, ◌*◌, ◌≤◌}
use native.Mathlib.Omega.{arith}
use lib.ListN.{length, take, drop}
use lib.Dec.{eqb}
use borrow.Author.Tests.{eq-eqb, ne_eqb, eqb-true, eqb-false}
use mathlib.Core.Bool.{Bool, true, false, cond}
use Rattle.std.proofs.Common.{Result, Ok, Err}
use Rattle.std.specs.Result.{MatchResult, IsOkAnd, ResultUnwrapsOrElse}
use Rattle.laws.proofs.Told.{no}
use Rattle.laws.proofs.Rests.{rest_part, rest-none}
use Rattle.table.specs.Buffers.{over, zeros}
use Rattle.table.specs.Entries.{Entry}
use Rattle.table.specs.Rows.{row_words, rows_of, refs_of, names_of}
use Rattle.table.proofs.Laws.Buffers.{padded-rest}
use Rattle.table.proofs.Laws.Rows.{length-rows_of}
use Rattle.stream.specs.declared.Cut.{Cut}
use Rattle.stream.specs.Stream.{stream, framed}
use Rattle.stream.specs.Count.{num_entries, Stated, stated_by}
use Rattle.records.specs.declared.Filled.{Filled}
use Rattle.records.specs.declared.Error.{Error}
use Rattle.records.specs.declared.Error.TheVariants.{CountDiffers}
use Rattle.records.specs.Table.{Table, Room, empty}
use Rattle.records.specs.Records.{Ran, whole, bad, run}
use Rattle.records.specs.Read.{by_entries, by_count, by_frame, reading, output, shown}
use Rattle.records.specs.Values.{filled_of}
use Rattle.records.specs.Held.{Buffers, Holds, Passed, opening_of, Left}

opening-bad : (f : Result (Unit {0}) Cut) (n : Stated) (e : Error) (r : Ran) → opening_of f n ≡ Err e → by_frame f (by_count n r) ≡ Err e
opening-bad f n e r q = grind arith

opening-fine : (f : Result (Unit {0}) Cut) (n : Stated) (k : ℕ) (r : Ran) → opening_of f n ≡ Ok k
    → by_frame f (by_count n r) ≡ by_entries k r
opening-fine f n k r q = grind arith

Passed-end : (b : Buffers) (r : Ran) (f : Filled) (x y z : List ℕ) → Passed b r (Ok f) x y z
    → (t : Table) × (r ≡ whole t) × (f ≡ filled_of t) × Holds b t x y z
Passed-end b (whole t) f x y z h = (t, refl, cc, h.1)
Passed-end b (bad n fault) f x y z h = no (cc)

Passed-record : (b : Buffers) (r : Ran) (e : Error) (x y z : List ℕ) → Passed b r (Err e) x y z → (n : ℕ) → by_entries n r ≡ Err e
Passed-record b (whole t) e x y z h n = let q = h.0 in no (cc)
Passed-record b (bad m fault) e x y z h n = cc

module _ (room : Room) (ws : List ℕ) (b : Buffers) (r : Result Filled Error) (x y z : List ℕ) (o : Result ℕ Error)
    (is-o : o ≡ opening_of (framed 0 (stream ws)) (stated_by (num_entries (stream ws)))) where
  pub Left-opening : (e : Error) → o ≡ Err e → r ≡ Err e → Left b (reading room ws) r x y z
  unfolding reading
  Left-opening e q is =
      rw (opening-bad (framed 0 (stream ws)) (stated_by (num_entries (stream ws))) e (run room 0 empty (stream ws)) (sym is-o ∙ q)) is

  module _ (n : ℕ) (q : o ≡ Ok n) (passed : Result Filled Error) (all : Passed b (run room 0 empty (stream ws)) passed x y z) where
    fine : reading room ws ≡ by_entries n (run room 0 empty (stream ws))
    unfolding reading
    fine = opening-fine (framed 0 (stream ws)) (stated_by (num_entries (stream ws))) n (run room 0 empty (stream ws)) (sym is-o ∙ q)

    pub Left-record : (e : Error) → passed ≡ Err e → r ≡ Err e → Left b (reading room ws) r x y z
    Left-record e p is =
        rw (fine, Passed-record b (run room 0 empty (stream ws)) e x y z (rw p at all) n) is

    module _ (f : Filled) (p : passed ≡ Ok f) where
      pub Left-count : (n ≡ f.entries → ⊥) → r ≡ Err (CountDiffers n f.entries) → Left b (reading room ws) r x y z
      Left-count differs is =
          let u = Passed-end b (run room 0 empty (stream ws)) f x y z (rw p at all) in
          let got : f.entries ≡ length u.0.entries = ap (λ (v : Filled). v.entries) u.2 in
          rw (fine, u.1, ← got, ne_eqb n f.entries differs) is

      pub Left-agrees : n ≡ f.entries → r ≡ Ok f → Left b (reading room ws) r x y z
      Left-agrees agrees is =
          let u = Passed-end b (run room 0 empty (stream ws)) f x y z (rw p at all) in
          let got : n ≡ length u.0.entries = agrees ∙ ap (λ (v : Filled). v.entries) u.2 in
          rw (fine, u.1, eq-eqb n (length u.0.entries) got) (u.0, refl, is ∙ ap Ok u.2, u.3)

      -- both, as docs/TRACE.md names them
      pub Left-end : r ≡ cond (eqb n f.entries) (Ok f) (Err (CountDiffers n f.entries)) → Left b (reading room ws) r x y z
      Left-end = by (eqb n f.entries) refl
        where
          by : (c : Bool) → eqb n f.entries ≡ c → r ≡ cond c (Ok f) (Err (CountDiffers n f.entries)) → Left b (reading room ws) r x y z
          by true e is = Left-agrees (eqb-true n f.entries e) is
          by false e is = Left-count (eqb-false n f.entries e) is

-- what is kept, where a refusal keeps nothing, and the answer
abbrev none_kept : Filled → Type 0
none_kept f = (f.entries ≡ 0) × (f.refs ≡ 0) × (f.taken ≡ 0)

abbrev Kept : Result Filled Error → Filled → Type 0
Kept (Ok f) k = k ≡ f
Kept (Err e) k = none_kept k

abbrev Answers : Result Filled Error → Result ℕ Error → Type 0
Answers (Ok f) a = a ≡ Ok f.entries
Answers (Err e) a = a ≡ Err e

pub kept-by : (r : Result Filled Error) (k : Filled) (Default : Filled → Type 0) → ResultUnwrapsOrElse r Default k
    → ((f : Filled) → Default f → none_kept f) → Kept r k
kept-by (Ok f) k Default is none = is
kept-by (Err e) k Default is none = none k is

pub answers-by : (r : Result Filled Error) (a : Result ℕ Error) (Gives : Filled → ℕ → Type 0)
    → MatchResult r (λ f. IsOkAnd a (Gives f)) (λ e. a ≡ Err e) → ((f : Filled) (n : ℕ) → Gives f n → n ≡ f.entries) → Answers r a
answers-by (Ok f) (Ok n) Gives is gives = ap Ok (gives f n is)
answers-by (Ok f) (Err e) Gives is gives = absurd is
answers-by (Err e) a Gives is gives = is

-- how much of each output is kept lies in it
pub Left-fits : (b : Buffers) (o : Result (List Entry) Error) (r : Result Filled Error) (k : Filled) (x y z : List ℕ) → Kept r k
    → Left b o r x y z → (k.entries * row_words ≤ length b.rows) × (k.refs ≤ length b.refs) × (k.taken ≤ length b.names)
Left-fits b (Ok es) r k x y z kept h =
    let is = h.2 in
    let same : k ≡ filled_of h.0 = rw is at kept in
    rw same (h.3.rows_fit, h.3.refs_fit, h.3.names_fit)
Left-fits b (Err e) r k x y z kept h = let none : none_kept k = rw h at kept in (omega arith, omega arith, omega arith)

-- what an output l is once it is cleared from the place a, where last is what came back of its rest
abbrev cleared : List ℕ → ℕ → List ℕ → List ℕ
cleared l a last = take a l ++ (last ++ drop (length l - a) (drop a l))

cleared-all : (l last : List ℕ) (n a : ℕ) → a ≡ 0 → length l ≡ n → last ≡ zeros (length (take (length l - a) (drop a l)))
    → cleared l a last ≡ zeros n
cleared-all l last n a is-a len is =
    let e : length l - 0 ≡ length l = omega arith in
    rw (is, rest-none l a, rest_part l a, append-nil, is-a, len)

same-output : (a a' : Result ℕ Error) (r r' f f' n n' : List ℕ) → a ≡ a' → r ≡ r' → f ≡ f' → n ≡ n' → output a r f n ≡ output a' r' f' n'
same-output a a' r r' f f' n n' p q s u = rw (p, q, s, u)

module _ (b : Buffers) (r : Result Filled Error) (k : Filled) (kept : Kept r k) (a : Result ℕ Error) (answers : Answers r a)
    (x y z u v w : List ℕ)
    (lx : length x ≡ length b.rows) (ly : length y ≡ length b.refs) (lz : length z ≡ length b.names)
    (is-u : u ≡ zeros (length (take (length x - k.entries * row_words) (drop (k.entries * row_words) x))))
    (is-v : v ≡ zeros (length (take (length y - k.refs) (drop k.refs y))))
    (is-w : w ≡ zeros (length (take (length z - k.taken) (drop k.taken z)))) where
  by-table : (t : Table) → k ≡ filled_of t → a ≡ Ok (length t.entries) → Holds b t x y z
      → output a (cleared x (k.entries * row_words) u) (cleared y k.refs v) (cleared z k.taken w) ≡ shown (length b.rows)
      (length b.refs) (length b.names) (Ok t.entries)
  by-table t is answers H =
      let es = t.entries in
      let alone : (l m : List ℕ) → over l m ≡ over (l ++ []) m = λ l m. ap (λ (j : List ℕ). over j m) (sym (append-nil l)) in
      same-output _ _ _ _ _ _ _ _ answers
      (padded-rest (rows_of es) b.rows x u (k.entries * row_words)
      (ap (λ (j : Filled). j.entries * row_words) is ∙ sym (length-rows_of es))
      (omega (arith, length-rows_of es, H.rows_fit)) [] (H.rows_are ∙ alone (rows_of es) b.rows) is-u)
      (padded-rest (refs_of es) b.refs y v k.refs (ap (λ (j : Filled). j.refs) is) H.refs_fit []
      (H.refs_are ∙ alone (refs_of es) b.refs) is-v)
      (padded-rest (names_of es) b.names z w k.taken (ap (λ (j : Filled). j.taken) is) H.names_fit t.pending H.names_are is-w)

  pub Left-shown : (o : Result (List Entry) Error) → Left b o r x y z
      → output a (cleared x (k.entries * row_words) u) (cleared y k.refs v) (cleared z k.taken w) ≡ shown (length b.rows)
      (length b.refs) (length b.names) o
  Left-shown (Ok es) h =
      let is = h.2 in
      let q = h.1 in
      by-table h.0 (rw is at kept) (rw is at answers) h.3 ∙ rw q
  Left-shown (Err e) h =
      let none : none_kept k = rw h at kept in
      same-output _ _ _ _ _ _ _ _ (rw h at answers)
      (cleared-all x u _ (k.entries * row_words) (omega (arith, none.0)) lx is-u)
      (cleared-all y v _ k.refs none.1 ly is-v)
      (cleared-all z w _ k.taken none.2 lz is-w)
