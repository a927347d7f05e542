-- Demand 3. By the theory (ranks/proofs/Promises) every answer of the walk is deserved, and the checker says yes exactly if the
-- theory's ranks pass; the witness holds what the theory's outcome says.
-- Assumes nothing.
use mathlib.Core.Path.{◌≡◌, refl, sym, ap, ◌∙◌}
use mathlib.Core.Logic.{inl, inr}
use mathlib.Core.Bool.{true}
use mathlib.Core.List.{List, [], ◌∷◌, ◌++◌}
use Prim.Native.Nat.{ℕ, zero, suc, ◌-◌, ◌≤◌}
use native.Mathlib.Omega.{arith}
use lib.ListN.{length, get_or, length-append}
use Rattle.std.specs.Prelude.{Result}
use Rattle.table.specs.Buffers.{zeros, padded}
use Rattle.table.specs.Back.{entries_from}
use Rattle.table.proofs.Laws.Buffers.{padded-none}
use Rattle.ranks.specs.Table.{Table, Passes, Fault, height}
use Rattle.ranks.specs.Walk.{Answer, Rank, Ring, Bad, resolve, ranks_of}
use Rattle.ranks.specs.Promises.{Ranked, Means}
use Rattle.ranks.proofs.Marks.{getD-zeros}
use Rattle.ranks.proofs.Paths.{each-of-mem}
use Rattle.ranks.proofs.Heights.{height-same}
use Rattle.ranks.proofs.Promises.{resolve-deserved}
use Rattle.rules.specs.Lawful.{table_of}
use Rattle.walk.specs.declared.Error.{Error}
use Rattle.walk.specs.Answers.{Paper, accepted, refused, cycle, paper_of, paper_in}
use Rattle.walk.specs.Resolve.{witness_by, witness_in, Resolves}
use Rattle.resolve.specs.Formed.{table_formed}
use Rattle.resolve.specs.Promises.{Lowest, Demand3, Determined, Flat}
use Rattle.resolve.proofs.Laws.Checked.{checked-passes, passes-checked}
use Rattle.resolve.proofs.Laws.Entries.{holds-table_formed, holds-unique}
use Rattle.resolve.proofs.Laws.Reading.{table_formed-holds}
use Rattle.resolve.proofs.Laws.Answers.{paper_of-unique, rule_at-no-cycle}

-- zeros behind a list change nothing that is read
getD-behind : (xs : List ℕ) (m i : ℕ) → get_or (xs ++ zeros m) i 0 ≡ get_or xs i 0
getD-behind [] m i = getD-zeros m i
getD-behind (x ∷ xs) m zero = refl
getD-behind (x ∷ xs) m (suc i) = getD-behind xs m i

getD-padded : (room : ℕ) (xs : List ℕ) (i : ℕ) → get_or (padded room xs) i 0 ≡ get_or xs i 0
unfolding padded
getD-padded room xs i = getD-behind xs (room - length xs) i

length-padded : (room : ℕ) (xs : List ℕ) → length xs ≤ length (padded room xs)
unfolding padded
length-padded room xs = simp length-append (omega arith)

-- ranks that pass still do with zeros behind them
passes-padded : (t : Table) (room : ℕ) (ranks : List ℕ) → Passes t ranks → Passes t (padded room ranks)
passes-padded t room ranks p = record {
  sized = omega (arith, p.sized, length-padded room ranks);
  lawful = p.lawful;
  falls = λ e r lt k. rw (getD-padded room ranks r, getD-padded room ranks e) (p.falls e r lt k);
}

module _ (rows refs names : List ℕ) (n room : ℕ) (verdict : Paper) (w : List ℕ) (formed : table_formed rows refs names n ≡ true) where
  -- by the theory's outcome, of which the contract tells
  module _ (l : List ℕ) where
    lowest : Ranked (table_of rows refs n) (ranks_of l) → w ≡ padded room (ranks_of l) → Lowest rows refs names n w
    lowest k is = record {
      passes = passes-checked rows refs names w n formed (rw is (passes-padded (table_of rows refs n) room (ranks_of l) k.passes));
      bounded = λ e lt. rw (at e) (k.bounded e lt);
      lowest = λ ranks ok e lt. rw (at e) (k.least ranks (checked-passes rows refs names ranks n ok).1 e lt);
      exact = λ e lt. at e ∙ (k.exact e lt ∙ same e);
    }
      where
        at : (e : ℕ) → get_or w e 0 ≡ get_or (ranks_of l) e 0
        at e = ap (λ (x : List ℕ). get_or x e 0) is ∙ getD-padded room (ranks_of l) e

        same : (e : ℕ) → height (λ x. get_or (ranks_of l) x 0) ((table_of rows refs n).counts e) 0 ((table_of rows refs n).refs e)
            ≡ height (λ x. get_or w x 0) ((table_of rows refs n).counts e) 0 ((table_of rows refs n).refs e)
        same e =
            height-same (λ x. get_or (ranks_of l) x 0) ((table_of rows refs n).counts e) (λ x. get_or w x 0) 0 ((table_of rows refs n).refs e)
            (each-of-mem (λ x. (table_of rows refs n).counts e x ≡ true → get_or (ranks_of l) x 0 ≡ get_or w x 0) ((table_of rows refs n).refs e)
            (λ x m c. sym (at x)))

    never : {A : Type 0} → (p e d : ℕ) → accepted ≡ refused p e d → A
    never p e d h = let z : ◌≡◌ {A = ℕ} 0 1 = cc in absurd (omega arith)

    fault-no-cycle : (p e d : ℕ) → Fault (table_of rows refs n) p e d → p ≡ cycle → ⊥
    fault-no-cycle p e d (inl h) q = omega (arith, h.number)
    fault-no-cycle p e d (inr h) q = rule_at-no-cycle rows refs e p d h.breaks q

    by_answer : (a : Answer) → Means (table_of rows refs n) l a → verdict ≡ paper_in a → w ≡ padded room (witness_by a l)
        → Demand3 rows refs names n room verdict w
    by_answer (Rank k) m says is = record {
      decided = (λ q. (w, (lowest m is).passes), λ some. says);
      ranked = λ q. lowest m is;
      ring = λ k m q. never cycle k m (sym says ∙ q);
      blamed = λ p e d q other. never p e d (sym says ∙ q);
      refuted = λ p e d q. never p e d (sym says ∙ q);
    }
    by_answer (Ring xs) m says is = record {
      decided = (
        λ q. never cycle _ _ (sym q ∙ says),
        λ some. absurd
            (m.refutes some.0 (checked-passes rows refs names some.0 n some.1).1),
      );
      ranked = λ q. never cycle _ _ (sym q ∙ says);
      ring = λ k j q. let s = sym says ∙ q in record {
        ring = xs;
        is_ring = m.is_ring;
        starts = cc;
        long = cc;
        first = is;
      };
      blamed = λ p e d q other. let s = sym says ∙ q in absurd (other (cc));
      refuted = λ p e d q ranks ok. m.refutes ranks (checked-passes rows refs names ranks n ok).1;
    }
    by_answer (Bad p e d) m says is = record {
      decided = (
        λ q. never p e d (sym q ∙ says),
        λ some. absurd
            (m.refutes some.0 (checked-passes rows refs names some.0 n some.1).1),
      );
      ranked = λ q. never p e d (sym q ∙ says);
      ring = λ k j q. let s = sym says ∙ q in let c : p ≡ cycle = cc in absurd (fault-no-cycle p e d m.fault c);
      blamed = λ p' e' d' q other. let s = sym says ∙ q in
          let a : p ≡ p' = cc in
          let b : e ≡ e' = cc in
          let c : d ≡ d' = cc in
          (rw (a, b, c) at m, is ∙ padded-none room);
      refuted = λ p' e' d' q ranks ok. m.refutes ranks (checked-passes rows refs names ranks n ok).1;
    }

  pub outcome-demand-3 : verdict ≡ paper_in (resolve (table_of rows refs n)).answer
      → w ≡ padded room (witness_in (resolve (table_of rows refs n))) → Demand3 rows refs names n room verdict w
  outcome-demand-3 says is = by_answer (resolve (table_of rows refs n)).marks (resolve (table_of rows refs n)).answer
      (resolve-deserved (table_of rows refs n)) says is

pub demand-3 : (rows refs names : List ℕ) (n room : ℕ) (r : Result Unit Error) (w : List ℕ) → table_formed rows refs names n ≡ true
    → Resolves rows refs n room r w → Demand3 rows refs names n room (paper_of r) w
demand-3 rows refs names n room r w formed h = outcome-demand-3 rows refs names n room (paper_of r) w formed h.answer h.content

pub determined : (rows refs : List ℕ) (n room : ℕ) → Determined rows refs n room
determined rows refs n room r s w v h k = (paper_of-unique r s (h.answer ∙ sym k.answer), h.content ∙ sym k.content)

pub flat : (rows refs names ranks : List ℕ) (n : ℕ) → Flat rows refs names ranks n
flat rows refs names ranks n = (
  (
    λ h.
        let p = checked-passes rows refs names ranks n h in
        let f = table_formed-holds rows refs names n p.0 in
        (entries_from rows refs names 0 n, f.0, f.1, p.1),
    λ s. passes-checked rows refs names ranks n (rw s.1 at (holds-table_formed rows refs names s.0 s.2)) s.3,
  ),
  λ es fs h k len. sym (holds-unique rows refs names es h) ∙ (ap (λ (m : ℕ). entries_from rows refs names 0 m) len
      ∙ holds-unique rows refs names fs k),
)
