-- What the answers of a pass mean: accepted exactly if some ranks pass, with the least ranks that do; each refusal deserved.
-- Assumes nothing.
use mathlib.Core.Path.{◌≡◌, refl, sym, ◌∙◌}
use mathlib.Core.Bool.{true}
use mathlib.Core.List.{List, Memᴰ}
use Prim.Native.Nat.{ℕ, zero, suc, ◌-◌, ◌≤◌, ◌<◌}
use native.Mathlib.Omega.{arith}
use lib.ListN.{get_or, length-map, get_or-map}
use Rattle.ranks.specs.Table.{Table, Refers, Passes, height}
use Rattle.ranks.specs.Walk.{Answer, Rank, Ring, Bad, out, resolve, rank_in, ranks_of}
use Rattle.ranks.specs.Promises.{Ranked, Means, Deserved, Accepts, Decided}
use Rattle.ranks.proofs.Paths.{each-of-mem, each_at, ring-fits, ring-refutes-ranks, fault-refutes-ranks}
use Rattle.ranks.proofs.Low.{Any, LowPass, resolve-low}
use Rattle.ranks.proofs.Heights.{height-above, height-le, height-same}
use Rattle.ranks.proofs.State.{Settled, Closed}
use Rattle.ranks.proofs.Steps.{Holds}
use Rattle.ranks.proofs.Order.{first-unique}
use Rattle.ranks.proofs.Sound.{Stops, Resolved, resolve-answered}

pub rank-at : (l : List ℕ) (e : ℕ) → get_or (ranks_of l) e 0 ≡ rank_in l e
rank-at l e = get_or-map (λ (m : ℕ). m - 2) l e 0

module _ (t : Table) (l : List ℕ) (r : Resolved t t.count l) (b : LowPass t t.count l) where
  closed_at : (e : ℕ) → e < t.count → Closed t l e
  closed_at e h = r.state.closed e (r.done e h)

  settled_at : (e x : ℕ) → e < t.count → Memᴰ x (t.refs e) → Settled t l e x
  settled_at e x h m = each_at (Settled t l e) m (closed_at e h).settled

  falls_at : (e x : ℕ) → e < t.count → Refers t e x → rank_in l x < rank_in l e
  falls_at e x h k = rw (closed_at e h).exact (height-above (rank_in l) (t.counts e) 0 k.listed k.counted)

  resolved-passes : Passes t (ranks_of l)
  resolved-passes = record {
    sized = omega (arith, length-map l (λ (m : ℕ). m - 2), r.state.sized);
    lawful = λ e h. record { inside = λ x m. (settled_at e x h m).inside; fine = (closed_at e h).fine };
    falls = λ e x h k. rw (rank-at l x, rank-at l e) (falls_at e x h k);
  }

  resolved-below : (e : ℕ) → e < t.count → rank_in l e < t.count
  resolved-below e h = omega (arith, b.low.roof e (r.done e h))

  resolved-exact : (e : ℕ) → e < t.count → get_or (ranks_of l) e 0 ≡ height (λ x. get_or (ranks_of l) x 0) (t.counts e) 0 (t.refs e)
  resolved-exact e h =
      rank-at l e ∙ (closed_at e h).exact
      ∙ height-same (rank_in l) (t.counts e) (λ x. get_or (ranks_of l) x 0) 0 (t.refs e)
      (each-of-mem (λ x. t.counts e x ≡ true → rank_in l x ≡ get_or (ranks_of l) x 0) (t.refs e) (λ x m c. sym (rank-at l x)))

  resolved-least : (ranks : List ℕ) → Passes t ranks → (n e : ℕ) → e < t.count → rank_in l e < n → rank_in l e ≤ get_or ranks e 0
  resolved-least ranks ok zero e h lt = absurd (omega arith)
  resolved-least ranks ok (suc n) e h lt =
      rw (closed_at e h).exact
      (height-le (rank_in l) (t.counts e) (get_or ranks e 0) 0 (t.refs e) (omega arith)
      (each-of-mem (λ x. t.counts e x ≡ true → rank_in l x < get_or ranks e 0) (t.refs e)
      (λ x m c. below x (record { listed = m; counted = c }) (resolved-least ranks ok n x (settled_at e x h m).inside))))
    where
      below : (x : ℕ) → Refers t e x → (rank_in l x < n → rank_in l x ≤ get_or ranks x 0) → rank_in l x < get_or ranks e 0
      below x k ih = let f = falls_at e x h k in omega (arith, ok.falls e x h k, ih (omega arith))

  resolved-ranked : Ranked t (ranks_of l)
  resolved-ranked = record {
    passes = resolved-passes;
    exact = resolved-exact;
    bounded = λ e h. rw (rank-at l e) (resolved-below e h);
    least = λ others ok e h. rw (rank-at l e) (resolved-least others ok (suc (rank_in l e)) e h (omega arith));
  }

-- every answer is deserved
pub resolve-deserved : (t : Table) → Deserved t (resolve t)
resolve-deserved t = go (resolve t).marks (resolve t).answer (resolve-answered t) (resolve-low t)
  where
    go : (l : List ℕ) (a : Answer) → Holds (Stops t) (λ k. Resolved t t.count l) a → Holds Any (λ k. LowPass t t.count l) a
        → Means t l a
    go l (Rank k) r b = resolved-ranked t l r b
    go l (Ring ring) r b = record { is_ring = r; fits = ring-fits t ring r; refutes = λ ranks ok. ring-refutes-ranks ok ring r }
    go l (Bad n e r) h b = record {
      fault = h.0;
      first = h.1;
      only = λ m f s q. first-unique t q h.1;
      refutes = λ ranks ok.
          fault-refutes-ranks ok n e r h.0;
    }

pub deserved-at : (t : Table) (l : List ℕ) (a : Answer) → resolve t ≡ out l a → Means t l a
deserved-at t l a q = rw q at (resolve-deserved t)

-- ranks that pass leave no refusal
pub resolve-decided : (t : Table) → Decided t
resolve-decided t = (
  λ a. (ranks_of a.0, (deserved-at t a.0 (Rank a.1) a.2).passes),
  λ r. go r.1 (resolve t).marks
      (resolve t).answer refl,
)
  where
    go : {ranks : List ℕ} → Passes t ranks → (l : List ℕ) (a : Answer) → resolve t ≡ out l a → Accepts t
    go ok l (Rank k) q = (l, k, q)
    go {ranks} ok l (Ring ring) q = absurd ((deserved-at t l (Ring ring) q).refutes ranks ok)
    go {ranks} ok l (Bad n e r) q = absurd ((deserved-at t l (Bad n e r) q).refutes ranks ok)
