-- What an answer of the pass has to mean.
--     Ranked t ranks      ranks pass, each is below the entry count, equals the height of its references, and is least
--     Round t ring        ring is one, so that no ranks pass
--     Blamed t n e r      refusal n names a rule that entry e breaks with r, and the first such, there being no second; so that no ranks pass
--     Means t l a         what the answer a with the marks l means;  Accepts t  the pass gives every entry a rank
--     Deserved t o        the outcome o is deserved: such ranks, such a ring, or such a fault
--     Decided t           the pass accepts exactly if some ranks pass
-- Assumes nothing.
use Rattle.std.specs.Prelude.{◌≡◌, ◌↔◌, List, ℕ, ◌≤◌, ◌<◌, length, get_or}
use Rattle.ranks.specs.Table.{Table, Passes, IsRing, Fault, First, height}
use Rattle.ranks.specs.Walk.{Answer, Rank, Ring, Bad, Out, out, resolve, ranks_of}

pub record Ranked (t : Table) (ranks : List ℕ) : Type 0 where
  pub passes : Passes t ranks
  pub exact : (e : ℕ) → e < t.count → get_or ranks e 0 ≡ height (λ r. get_or ranks r 0) (t.counts e) 0 (t.refs e)
  pub bounded : (e : ℕ) → e < t.count → get_or ranks e 0 < t.count
  pub least : (others : List ℕ) → Passes t others → (e : ℕ) → e < t.count → get_or ranks e 0 ≤ get_or others e 0

pub record Round (t : Table) (ring : List ℕ) : Type 0 where
  pub is_ring : IsRing t ring
  pub fits : length ring ≤ t.count
  pub refutes : (ranks : List ℕ) → Passes t ranks → ⊥

pub record Blamed (t : Table) (n e r : ℕ) : Type 0 where
  pub fault : Fault t n e r
  pub first : First t n e r
  pub only : (m f s : ℕ) → First t m f s → (m ≡ n) × (f ≡ e) × (s ≡ r)
  pub refutes : (ranks : List ℕ) → Passes t ranks → ⊥

abbrev pub Means : Table → List ℕ → Answer → Type 0
Means t l (Rank k) = Ranked t (ranks_of l)
Means t l (Ring ring) = Round t ring
Means t l (Bad n e r) = Blamed t n e r

abbrev pub Deserved : Table → Out → Type 0
Deserved t o = Means t o.marks o.answer

abbrev pub Accepts : Table → Type 0
Accepts t = (l : List ℕ) × (k : ℕ) × (resolve t ≡ out l (Rank k))

abbrev pub Decided : Table → Type 0
Decided t = Accepts t ↔ ((ranks : List ℕ) × Passes t ranks)
