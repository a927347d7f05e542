-- The bound on ranks and what else a walk may go on with, kept from step to step (specs/Marks.antt: Ready, RankKept, Kept).
-- Assumes nothing.
use mathlib.Core.Path.{◌≡◌, refl, ◌∙◌}
use mathlib.Core.List.{List}
use Prim.Native.Nat.{ℕ, ◌+◌, ◌-◌, ◌≤◌, ◌<◌, max}
use native.Mathlib.Omega.{arith}
use native.Mathlib.Decide.{ℕ_discrete}
use lib.ListN.{length, get_or, set, replicate, length-set, length-replicate}
use lib.Seq.{get_or-set_same, get_or-set_other}
use Rattle.std.proofs.Common.{Result, Ok, Err}
use Rattle.table.specs.declared.Rank.{Rank}
use Rattle.ranks.specs.Walk.{unstarted}
use Rattle.ranks.proofs.Marks.{unstarted-le-length, getD-zeros}
use Rattle.rules.specs.Lawful.{max_entries}
use Rattle.walk.specs.declared.Stop.{Stop}
use Rattle.walk.specs.Marks.{finished, Ready, RankKept, Kept}
use Rattle.walk.proofs.Laws.Marks.{unstarted-begun, unstarted-finished}

-- an entry that is finished already
pub kept-ranked : (ms : List ℕ) (e d : ℕ) → Ready ms d d → max_entries < get_or ms e 0 → RankKept ms ms d (get_or ms e 0 - finished + (d + 1))
kept-ranked ms e d h big = record {
  fewer = omega arith;
  ready = record { few = h.few; room = omega (arith, h.low e big); low = h.low };
  same = λ x some. refl;
  begun = λ x some few. refl;
}

-- an entry that is not started, met at depth d
pub record Fresh (ms : List ℕ) (d e : ℕ) : Type 0 where
  pub lt : e < length ms
  pub new : get_or ms e 0 ≡ 0
  pub ready : Ready ms d d

-- it is begun
module _ {ms : List ℕ} {d e : ℕ} (h : Fresh ms d e) where
  pub fresh-fewer : unstarted (set ms e (d + 1)) + 1 ≡ unstarted ms
  fresh-fewer = unstarted-begun ms e d h.lt h.new

  pub depth-few : d + 1 ≤ max_entries
  depth-few = omega (arith, h.ready.room, h.ready.few, fresh-fewer)

  pub ready-begun : Ready (set ms e (d + 1)) (d + 1) (d + 1)
  ready-begun = record {
    few = simp length-set h.ready.few;
    room = simp length-set (omega (arith, h.ready.room, fresh-fewer));
    low = λ x. low x
        (ℕ_discrete x e);
  }
    where
      low : (x : ℕ) → Dec (x ≡ e) → max_entries < get_or (set ms e (d + 1)) x 0
          → get_or (set ms e (d + 1)) x 0 + (d + 1) + unstarted (set ms e (d + 1)) < length (set ms e (d + 1)) + finished
      low x (yes q) big =
          let v : get_or (set ms e (d + 1)) x 0 ≡ d + 1 = rw q (get_or-set_same ms e (d + 1) 0 h.lt) in
          absurd (omega (arith, depth-few))
      low x (no n) big =
          let v : get_or (set ms e (d + 1)) x 0 ≡ get_or ms x 0 = get_or-set_other ms e x (d + 1) 0 n in
          let old = h.ready.low x (rw v at big) in
          rw v (simp length-set (omega (arith, fresh-fewer)))

  -- and finished, after its references
  module _ {l : List ℕ} (k : ℕ) (len : length l ≡ length ms) (walked : RankKept (set ms e (d + 1)) l (d + 1) (k + (d + 1))) where
    stored : unstarted (set l e (k + finished)) ≤ unstarted l
    stored = unstarted-finished l e k (omega (arith, h.lt))

    pub kept-finished : RankKept ms (set l e (k + finished)) d (k + (d + 1))
    kept-finished = record {
      fewer = omega (arith, fresh-fewer, stored, walked.fewer);
      ready = record {
        few = simp length-set walked.ready.few;
        room = simp length-set (omega (arith, walked.ready.room, stored));
        low = λ x. low x (ℕ_discrete x e);
      };
      same = λ x some. same x some (ℕ_discrete x e);
      begun = λ x some few. begun x some few (ℕ_discrete x e);
    }
      where
        at-e : get_or (set l e (k + finished)) e 0 ≡ k + finished
        at-e = get_or-set_same l e (k + finished) 0 (omega (arith, h.lt))

        low : (x : ℕ) → Dec (x ≡ e) → max_entries < get_or (set l e (k + finished)) x 0
            → get_or (set l e (k + finished)) x 0 + d + unstarted (set l e (k + finished)) < length (set l e (k + finished)) + finished
        low x (yes q) big = rw (q, at-e) (simp length-set (omega (arith, walked.ready.room, stored)))
        low x (no n) big =
            let v : get_or (set l e (k + finished)) x 0 ≡ get_or l x 0 = get_or-set_other l e x (k + finished) 0 n in
            let old = walked.ready.low x (rw v at big) in
            rw v (simp length-set (omega (arith, stored)))

        same : (x : ℕ) → 0 < get_or ms x 0 → Dec (x ≡ e) → get_or (set l e (k + finished)) x 0 ≡ get_or ms x 0
        same x some (yes q) = let z = rw q at some in absurd (omega (arith, h.new))
        same x some (no n) =
            let v : get_or (set ms e (d + 1)) x 0 ≡ get_or ms x 0 = get_or-set_other ms e x (d + 1) 0 n in
            get_or-set_other l e x (k + finished) 0 n ∙ walked.same x (rw v some) ∙ v

        begun : (x : ℕ) → 0 < get_or (set l e (k + finished)) x 0 → get_or (set l e (k + finished)) x 0 ≤ max_entries → Dec (x ≡ e)
            → get_or (set l e (k + finished)) x 0 ≡ get_or ms x 0
        begun x some few (yes q) = let z = rw (q, at-e) at few in absurd (omega arith)
        begun x some few (no n) =
            let v : get_or (set l e (k + finished)) x 0 ≡ get_or l x 0 = get_or-set_other l e x (k + finished) 0 n in
            v ∙ walked.begun x (rw v at some) (rw v at few) ∙ get_or-set_other ms e x (d + 1) 0 n

pub RankKept-trans : {a b c : List ℕ} {d n m : ℕ} → RankKept a b d n → RankKept b c d m → RankKept a c d m
RankKept-trans p q = record {
  fewer = omega (arith, p.fewer, q.fewer);
  ready = q.ready;
  same = λ x some. let s = p.same x some in q.same x (rw s some) ∙ s;
  begun = λ x some few. let s = q.begun x some few in s ∙ p.begun x (rw s at some) (rw s at few);
}

-- the same where more is known of what it may go on with
pub RankKept-next : {a b c : List ℕ} {d n m k : ℕ} → RankKept a b d n → RankKept b c d m → Ready c d k → RankKept a c d k
RankKept-next p q r =
    let t = RankKept-trans p q in
    record { fewer = t.fewer; ready = r; same = t.same; begun = t.begun }

-- no reference is left
pub kept-none : (ms : List ℕ) (d c : ℕ) → Ready ms d c → RankKept ms ms d c
kept-none ms d c h = record { fewer = omega arith; ready = h; same = λ x some. refl; begun = λ x some few. refl }

-- one reference is done, the next is to do
pub ready-next : (ms l : List ℕ) (d best k next : ℕ) → Ready ms d (best + d) → length l ≡ length ms → next ≡ max best (k + 1)
    → RankKept ms l d (k + (d + 1)) → Ready l d (next + d)
ready-next ms l d best k next h len q w =
    record { few = w.ready.few; room = omega (arith, h.room, w.fewer, w.ready.room); low = w.ready.low }

pub ready-enter : {ms : List ℕ} {d : ℕ} (best : ℕ) → Ready ms d (best + d) → Ready ms d d
ready-enter best h = record { few = h.few; room = omega (arith, h.room); low = h.low }

pub ready-first : (n : ℕ) (ms : List ℕ) → ms ≡ replicate n 0 → n ≤ max_entries → Ready ms 0 0
ready-first n ms q h =
    let len : length ms ≡ n = rw q (length-replicate n 0) in
    record {
      few = omega arith;
      room = omega (arith, unstarted-le-length ms);
      low = λ x big. let z : get_or ms x 0 ≡ 0 = rw q
          (getD-zeros n x) in absurd (omega arith);
    }

-- by the answer
pub kept-stored : (a : Result Rank Stop) (ms l after : List ℕ) (e d k : ℕ) → RankKept ms (set l e (k + finished)) d (k + (d + 1))
    → ((r : Rank) → a ≡ Ok r → (r.0 ≡ k) × (after ≡ set l e (k + finished))) → Kept a ms after d (d + 1)
kept-stored (Ok r) ms l after e d k h s = let q = s r refl in rw (q.0, q.1) h
kept-stored (Err stop) ms l after e d k h s = tt

pub ready-again : (k : ℕ) {before after : List ℕ} → RankKept before after 0 (k + 1) → Ready after 0 0
ready-again k h = record { few = h.ready.few; room = omega (arith, h.ready.room); low = h.ready.low }
