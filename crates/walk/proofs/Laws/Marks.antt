-- Laws of the marks (specs/Marks.antt): how a store reads in the words of ranks/specs/Walk, and what it does to the path.
-- Assumes nothing.
use mathlib.Core.Path.{◌≡◌, refl, sym, ap, ◌∙◌}
use mathlib.Core.List.{List, [], ◌∷◌, ◌++◌}
use Prim.Native.Nat.{ℕ, zero, suc, ◌+◌, ◌-◌, ◌≤◌, ◌<◌}
use native.Mathlib.Omega.{arith}
use native.Mathlib.Decide.{ℕ_discrete}
use lib.ListN.{length, get_or, set, drop, replicate, length-append, get_or-append, get_or-map}
use lib.Seq.{get_or-set_same, get_or-set_other, get_or_at}
use borrow.Author.Tests.{eq-eqb, ne_eqb, le-leb, lt-leb}
use Rattle.ranks.specs.Walk.{unstarted, from}
use Rattle.ranks.proofs.Marks.{unstarted-set}
use Rattle.rules.specs.Lawful.{max_entries}
use Rattle.walk.specs.Marks.{finished, plain, plainly, Path, RankKept}

pub plain-begun : (m : ℕ) → (m ≡ 0 → ⊥) → m ≤ max_entries → plain m ≡ 1
unfolding plain
plain-begun m n h = rw (ne_eqb m 0 n, le-leb m max_entries h)

pub plain-ranked : (m : ℕ) → max_entries < m → plain m ≡ m - finished + 2
unfolding plain
plain-ranked m h = let n : m ≡ 0 → ⊥ = λ q. omega arith in rw (ne_eqb m 0 n, lt-leb m max_entries h)

pub plain-finished : (k : ℕ) → plain (k + finished) ≡ k + 2
plain-finished k = let e : k + finished - finished ≡ k = omega arith in plain-ranked (k + finished) (omega arith) ∙ rw e

pub getD-plainly : (ms : List ℕ) (e : ℕ) → get_or (plainly ms) e 0 ≡ plain (get_or ms e 0)
unfolding plain
getD-plainly ms e = get_or-map plain ms e 0

pub set-plainly : (ms : List ℕ) (e v w : ℕ) → plain v ≡ w → plainly (set ms e v) ≡ set (plainly ms) e w
set-plainly [] e v w h = refl
set-plainly (m ∷ ms) zero v w h = rw h
set-plainly (m ∷ ms) (suc e) v w h = ap (λ (l : List ℕ). plain m ∷ l) (set-plainly ms e v w h)

pub plain-new : plain 0 ≡ 0
unfolding plain
plain-new = refl

pub unstarted-begun : (ms : List ℕ) (e d : ℕ) → e < length ms → get_or ms e 0 ≡ 0 → unstarted (set ms e (d + 1)) + 1 ≡ unstarted ms
unstarted-begun ms e d lt new =
    let s : d + 1 ≡ suc d = omega arith in
    let w = rw new at (unstarted-set ms e (suc d) lt) in
    rw s (omega arith)

pub unstarted-finished : (l : List ℕ) (e k : ℕ) → e < length l → unstarted (set l e (k + finished)) ≤ unstarted l
unstarted-finished l e k lt =
    let s : k + finished ≡ suc (k + max_entries) = omega arith in
    let w = unstarted-set l e (suc (k + max_entries)) lt in
    rw s (omega arith)

-- the entry at place i of a path, and at none before, is where the ring starts
from_at : (e : ℕ) (p : List ℕ) (i : ℕ) → i < length p → get_or p i 0 ≡ e → ((j : ℕ) → j < i → get_or p j 0 ≡ e → ⊥) → from e p ≡ drop i p
from_at e [] i lt h n = absurd (omega arith)
from_at e (x ∷ xs) zero lt h n = rw (eq-eqb x e h)
from_at e (x ∷ xs) (suc i) lt h n =
    rw (ne_eqb x e (n 0 (omega arith))) (from_at e xs i (omega arith) h (λ j less. n (suc j) (omega arith)))

module _ (p ms : List ℕ) (h : Path p ms) (e : ℕ) (some : 0 < get_or ms e 0) (begun : get_or ms e 0 ≤ max_entries) where
  pub from-path : from e p ≡ drop (get_or ms e 0 - 1) p
  from-path =
      let w = h.placed e some begun in
      from_at e p (get_or ms e 0 - 1) (omega (arith, w.0)) w.1 (λ j less q. other j less q)
    where
      other : (j : ℕ) → j < get_or ms e 0 - 1 → get_or p j 0 ≡ e → ⊥
      other j less q =
          let w = h.placed e some begun in
          let v = rw q at (h.marked j (omega (arith, w.0))) in
          omega arith

pub Path-none : (n : ℕ) (ms : List ℕ) → ms ≡ replicate n 0 → Path [] ms
Path-none n ms q = record { marked = λ i lt. absurd (omega arith); placed = λ x some few. absurd (none x some) }
  where
    zero-at : (n x : ℕ) → get_or {A = ℕ} (replicate n 0) x 0 ≡ 0
    zero-at zero x = refl
    zero-at (suc n) zero = refl
    zero-at (suc n) (suc x) = zero-at n x

    none : (x : ℕ) → 0 < get_or ms x 0 → ⊥
    none x some = let z : get_or ms x 0 ≡ 0 = rw q (zero-at n x) in omega arith

pub Path-kept : (p before after : List ℕ) (d c : ℕ) → RankKept before after d c → Path p before → Path p after
Path-kept p before after d c k h = record {
  marked = λ i lt. let m = h.marked i lt in k.same (get_or p i 0) (omega arith) ∙ m;
  placed = λ x some few. let q = k.begun x some few in rw q (h.placed x (rw q at some) (rw q at few));
}

module _ (p ms : List ℕ) (e : ℕ) (h : Path p ms) (lt : e < length ms) (new : get_or ms e 0 ≡ 0) where
  longer : length (p ++ e ∷ []) ≡ length p + 1
  longer = length-append p (e ∷ [])

  pub Path-begun : (d : ℕ) → length p ≡ d → Path (p ++ e ∷ []) (set ms e (d + 1))
  Path-begun d size = record {
    marked = λ i less. marked i (omega (arith, longer)) (ℕ_discrete i d);
    placed = λ x some few. placed x some
        few (ℕ_discrete x e);
  }
    where
      marked : (i : ℕ) → i < d + 1 → Dec (i ≡ d) → get_or (set ms e (d + 1)) (get_or (p ++ e ∷ []) i 0) 0 ≡ i + 1
      marked i less (yes q) = rw (q, get_or_at p e [] 0 d size) (get_or-set_same ms e (d + 1) 0 lt)
      marked i less (no n) =
          let in_p : i < length p = omega arith in
          let m = h.marked i in_p in
          let apart : get_or p i 0 ≡ e → ⊥ = λ q. let z = rw q at m in omega arith in
          rw (get_or-append p (e ∷ []) 0 i in_p, get_or-set_other ms e (get_or p i 0) (d + 1) 0 apart) m

      placed : (x : ℕ) → 0 < get_or (set ms e (d + 1)) x 0 → get_or (set ms e (d + 1)) x 0 ≤ max_entries → Dec (x ≡ e)
          → (get_or (set ms e (d + 1)) x 0 ≤ length (p ++ e ∷ [])) × (get_or (p ++ e ∷ []) (get_or (set ms e (d + 1)) x 0 - 1) 0 ≡ x)
      placed x some few (yes q) =
          let v : get_or (set ms e (d + 1)) x 0 ≡ d + 1 = rw q (get_or-set_same ms e (d + 1) 0 lt) in
          let i : d + 1 - 1 ≡ d = omega arith in
          (omega (arith, longer), rw (v, i) (get_or_at p e [] 0 d size ∙ sym q))
      placed x some few (no n) =
          let v : get_or (set ms e (d + 1)) x 0 ≡ get_or ms x 0 = get_or-set_other ms e x (d + 1) 0 n in
          let w = h.placed x (rw v at some) (rw v at few) in
          let in_p : get_or ms x 0 - 1 < length p = omega (arith, w.0, rw v at some) in
          (omega (arith, longer, w.0), rw (v, get_or-append p (e ∷ []) 0 (get_or ms x 0 - 1) in_p) w.1)

pub plainly-zeros : (n : ℕ) → plainly (replicate n 0) ≡ replicate n 0
plainly-zeros zero = refl
plainly-zeros (suc n) = rw (plain-new, plainly-zeros n)
