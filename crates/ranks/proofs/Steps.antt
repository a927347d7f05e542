-- The one induction over the walk. A `Method` says what holds of the marks before an entry is met (Pre), between its references
-- (Mid), and where it is finished (Post), what every refusal comes with (Stop), and why each step keeps that. Then it holds of
-- `entry` with any sufficient fuel, and of the whole pass. No other proof looks at fuel or at the shape of the definitions.
-- Assumes nothing.
use mathlib.Core.Path.{◌≡◌, refl}
use mathlib.Core.Bool.{Bool, true, false, cond}
use mathlib.Core.List.{List, [], ◌∷◌, ◌++◌}
use Prim.Native.Nat.{ℕ, zero, suc, ◌+◌, ◌≤◌, ◌<◌, max}
use native.Mathlib.Omega.{arith}
use lib.Dec.{ltb}
use lib.ListN.{length, get_or, set, replicate}
use borrow.Author.Tests.{ltb-true, ltb-false}
use Rattle.ranks.specs.Table.{Verdict, kept, broken, Table, out_of_range}
use Rattle.ranks.specs.Walk.{Answer, Rank, Ring, Bad, Out, out, on_rank, and_then, by_mark, judged, finish, from, stretch, entry}
use Rattle.ranks.specs.Walk.{upward, resolve, unstarted}
use Rattle.ranks.proofs.Marks.{unstarted-begin, unstarted-le-length}

-- the answer is a rank of which G holds, or a refusal of which S holds
abbrev pub Holds : (Answer → Type 0) → (ℕ → Type 0) → Answer → Type 0
Holds S G (Rank k) = G k
Holds S G (Ring xs) = S (Ring xs)
Holds S G (Bad n e r) = S (Bad n e r)

abbrev pub Answered : (Answer → Type 0) → (List ℕ → ℕ → Type 0) → Out → Type 0
Answered S G o = Holds S (G o.marks) o.answer

pub answered-then : (S : Answer → Type 0) (G H : List ℕ → ℕ → Type 0) (o : Out) (next : List ℕ → ℕ → Out)
    → Answered S G o → ((l : List ℕ) (k : ℕ) → G l k → Answered S H (next l k)) → Answered S H (and_then o next)
answered-then S G H o next h f = go o.marks o.answer h
  where
    go : (l : List ℕ) (a : Answer) → Holds S (G l) a → Answered S H (on_rank a (out l a) (next l))
    go l (Rank k) h = f l k h
    go l (Ring xs) h = h
    go l (Bad n e r) h = h

pub answered-map : (S : Answer → Type 0) (G H : List ℕ → ℕ → Type 0) (o : Out) → ((l : List ℕ) (k : ℕ) → G l k → H l k) → Answered S G o
    → Answered S H o
answered-map S G H o f h = go o.marks o.answer h
  where
    go : (l : List ℕ) (a : Answer) → Holds S (G l) a → Holds S (H l) a
    go l (Rank k) h = f l k h
    go l (Ring xs) h = h
    go l (Bad n e r) h = h

-- the references of an entry as a loop: M rs l best holds where rs are left
pub record Loop (t : Table) (S : Answer → Type 0) (g : List ℕ → ℕ → Out) (e : ℕ) (M : List ℕ → List ℕ → ℕ → Type 0) : Type 0 where
  pub range : {r : ℕ} {rs l : List ℕ} {best : ℕ} → M (r ∷ rs) l best → t.count ≤ r → S (Bad out_of_range e r)
  pub past : {r : ℕ} {rs l : List ℕ} {best : ℕ} → M (r ∷ rs) l best → r < t.count → t.counts e r ≡ false → M rs l best
  pub walk : {r : ℕ} {rs l : List ℕ} {best : ℕ} → M (r ∷ rs) l best → r < t.count → t.counts e r ≡ true
      → Answered S (λ l' k. M rs l' (max best (k + 1))) (g l r)

module _ (t : Table) (S : Answer → Type 0) (g : List ℕ → ℕ → Out) (e : ℕ) (M : List ℕ → List ℕ → ℕ → Type 0) (loop : Loop t S g e M) where
  pub stretch-holds : (rs l : List ℕ) (best : ℕ) → M rs l best → Answered S (M []) (stretch t g e l best rs)
  unfolding stretch
  stretch-holds [] l best h = h
  stretch-holds (r ∷ rs) l best h = go (λ l b. stretch-holds rs l b) (ltb r t.count) refl (t.counts e r) refl
    where
      go : ((l : List ℕ) (b : ℕ) → M rs l b → Answered S (M []) (stretch t g e l b rs)) → (b : Bool) → ltb r t.count ≡ b → (c : Bool)
          → t.counts e r ≡ c
          → Answered S (M []) (cond b (cond c (and_then (g l r) (λ l k. stretch t g e l (max best (k + 1)) rs)) (stretch t g e l best rs))
          (out l (Bad out_of_range e r)))
      go rest true q true c =
          answered-then S (λ l' k. M rs l' (max best (k + 1))) (M []) (g l r) (λ l k. stretch t g e l (max best (k + 1)) rs)
          (loop.walk h (ltb-true r t.count q) c) (λ l' k a. rest l' (max best (k + 1)) a)
      go rest true q false c = rest l best (loop.past h (ltb-true r t.count q) c)
      go rest false q c d = loop.range h (ltb-false r t.count q)

module _ (t : Table) (S : Answer → Type 0) (Pre : List ℕ → List ℕ → ℕ → Type 0)
    (Mid : List ℕ → List ℕ → ℕ → List ℕ → List ℕ → ℕ → Type 0) (Post : List ℕ → List ℕ → ℕ → List ℕ → ℕ → Type 0) where
  -- Pre p ms e: e is met below the path p. Mid p ms e rs l best: of its references rs are left, and the marks are l.
  -- Post p ms e l k: e has the rank k, and the marks are l
  pub record Method : Type 0 where
    pub fits : {p ms : List ℕ} {e : ℕ} → Pre p ms e → e < length ms
    pub done : {p ms : List ℕ} {e k : ℕ} → Pre p ms e → get_or ms e 0 ≡ k + 2 → Post p ms e ms k
    pub ring : {p ms : List ℕ} {e : ℕ} → Pre p ms e → get_or ms e 0 ≡ 1 → S (Ring (from e p))
    pub begin : {p ms : List ℕ} {e : ℕ} → Pre p ms e → get_or ms e 0 ≡ 0 → Mid p ms e (t.refs e) (set ms e 1) 0
    pub fewer : {p ms : List ℕ} {e : ℕ} {rs l : List ℕ} {best : ℕ} → Mid p ms e rs l best → unstarted l ≤ unstarted (set ms e 1)
    pub range : {p ms : List ℕ} {e r : ℕ} {rs l : List ℕ} {best : ℕ} → Mid p ms e (r ∷ rs) l best → t.count ≤ r → S (Bad out_of_range e r)
    pub past : {p ms : List ℕ} {e r : ℕ} {rs l : List ℕ} {best : ℕ} → Mid p ms e (r ∷ rs) l best → r < t.count → t.counts e r ≡ false
        → Mid p ms e rs l best
    pub down : {p ms : List ℕ} {e r : ℕ} {rs l : List ℕ} {best : ℕ} → Mid p ms e (r ∷ rs) l best → r < t.count → t.counts e r ≡ true
        → Pre (p ++ e ∷ []) l r
    pub up : {p ms : List ℕ} {e r : ℕ} {rs l : List ℕ} {best : ℕ} {l' : List ℕ} {k : ℕ} → Mid p ms e (r ∷ rs) l best → r < t.count
        → t.counts e r ≡ true
        → Post (p ++ e ∷ []) l r l' k → Mid p ms e rs l' (max best (k + 1))
    pub finishes : {p ms : List ℕ} {e : ℕ} {l : List ℕ} {k : ℕ} → Mid p ms e [] l k → t.rule e ≡ kept → Post p ms e (set l e (k + 2)) k
    pub breaks : {p ms : List ℕ} {e : ℕ} {l : List ℕ} {k n r : ℕ} → Mid p ms e [] l k → t.rule e ≡ broken n r → S (Bad n e r)

  -- Inv i ms: the entries below i are resolved
  pub record Onward (Inv : ℕ → List ℕ → Type 0) : Type 0 where
    pub first : Inv 0 (replicate t.count 0)
    pub sized : {i : ℕ} {ms : List ℕ} → Inv i ms → length ms ≡ t.count
    pub next : {i : ℕ} {ms : List ℕ} → Inv i ms → i < t.count → Pre [] ms i
    pub onward : {i : ℕ} {ms l : List ℕ} {k : ℕ} → Inv i ms → Post [] ms i l k → Inv (suc i) l

  module _ (m : Method) where
    abbrev Sound : List ℕ → ℕ → (List ℕ → ℕ → Out) → Type 0
    Sound p f g = (ms : List ℕ) (e : ℕ) → Pre p ms e → unstarted ms ≤ f → Answered S (Post p ms e) (g ms e)

    loop : (p ms : List ℕ) (e f : ℕ) (g : List ℕ → ℕ → Out) → Sound (p ++ e ∷ []) f g → unstarted (set ms e 1) ≤ f
        → Loop t S g e (Mid p ms e)
    loop p ms e f g sound enough = record { range = m.range; past = m.past; walk = walk }
      where
        walk : {r : ℕ} {rs l : List ℕ} {best : ℕ} → Mid p ms e (r ∷ rs) l best → r < t.count → t.counts e r ≡ true
            → Answered S (λ l' k. Mid p ms e rs l' (max best (k + 1))) (g l r)
        walk {r} {rs} {l} {best} h lt c =
            answered-map S (Post (p ++ e ∷ []) l r) (λ l' k. Mid p ms e rs l' (max best (k + 1))) (g l r)
            (λ l' k a. m.up h lt c a) (sound l r (m.down h lt c) (omega (arith, m.fewer h)))

    met : (p ms : List ℕ) (e : ℕ) → Pre p ms e → (start : Out) → (get_or ms e 0 ≡ 0 → Answered S (Post p ms e) start)
        → (k : ℕ) → get_or ms e 0 ≡ k → Answered S (Post p ms e) (by_mark k start (out ms (Ring (from e p))) (λ k. out ms (Rank k)))
    met p ms e h start new zero q = new q
    met p ms e h start new (suc zero) q = m.ring h q
    met p ms e h start new (suc (suc k)) q = let two : get_or ms e 0 ≡ k + 2 = omega arith in m.done h two

    judged-holds : (p ms : List ℕ) (e : ℕ) (l : List ℕ) (k : ℕ) → Mid p ms e [] l k → (v : Verdict) → t.rule e ≡ v
        → Answered S (Post p ms e) (judged v e l k)
    judged-holds p ms e l k h kept q = m.finishes h q
    judged-holds p ms e l k h (broken n r) q = m.breaks h q

    pub entry-holds : (f : ℕ) (p : List ℕ) → Sound p f (entry f t p)
    unfolding entry
    entry-holds zero p ms e h le = met p ms e h (out ms (Rank 0)) (λ new. absurd (none new)) (get_or ms e 0) refl
      where
        none : get_or ms e 0 ≡ 0 → ⊥
        none new = omega (arith, unstarted-begin ms e (m.fits h) new)
    entry-holds (suc f) p ms e h le = met p ms e h start (λ new. started new (entry-holds f (p ++ e ∷ []))) (get_or ms e 0) refl
      where
        start : Out
        start = and_then (stretch t (entry f t (p ++ e ∷ [])) e (set ms e 1) 0 (t.refs e)) (finish t e)

        started : get_or ms e 0 ≡ 0 → Sound (p ++ e ∷ []) f (entry f t (p ++ e ∷ [])) → Answered S (Post p ms e) start
        started new below =
            answered-then S (Mid p ms e []) (Post p ms e) (stretch t (entry f t (p ++ e ∷ [])) e (set ms e 1) 0 (t.refs e)) (finish t e)
            (stretch-holds t S (entry f t (p ++ e ∷ [])) e (Mid p ms e)
            (loop p ms e f (entry f t (p ++ e ∷ [])) below (omega (arith, unstarted-begin ms e (m.fits h) new)))
            (t.refs e) (set ms e 1) 0 (m.begin h new))
            (λ l k w. judged-holds p ms e l k w (t.rule e) refl)

    module _ (Inv : ℕ → List ℕ → Type 0) (o : Onward Inv) where
      upward-holds : (left i : ℕ) (ms : List ℕ) → i + left ≡ t.count → Inv i ms → Answered S (λ l k. Inv t.count l)
          (upward t.count t ms i left)
      unfolding upward
      upward-holds zero i ms q h = let e : i ≡ t.count = omega arith in rw (← e) h
      upward-holds (suc left) i ms q h =
          answered-then S (Post [] ms i) (λ l k. Inv t.count l) (entry t.count t [] ms i) (λ l k. upward t.count t l (suc i) left)
          (entry-holds t.count [] ms i (o.next h (omega arith)) (omega (arith, o.sized h, unstarted-le-length ms)))
          (λ l k a. upward-holds left (suc i) l (omega arith) (o.onward h a))

      pub resolve-holds : Answered S (λ l k. Inv t.count l) (resolve t)
      unfolding resolve
      resolve-holds = upward-holds t.count 0 (replicate t.count 0) (omega arith) o.first
