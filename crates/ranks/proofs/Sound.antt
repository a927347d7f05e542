-- Every answer of the walk is deserved: the invariant of State is kept by each step, a ring is one, and a fault is one and the
-- first that the order comes to, since the references before it are finished and so sound.
-- Assumes nothing.
use mathlib.Core.Path.{◌≡◌, refl, sym, ◌∙◌}
use mathlib.Core.Logic.{inl, inr}
use mathlib.Core.Bool.{true, false}
use mathlib.Core.List.Memᴰ
use mathlib.Core.List.{List, [], ◌∷◌, ◌++◌, append-nil, append_assoc, Memᴰ}
use Prim.Native.Nat.{ℕ, suc, ◌+◌, ◌-◌, ◌≤◌, ◌<◌, max}
use native.Mathlib.Omega.{arith}
use native.Mathlib.Decide.{ℕ_discrete}
use lib.ListN.{length, get_or, set, replicate, length-replicate}
use lib.Seq.{get_or-set_same}
use Rattle.ranks.specs.Table.{kept, broken, Table, Each, IsRing, Fault, height, out_of_range, Done, Comes, upward, inward, First}
use Rattle.ranks.specs.Table.{range, rule}
use Rattle.ranks.specs.Walk.{Answer, Rank, Ring, Bad, from, resolve, unstarted, rank_in}
use Rattle.ranks.proofs.Paths.{each-of-mem, each_snoc, Led, Led-snoc, ring-of-path}
use Rattle.ranks.proofs.Marks.{lt-of-marked, Keeps, Keeps-refl, Keeps-trans, Keeps-set, unstarted-begin, unstarted-finish}
use Rattle.ranks.proofs.Marks.{getD-zeros}
use Rattle.ranks.proofs.State.{Settled, State, sound-of-finished, off-path, State-begin, mark-begun, Keeps-finish, State-finish}
use Rattle.ranks.proofs.Steps.{Answered, Method, resolve-holds}

-- what a refusal comes with
abbrev pub Stops : Table → Answer → Type 0
Stops t (Rank k) = ⊥
Stops t (Ring ring) = IsRing t ring
Stops t (Bad n e r) = Fault t n e r × First t n e r

module _ (t : Table) where
  record Met (p ms : List ℕ) (e : ℕ) : Type 0 where
    state : State t p ms
    inside : e < t.count
    led : Led t p e
    comes : Comes t e

  record Arrived (p ms : List ℕ) (e : ℕ) (l : List ℕ) (k : ℕ) : Type 0 where
    state : State t p l
    keeps : Keeps ms l
    fewer : unstarted l ≤ unstarted ms
    mark : get_or l e 0 ≡ k + 2

  -- whatever marks follow, the references left decide what all of them give
  record Midway (p ms : List ℕ) (e : ℕ) (rs l : List ℕ) (best : ℕ) : Type 0 where
    met : Met p ms e
    new : get_or ms e 0 ≡ 0
    state : State t (p ++ e ∷ []) l
    keeps : Keeps (set ms e 1) l
    fewer : unstarted l ≤ unstarted (set ms e 1)
    before : List ℕ
    parts : t.refs e ≡ before ++ rs
    passed : Each (Done t e) before
    settled : (l' : List ℕ) → Keeps l l' → Each (Settled t l' e) rs → Each (Settled t l' e) (t.refs e)
    exact : (l' : List ℕ) → Keeps l l' → height (rank_in l') (t.counts e) best rs ≡ height (rank_in l') (t.counts e) 0 (t.refs e)

  met-fits : {p ms : List ℕ} {e : ℕ} → Met p ms e → e < length ms
  met-fits h = rw h.state.sized h.inside

  met-done : {p ms : List ℕ} {e k : ℕ} → Met p ms e → get_or ms e 0 ≡ k + 2 → Arrived p ms e ms k
  met-done h q = record { state = h.state; keeps = Keeps-refl; fewer = omega arith; mark = q }

  met-ring : {p ms : List ℕ} {e : ℕ} → Met p ms e → get_or ms e 0 ≡ 1 → IsRing t (from e p)
  met-ring {p} {ms} {e} h q =
      ring-of-path t e p (h.state.begun e q) h.led h.state.apart
      (each-of-mem (λ x. x < t.count) p (λ x m. let one = h.state.passed x m in rw (← h.state.sized)
      (lt-of-marked ms x (omega arith))))

  met-begin : {p ms : List ℕ} {e : ℕ} → Met p ms e → get_or ms e 0 ≡ 0 → Midway p ms e (t.refs e) (set ms e 1) 0
  met-begin {p} {ms} {e} h q = record {
    met = h;
    new = q;
    state = State-begin t p ms h.state e h.inside q;
    keeps = Keeps-refl;
    fewer = omega arith;
    before = [];
    parts = refl;
    passed = tt;
    settled = λ l' k s. s;
    exact = λ l' k. refl;
  }

  mid-listed : {p ms : List ℕ} {e r : ℕ} {rs l : List ℕ} {best : ℕ} → Midway p ms e (r ∷ rs) l best → Memᴰ r (t.refs e)
  mid-listed h = rw h.parts (Memᴰ.append_right h.before (Memᴰ.head refl))

  mid-parts : {p ms : List ℕ} {e r : ℕ} {rs l : List ℕ} {best : ℕ} (h : Midway p ms e (r ∷ rs) l best)
      → t.refs e ≡ (h.before ++ r ∷ []) ++ rs
  mid-parts {r} {rs} h = h.parts ∙ sym (append_assoc h.before (r ∷ []) rs)

  mid-past : {p ms : List ℕ} {e r : ℕ} {rs l : List ℕ} {best : ℕ} → Midway p ms e (r ∷ rs) l best → r < t.count → t.counts e r ≡ false
      → Midway p ms e rs l best
  mid-past {e} {r} h lt c = record {
    met = h.met;
    new = h.new;
    state = h.state;
    keeps = h.keeps;
    fewer = h.fewer;
    before = h.before ++ r ∷ [];
    parts = mid-parts h;
    passed = each_snoc (Done t e) h.before h.passed (record { inside = lt; resolved = λ d. absurd (never d) });
    settled = λ l' k s. h.settled l' k (record { inside = lt; done = λ d. absurd (never d) }, s);
    exact = λ l' k. rw c at (h.exact l' k);
  }
    where
      never : t.counts e r ≡ true → ⊥
      never d = let z : ◌≡◌ {A = ℕ} 0 1 = cc in omega arith

  mid-down : {p ms : List ℕ} {e r : ℕ} {rs l : List ℕ} {best : ℕ} → Midway p ms e (r ∷ rs) l best → r < t.count → t.counts e r ≡ true
      → Met (p ++ e ∷ []) l r
  mid-down {p} {rs} h lt c = record {
    state = h.state;
    inside = lt;
    led = Led-snoc p h.met.led (record { listed = mid-listed h; counted = c });
    comes = inward h.before rs h.met.comes h.parts h.passed lt c;
  }

  mid-up : {p ms : List ℕ} {e r : ℕ} {rs l : List ℕ} {best : ℕ} {l' : List ℕ} {k : ℕ} → Midway p ms e (r ∷ rs) l best → r < t.count
      → t.counts e r ≡ true
      → Arrived (p ++ e ∷ []) l r l' k → Midway p ms e rs l' (max best (k + 1))
  mid-up {p} {e} {r} {rs} {best} {l'} {k} h lt c a = record {
    met = h.met;
    new = h.new;
    state = a.state;
    keeps = Keeps-trans h.keeps a.keeps;
    fewer = omega (arith, a.fewer, h.fewer);
    before = h.before ++ r ∷ [];
    parts = mid-parts h;
    passed = each_snoc (Done t e) h.before h.passed
        (record { inside = lt; resolved = λ d. sound-of-finished t (p ++ e ∷ []) l' a.state r (omega (arith, a.mark)) });
    settled = λ l'' q s. h.settled l'' (Keeps-trans a.keeps q) (record { inside = lt; done = λ d. omega (arith, mark l'' q) }, s);
    exact = λ l'' q. rw (c, mark l'' q, cut) at (h.exact l'' (Keeps-trans a.keeps q));
  }
    where
      cut : k + 2 - 2 ≡ k
      cut = omega arith

      mark : (l'' : List ℕ) → Keeps l' l'' → get_or l'' r 0 ≡ k + 2
      mark l'' q = q.same r (omega (arith, a.mark)) ∙ a.mark

  mid-finish : {p ms : List ℕ} {e : ℕ} {l : List ℕ} {k : ℕ} → Midway p ms e [] l k → t.rule e ≡ kept → Arrived p ms e (set l e (k + 2)) k
  mid-finish {p} {ms} {e} {l} {k} h fine =
      let s = h.met.state in
      let off = off-path t p ms s e h.met.inside h.new in
      let one = mark-begun t p l e k h.state s.apart off in
      let lt : e < length l = lt-of-marked l e (omega arith) in
      let start = unstarted-begin ms e (met-fits h.met) h.new in
      record {
        state = State-finish t p l e k h.state s.apart off fine (h.settled l Keeps-refl tt) (h.exact l Keeps-refl);
        keeps = Keeps-trans (Keeps-set ms e 1 (omega (arith, h.new)))
            (Keeps-trans h.keeps (Keeps-finish t p l e k h.state s.apart off));
        fewer = omega (arith, start, h.fewer, unstarted-finish l e k lt);
        mark = get_or-set_same l e (k + 2) 0 lt;
      }

  mid-range : {p ms : List ℕ} {e r : ℕ} {rs l : List ℕ} {best : ℕ} → Midway p ms e (r ∷ rs) l best → t.count ≤ r
      → Fault t out_of_range e r × First t out_of_range e r
  mid-range {rs} h past = (
    inl (record { number = refl; entry = h.met.inside; listed = mid-listed h; past = past }),
    range h.before rs h.met.comes h.parts h.passed past,
  )

  mid-breaks : {p ms : List ℕ} {e : ℕ} {l : List ℕ} {k n r : ℕ} → Midway p ms e [] l k → t.rule e ≡ broken n r
      → Fault t n e r × First t n e r
  mid-breaks {e} h q = (inr (record { entry = h.met.inside; breaks = q }), rule h.met.comes all q)
    where
      all : Each (Done t e) (t.refs e)
      all = rw (h.parts, append-nil) h.passed

  mid-fewer : {p ms : List ℕ} {e : ℕ} {rs l : List ℕ} {best : ℕ} → Midway p ms e rs l best → unstarted l ≤ unstarted (set ms e 1)
  mid-fewer h = h.fewer

  method : Method t (Stops t) Met Midway Arrived
  method = record {
    fits = met-fits;
    done = met-done;
    ring = met-ring;
    begin = met-begin;
    fewer = mid-fewer;
    range = mid-range;
    past = mid-past;
    down = mid-down;
    up = mid-up;
    finishes = mid-finish;
    breaks = mid-breaks;
  }

  -- the pass: the entries below i are finished
  pub record Resolved (i : ℕ) (ms : List ℕ) : Type 0 where
    pub state : State t [] ms
    pub done : (x : ℕ) → x < i → 2 ≤ get_or ms x 0

  resolved-first : Resolved 0 (replicate t.count 0)
  resolved-first = record {
    state = record {
      sized = length-replicate t.count 0;
      apart = tt;
      begun = λ x h. absurd (marked x (omega arith));
      passed = λ x m. absurd (Memᴰ.not-nil m);
      closed = λ x h. absurd (marked x (omega arith));
    };
    done = λ x h. absurd (omega arith);
  }
    where
      marked : (x : ℕ) → 0 < get_or (replicate t.count 0) x 0 → ⊥
      marked x h = omega (arith, getD-zeros t.count x)

  resolved-sized : {i : ℕ} {ms : List ℕ} → Resolved i ms → length ms ≡ t.count
  resolved-sized h = h.state.sized

  resolved-next : {i : ℕ} {ms : List ℕ} → Resolved i ms → i < t.count → Met [] ms i
  resolved-next {i} {ms} h lt = record {
    state = h.state;
    inside = lt;
    led = tt;
    comes = upward lt (λ x less. sound-of-finished t [] ms h.state x (h.done x less));
  }

  resolved-onward : {i : ℕ} {ms l : List ℕ} {k : ℕ} → Resolved i ms → Arrived [] ms i l k → Resolved (suc i) l
  resolved-onward {i} {ms} {l} h a = record { state = a.state; done = λ x lt. go x lt (ℕ_discrete x i) }
    where
      go : (x : ℕ) → x < suc i → Dec (x ≡ i) → 2 ≤ get_or l x 0
      go x lt (yes q) = rw q (omega (arith, a.mark))
      go x lt (no n) = let d = h.done x (omega arith) in rw (a.keeps.same x d) d

  pub resolve-answered : Answered (Stops t) (λ l k. Resolved t.count l) (resolve t)
  resolve-answered = resolve-holds t (Stops t) Met Midway Arrived method Resolved
      (record { first = resolved-first; sized = resolved-sized; next = resolved-next; onward = resolved-onward })
