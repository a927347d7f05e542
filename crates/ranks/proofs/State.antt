-- The invariant of the walk. The begun entries are those of the path, all different; every finished entry is lawful, what it
-- refers to is finished, and its rank is their height: so it is sound. To begin an entry and to finish one keep it.
-- Assumes nothing.
use mathlib.Core.Path.{◌≡◌, refl, sym, ◌∙◌}
use mathlib.Core.Logic.{◌⊎◌, inl, inr}
use mathlib.Core.Bool.{true}
use mathlib.Core.List.Memᴰ
use mathlib.Core.List.{List, [], ◌∷◌, ◌++◌, Memᴰ}
use Prim.Native.Nat.{ℕ, zero, suc, ◌+◌, ◌-◌, ◌≤◌, ◌<◌}
use native.Mathlib.Omega.{arith}
use lib.ListN.{length, get_or, set, length-set}
use lib.Seq.{get_or-set_same}
use Rattle.ranks.specs.Table.{kept, Table, Each, Refers, height, Apart, Sound, sound}
use Rattle.ranks.specs.Walk.{rank_in}
use Rattle.ranks.proofs.Paths.{each_at, each_map, Apart-snoc}
use Rattle.ranks.proofs.Marks.{Stored, here, away, stored, lt-of-marked, Keeps, Keeps-set}
use Rattle.ranks.proofs.Heights.{height-above, height-same}

-- a reference r of e is in range and, if it counts, finished
pub record Settled (t : Table) (ms : List ℕ) (e r : ℕ) : Type 0 where
  pub inside : r < t.count
  pub done : t.counts e r ≡ true → 2 ≤ get_or ms r 0

pub record Closed (t : Table) (ms : List ℕ) (e : ℕ) : Type 0 where
  pub fine : t.rule e ≡ kept
  pub settled : Each (Settled t ms e) (t.refs e)
  pub exact : rank_in ms e ≡ height (rank_in ms) (t.counts e) 0 (t.refs e)

pub record State (t : Table) (p ms : List ℕ) : Type 0 where
  pub sized : length ms ≡ t.count
  pub apart : Apart p
  pub begun : (x : ℕ) → get_or ms x 0 ≡ 1 → Memᴰ x p
  pub passed : (x : ℕ) → Memᴰ x p → get_or ms x 0 ≡ 1
  pub closed : (x : ℕ) → 2 ≤ get_or ms x 0 → Closed t ms x

module _ (t : Table) (p ms : List ℕ) (s : State t p ms) where
  sound-below : (n x : ℕ) → 2 ≤ get_or ms x 0 → rank_in ms x < n → Sound t x
  sound-below zero x h lt = absurd (omega arith)
  sound-below (suc n) x h lt =
      let c = s.closed x h in
      sound {e = x} (rw (← s.sized) (lt-of-marked ms x (omega arith)))
      (record { inside = λ r m. (each_at (Settled t ms x) m c.settled).inside; fine = c.fine })
      (λ r k. sound-below n r ((each_at (Settled t ms x) k.listed c.settled).done k.counted) (falls r k))
    where
      falls : (r : ℕ) → Refers t x r → rank_in ms r < n
      falls r k =
          let f = height-above (rank_in ms) (t.counts x) 0 k.listed k.counted in
          let e = (s.closed x h).exact in
          omega arith

  pub sound-of-finished : (x : ℕ) → 2 ≤ get_or ms x 0 → Sound t x
  sound-of-finished x h = sound-below (suc (rank_in ms x)) x h (omega arith)

module _ (t : Table) {ms l : List ℕ} (keeps : Keeps ms l) where
  pub settled-kept : (e : ℕ) (rs : List ℕ) → Each (Settled t ms e) rs → Each (Settled t l e) rs
  settled-kept e rs s = each_map (Settled t ms e) (Settled t l e) rs
      (λ r h. record { inside = h.inside; done = λ c. rw (keeps.same r (h.done c)) (h.done c) }) s

  pub height-kept : (e best : ℕ) (rs : List ℕ) → Each (Settled t ms e) rs → height (rank_in ms) (t.counts e) best rs ≡ height (rank_in l)
      (t.counts e) best rs
  height-kept e best rs s =
      height-same (rank_in ms) (t.counts e) (rank_in l) best rs (each_map (Settled t ms e) _ rs (λ r h c. rw (keeps.same r (h.done c))) s)

  closed-kept : (x : ℕ) → 2 ≤ get_or ms x 0 → Closed t ms x → Closed t l x
  closed-kept x h c = record {
    fine = c.fine;
    settled = settled-kept x (t.refs x) c.settled;
    exact = rw (keeps.same x h) (c.exact ∙ height-kept x 0 (t.refs x) c.settled);
  }

module _ (t : Table) (p ms : List ℕ) (s : State t p ms) (e : ℕ) (inside : e < t.count) (new : get_or ms e 0 ≡ 0) where
  fits : e < length ms
  fits = rw s.sized inside

  pub off-path : Memᴰ e p → ⊥
  off-path m = let one = s.passed e m in omega arith

  pub State-begin : State t (p ++ e ∷ []) (set ms e 1)
  State-begin = record {
    sized = simp length-set s.sized;
    apart = Apart-snoc p s.apart off-path;
    begun = λ x h. begun x h (stored ms e 1 x fits);
    passed = λ x m. passed x (Memᴰ.append_cases p m) (stored ms e 1 x fits);
    closed = λ x h. closed x h (stored ms e 1 x fits);
  }
    where
      begun : (x : ℕ) → get_or (set ms e 1) x 0 ≡ 1 → Stored ms e 1 x → Memᴰ x (p ++ e ∷ [])
      begun x h (here q v) = Memᴰ.append_right p (Memᴰ.head q)
      begun x h (away n v) = Memᴰ.append_left (e ∷ []) (s.begun x (sym v ∙ h))

      passed : (x : ℕ) → Memᴰ x p ⊎ Memᴰ x (e ∷ []) → Stored ms e 1 x → get_or (set ms e 1) x 0 ≡ 1
      passed x m (here q v) = v
      passed x (inl m) (away n v) = v ∙ s.passed x m
      passed x (inr m) (away n v) = absurd (n (Memᴰ.eq_of_singleton m))

      closed : (x : ℕ) → 2 ≤ get_or (set ms e 1) x 0 → Stored ms e 1 x → Closed t (set ms e 1) x
      closed x h (here q v) = absurd (omega arith)
      closed x h (away n v) = let d : 2 ≤ get_or ms x 0 = omega arith in closed-kept t (Keeps-set ms e 1 (omega arith)) x d (s.closed x d)

module _ (t : Table) (p l : List ℕ) (e k : ℕ) (s : State t (p ++ e ∷ []) l) (apart : Apart p) (off : Memᴰ e p → ⊥) where
  pub mark-begun : get_or l e 0 ≡ 1
  mark-begun = s.passed e (Memᴰ.append_right p (Memᴰ.head refl))

  in-marks : e < length l
  in-marks = let one = mark-begun in lt-of-marked l e (omega arith)

  pub Keeps-finish : Keeps l (set l e (k + 2))
  Keeps-finish = let one = mark-begun in Keeps-set l e (k + 2) (omega arith)

  module _ (fine : t.rule e ≡ kept) (settled : Each (Settled t l e) (t.refs e)) (exact : k ≡ height (rank_in l) (t.counts e) 0
      (t.refs e)) where
    pub State-finish : State t p (set l e (k + 2))
    State-finish = record {
      sized = simp length-set s.sized;
      apart = apart;
      begun = λ x h. begun x h (stored l e (k + 2) x in-marks);
      passed = λ x m. passed x m (stored l e (k + 2) x in-marks);
      closed = λ x h. closed x h (stored l e (k + 2) x in-marks);
    }
      where
        one_of : (x : ℕ) → (x ≡ e → ⊥) → Memᴰ x p ⊎ Memᴰ x (e ∷ []) → Memᴰ x p
        one_of x n (inl m) = m
        one_of x n (inr m) = absurd (n (Memᴰ.eq_of_singleton m))

        begun : (x : ℕ) → get_or (set l e (k + 2)) x 0 ≡ 1 → Stored l e (k + 2) x → Memᴰ x p
        begun x h (here q v) = absurd (omega arith)
        begun x h (away n v) = one_of x n (Memᴰ.append_cases p (s.begun x (sym v ∙ h)))

        passed : (x : ℕ) → Memᴰ x p → Stored l e (k + 2) x → get_or (set l e (k + 2)) x 0 ≡ 1
        passed x m (here q v) = absurd (off (Memᴰ.cast (sym q) m))
        passed x m (away n v) = v ∙ s.passed x (Memᴰ.append_left (e ∷ []) m)

        closed-e : Closed t (set l e (k + 2)) e
        closed-e = record {
          fine = fine;
          settled = settled-kept t Keeps-finish e (t.refs e) settled;
          exact = rw (get_or-set_same l e (k + 2) 0 in-marks) (cut ∙ exact ∙ height-kept t Keeps-finish e 0 (t.refs e) settled);
        }
          where
            cut : k + 2 - 2 ≡ k
            cut = omega arith

        closed : (x : ℕ) → 2 ≤ get_or (set l e (k + 2)) x 0 → Stored l e (k + 2) x → Closed t (set l e (k + 2)) x
        closed x h (here q v) = rw q closed-e
        closed x h (away n v) = let d : 2 ≤ get_or l x 0 = omega arith in closed-kept t Keeps-finish x d (s.closed x d)
