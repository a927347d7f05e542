-- There is one first fault at most. An unsound entry has one first reference that is not done with, so the order goes one way from the
-- lowest unsound entry, and that way ends at one place.
-- Assumes nothing.
use mathlib.Core.Path.{◌≡◌, refl, sym, ◌∙◌}
use mathlib.Core.List.{List, [], ◌∷◌, ◌++◌, Memᴰ}
use Prim.Native.Nat.{ℕ, zero, suc, ◌≤◌, ◌<◌}
use native.Mathlib.Omega.{arith}
use native.Mathlib.Decide.{ℕ_discrete, dec_lt}
use Rattle.ranks.specs.Table.{Table, Each, Refers, Sound, sound, Done, Comes, upward, inward, First, range, rule}
use Rattle.ranks.proofs.Paths.{each_at}

-- the first of which P does not hold is one
first-odd : (P : ℕ → Type 0) (b c : List ℕ) (y z : ℕ) (a d : List ℕ) → b ++ y ∷ a ≡ c ++ z ∷ d → Each P b → Each P c → (P y → ⊥)
    → (P z → ⊥) → y ≡ z
first-odd P [] [] y z a d q eb ec ny nz = cc
first-odd P [] (x ∷ c) y z a d q eb ec ny nz = let s : y ≡ x = cc in absurd (ny (rw s ec.0))
first-odd P (x ∷ b) [] y z a d q eb ec ny nz = let s : x ≡ z = cc in absurd (nz (rw s at eb.0))
first-odd P (x ∷ b) (w ∷ c) y z a d q eb ec ny nz = let s : b ++ y ∷ a ≡ c ++ z ∷ d = cc in first-odd P b c y z a d s eb.1 ec.1 ny nz

module _ (t : Table) where
  -- y is the first reference of x that is not done with
  record Odd (x y : ℕ) : Type 0 where
    before : List ℕ
    after : List ℕ
    parts : t.refs x ≡ before ++ y ∷ after
    done : Each (Done t x) before
    odd : Done t x y → ⊥

  odd-unique : {x y z : ℕ} → Odd x y → Odd x z → y ≡ z
  odd-unique {x} {y} {z} p q =
      first-odd (Done t x) p.before q.before y z p.after q.after (sym p.parts ∙ q.parts) p.done q.done p.odd
      q.odd

  odd-none : {x y : ℕ} → Each (Done t x) (t.refs x) → Odd x y → ⊥
  odd-none {x} {y} e p =
      let m : Memᴰ y (t.refs x) = rw p.parts (mathlib.Core.List.Memᴰ.append_right p.before (mathlib.Core.List.Memᴰ.head refl)) in
      p.odd (each_at (Done t x) m e)

  record Step (x y : ℕ) : Type 0 where
    first : Odd x y
    inside : y < t.count

  data Way (i : ℕ) : ℕ → ℕ → Type 0 where
    start : Way i zero i
    onward : {k x y : ℕ} → Way i k x → Step x y → Way i (suc k) y

  abbrev Stuck : ℕ → Type 0
  Stuck x = (y : ℕ) → Step x y → ⊥

  way-unique : {i k x y : ℕ} → Way i k x → Way i k y → x ≡ y
  way-unique start start = refl
  way-unique (onward {x = x} {y = y} p s) (onward {x = w} {y = z} q r) =
      let e = way-unique p q in
      let m : Step w y = rw e at s in
      odd-unique m.first r.first

  -- a longer way goes on where a shorter one ends
  way-cut : {i m y : ℕ} (k : ℕ) → Way i m y → k < m → (x : ℕ) × (z : ℕ) × Way i k x × Step x z
  way-cut {i} k start lt = absurd (omega arith)
  way-cut {i} k (onward {k = m} {x = x} {y = y} p s) lt = go (ℕ_discrete k m) (way-cut k p)
    where
      go : Dec (k ≡ m) → (k < m → (x : ℕ) × (z : ℕ) × Way i k x × Step x z) → (x : ℕ) × (z : ℕ) × Way i k x × Step x z
      go (yes q) below = (x, y, rw q p, s)
      go (no n) below = below (omega arith)

  way-ends : {i k m x y : ℕ} → Way i k x → Stuck x → Way i m y → Stuck y → x ≡ y
  way-ends {i} {k} {m} {x} {y} p sx q sy = go (dec_lt k m) (dec_lt m k)
    where
      go : Dec (k < m) → Dec (m < k) → x ≡ y
      go (yes lt) d = let c = way-cut k q lt in let e = way-unique c.2 p in absurd (sx c.1 (rw e at c.3))
      go (no n) (yes lt) = let c = way-cut m p lt in let e = way-unique c.2 q in absurd (sy c.1 (rw e at c.3))
      go (no n) (no o) = let e : k ≡ m = omega arith in way-unique (rw e at p) q

  -- where a way may start
  record Top (i : ℕ) : Type 0 where
    below : (j : ℕ) → j < i → Sound t j
    unsound : Sound t i → ⊥

  top_unique : {i j : ℕ} → Top i → Top j → i ≡ j
  top_unique {i} {j} p q = go (dec_lt i j) (dec_lt j i)
    where
      go : Dec (i < j) → Dec (j < i) → i ≡ j
      go (yes lt) d = absurd (p.unsound (q.below i lt))
      go (no n) (yes lt) = absurd (q.unsound (p.below j lt))
      go (no n) (no o) = omega arith

  sound-inward : {x y : ℕ} → Sound t x → Refers t x y → Sound t y
  sound-inward (sound lt law below) r = below _ r

  -- the order comes to an unsound entry along such a way
  way_of : {e : ℕ} → Comes t e → (Sound t e → ⊥) → (i : ℕ) × (k : ℕ) × Top i × Way i k e
  way_of {e} (upward lt below) n = (e, zero, record { below = below; unsound = n }, start)
  way_of {e} (inward {e = x} before after c parts done inside counted) n =
      let listed : Memᴰ e (t.refs x) = rw parts (mathlib.Core.List.Memᴰ.append_right before (mathlib.Core.List.Memᴰ.head refl)) in
      let w = way_of c (λ s. n (sound-inward s (record { listed = listed; counted = counted }))) in
      let o : Odd x e = record { before = before; after = after; parts = parts; done = done; odd = λ d. n (d.resolved counted) } in
      (w.0, suc w.1, w.2, onward w.3 (record { first = o; inside = inside }))

  ends-unique : {e f : ℕ} → Comes t e → (Sound t e → ⊥) → Stuck e → Comes t f → (Sound t f → ⊥) → Stuck f → e ≡ f
  ends-unique c n s d m r =
      let p = way_of c n in
      let q = way_of d m in
      let i = top_unique p.2 q.2 in
      way-ends (rw i at p.3) s q.3 r

  odd-range : {e r : ℕ} (before after : List ℕ) → t.refs e ≡ before ++ r ∷ after → Each (Done t e) before → t.count ≤ r → Odd e r
  odd-range before after parts done past = record {
    before = before;
    after = after;
    parts = parts;
    done = done;
    odd = λ d. omega
        (arith, d.inside);
  }

  comes_of : {n e r : ℕ} → First t n e r → Comes t e
  comes_of (range before after c parts done past) = c
  comes_of (rule c all q) = c

  stuck-of : {n e r : ℕ} → First t n e r → Stuck e
  stuck-of {e} {r} (range before after c parts done past) y s =
      let o = odd-unique s.first (odd-range before after parts done past) in
      omega (arith, s.inside)
  stuck-of (rule c all q) y s = odd-none all s.first

  unsound-of : {n e r : ℕ} → First t n e r → Sound t e → ⊥
  unsound-of {e} {r} (range before after c parts done past) (sound lt law below) =
      let m : Memᴰ r (t.refs e) = rw parts (mathlib.Core.List.Memᴰ.append_right before (mathlib.Core.List.Memᴰ.head refl)) in
      omega (arith, law.inside r m)
  unsound-of (rule c all q) (sound lt law below) = let k = sym q ∙ law.fine in let z : ◌≡◌ {A = ℕ} 0 1 = cc in omega arith

  same-entry : {n m e r s : ℕ} → First t n e r → First t m e s → (n ≡ m) × (r ≡ s)
  same-entry (range b a c p d past) (range b' a' c' p' d' past') = (refl, odd-unique (odd-range b a p d past) (odd-range b' a' p' d' past'))
  same-entry (range b a c p d past) (rule c' all q) = absurd (odd-none all (odd-range b a p d past))
  same-entry (rule c all q) (range b a c' p d past) = absurd (odd-none all (odd-range b a p d past))
  same-entry (rule c all q) (rule c' all' q') = let k = sym q ∙ q' in (cc, cc)

  pub first-unique : {n m e f r s : ℕ} → First t n e r → First t m f s → (n ≡ m) × (e ≡ f) × (r ≡ s)
  first-unique {m} {s} p q =
      let e = ends-unique (comes_of p) (unsound-of p) (stuck-of p) (comes_of q) (unsound-of q) (stuck-of q) in
      let same = same-entry p (rw (sym e) at q) in
      (same.0, e, same.1)
