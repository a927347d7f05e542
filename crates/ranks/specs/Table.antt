-- Document 01, "Resolution", over any table of entries that refer to each other, and said without any walk.
--     Verdict           what an entry's own rule says: kept, or broken, with the refusal's number and detail
--     Table             the entries below count with their references, which of these count, and each entry's own rule
--     out_of_range        the number of that refusal
--     Each P xs         P holds of each of xs
--     Refers t e r      entry e refers to r, and the reference counts for ranks
--     Lawful t e        the references of e are in range and its own rule is kept
--     Passes t ranks    every entry is lawful and ranks fall strictly along every reference that counts
--     height            what an entry's rank is, by the ranks that it refers to
--     Leads, Turns      a chain of references, and one that comes back to its start;  Apart xs  no number twice
--     IsRing t ring     each entry of ring refers to the next and the last to the first; all differ and are in range
--     OutOfRange, RuleBroken, Fault t n e r     refusal n of entry e with detail r names a rule that e breaks
--     Sound t e         e and all that it leads to are lawful, and no ring is among them
--     Done t e r        reference r of e is done with
--     Comes t e         the order of 01 comes to e, past nothing but what is sound
--     First t n e r     so it comes to e, and that fault is the next thing that it meets
-- Assumes nothing.
use Rattle.std.specs.Prelude.{◌≡◌, ◌⊎◌, Bool, true, cond, ℕ, ◌+◌, ◌≤◌, ◌<◌, max, length, get_or}
use mathlib.Core.List.{List, [], ◌∷◌, ◌++◌, Memᴰ}

-- "reference out of range" has the number 11
abbrev pub out_of_range : ℕ
out_of_range = 11

pub data Verdict : Type 0 where
  kept : Verdict
  broken : ℕ → ℕ → Verdict

-- `counts e r`: a reference of e to r is walked and bounds e's rank (2026-06 exempts some); the range of every one is judged
pub record Table : Type 0 where
  pub count : ℕ
  pub refs : ℕ → List ℕ
  pub counts : ℕ → ℕ → Bool
  pub rule : ℕ → Verdict

abbrev pub Each : (ℕ → Type 0) → List ℕ → Type 0
Each P [] = Unit {0}
Each P (x ∷ xs) = P x × Each P xs

pub record Refers (t : Table) (e r : ℕ) : Type 0 where
  pub listed : Memᴰ r (t.refs e)
  pub counted : t.counts e r ≡ true

pub record Lawful (t : Table) (e : ℕ) : Type 0 where
  pub inside : (r : ℕ) → Memᴰ r (t.refs e) → r < t.count
  pub fine : t.rule e ≡ kept

-- "rows and ranks hold that many, .. references are in range, and ranks fall strictly along each"
pub record Passes (t : Table) (ranks : List ℕ) : Type 0 where
  pub sized : t.count ≤ length ranks
  pub lawful : (e : ℕ) → e < t.count → Lawful t e
  pub falls : (e r : ℕ) → e < t.count → Refers t e r → get_or ranks r 0 < get_or ranks e 0

-- "rank is 0 without references, else one more than the largest rank it refers to": `height rank counted 0 refs`
abbrev pub height : (ℕ → ℕ) → (ℕ → Bool) → ℕ → List ℕ → ℕ
height rank counted best [] = best
height rank counted best (r ∷ rs) = height rank counted (cond (counted r) (max best (rank r + 1)) best) rs

-- x refers to the first of xs, each of these to the next, and the last of them (x, if there are none) to y
abbrev pub Leads : Table → ℕ → List ℕ → ℕ → Type 0
Leads t x [] y = Refers t x y
Leads t x (z ∷ zs) y = Refers t x z × Leads t z zs y

abbrev pub Apart : List ℕ → Type 0
Apart [] = Unit {0}
Apart (x ∷ xs) = (Memᴰ x xs → ⊥) × Apart xs

abbrev pub Turns : Table → List ℕ → Type 0
Turns t [] = ⊥
Turns t (x ∷ xs) = Leads t x xs x

pub record IsRing (t : Table) (ring : List ℕ) : Type 0 where
  pub turns : Turns t ring
  pub apart : Apart ring
  pub inside : Each (λ x. x < t.count) ring

pub record OutOfRange (t : Table) (n e r : ℕ) : Type 0 where
  pub number : n ≡ out_of_range
  pub entry : e < t.count
  pub listed : Memᴰ r (t.refs e)
  pub past : t.count ≤ r

pub record RuleBroken (t : Table) (n e r : ℕ) : Type 0 where
  pub entry : e < t.count
  pub breaks : t.rule e ≡ broken n r

abbrev pub Fault : Table → ℕ → ℕ → ℕ → Type 0
Fault t n e r = OutOfRange t n e r ⊎ RuleBroken t n e r

pub data Sound (t : Table) : ℕ → Type 0 where
  sound : {e : ℕ} → e < t.count → Lawful t e → ((r : ℕ) → Refers t e r → Sound t r) → Sound t e

-- reference r of e is done with: in range and, if it counts, "resolved .. fully"
pub record Done (t : Table) (e r : ℕ) : Type 0 where
  pub inside : r < t.count
  pub resolved : t.counts e r ≡ true → Sound t r

-- "From entry 0 upward: an entry's references are resolved in order, each fully"
pub data Comes (t : Table) : ℕ → Type 0 where
  upward : {e : ℕ} → e < t.count → ((i : ℕ) → i < e → Sound t i) → Comes t e
  inward : {e r : ℕ} (before after : List ℕ) → Comes t e → t.refs e ≡ before ++ r ∷ after → Each (Done t e) before
      → r < t.count → t.counts e r ≡ true → Comes t r

-- a reference out of range behind references that are done with; or, "then its own rule is judged", the rule behind all of them
pub data First (t : Table) : ℕ → ℕ → ℕ → Type 0 where
  range : {e r : ℕ} (before after : List ℕ) → Comes t e → t.refs e ≡ before ++ r ∷ after → Each (Done t e) before → t.count ≤ r
      → First t out_of_range e r
  rule : {n e r : ℕ} → Comes t e → Each (Done t e) (t.refs e) → t.rule e ≡ broken n r → First t n e r
