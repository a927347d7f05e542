-- Demand 3: what an answer of the walk means. `Resolves rows refs n room r w` is the contract of `walk::walk::resolve`, which walks n
-- entries, answers r and leaves the witness w; `checked` is the contract of `checker::check::check`.
--     Lowest                 ranks that pass the checker, and of all that do the lowest
--     RingFirst              a ring that starts with k and has m entries, first in the witness
--     Demand3                the demand, for rows that are well formed, of a verdict and a witness
--     Determined             no second answer fits
--     Flat                   the checker says yes exactly of the flat form of one list of entries, lawful with the ranks
-- Assumes nothing.
use Rattle.std.specs.Prelude.{◌≡◌, ◌↔◌, true, List, ℕ, ◌≤◌, ◌<◌, length, get_or, Result}
use Rattle.table.specs.Buffers.{zeros, padded}
use Rattle.table.specs.Entries.{Entry}
use Rattle.ranks.specs.Table.{Passes, IsRing, height}
use Rattle.ranks.specs.Promises.{Blamed}
use Rattle.rules.specs.Lawful.{table_of}
use Rattle.walk.specs.declared.Error.{Error}
use Rattle.walk.specs.Answers.{Paper, accepted, refused, cycle}
use Rattle.walk.specs.Resolve.{Resolves}
use Rattle.checker.specs.Checked.{checked}
use Rattle.resolve.specs.Entries.{Holds}

-- 2. "the ranks handed back pass it, and are entry by entry the lowest of all that do; each is less than the entry count"
pub record Lowest (rows refs names : List ℕ) (n : ℕ) (w : List ℕ) : Type 0 where
  pub passes : checked rows refs names w n ≡ true
  pub bounded : (e : ℕ) → e < n → get_or w e 0 < n
  pub lowest : (ranks : List ℕ) → checked rows refs names ranks n ≡ true → (e : ℕ) → e < n → get_or w e 0 ≤ get_or ranks e 0
  pub exact : (e : ℕ) → e < n → get_or w e 0 ≡ height (λ r. get_or w r 0) ((table_of rows refs n).counts e) 0 ((table_of rows refs n).refs e)

-- 3. "each entry refers to the next, the last to the first, all in range, no entry twice"
pub record RingFirst (rows refs : List ℕ) (n room k m : ℕ) (w : List ℕ) : Type 0 where
  pub ring : List ℕ
  pub is_ring : IsRing (table_of rows refs n) ring
  pub starts : get_or ring 0 0 ≡ k
  pub long : length ring ≡ m
  pub first : w ≡ padded room ring

pub record Demand3 (rows refs names : List ℕ) (n room : ℕ) (verdict : Paper) (w : List ℕ) : Type 0 where
  -- 1. the walk accepts exactly if some list of ranks passes the checker
  pub decided : (verdict ≡ accepted) ↔ ((ranks : List ℕ) × (checked rows refs names ranks n ≡ true))
  pub ranked : verdict ≡ accepted → Lowest rows refs names n w
  -- 3. a refusal 19 shows a ring
  pub ring : (k m : ℕ) → verdict ≡ refused cycle k m → RingFirst rows refs n room k m w
  -- 4. every other refusal names a rule that is broken at that place, and the first that the order of 01 meets
  pub blamed : (p e d : ℕ) → verdict ≡ refused p e d → (p ≡ cycle → ⊥) → Blamed (table_of rows refs n) p e d × (w ≡ zeros room)
  -- and where anything is refused, no list of ranks can pass
  pub refuted : (p e d : ℕ) → verdict ≡ refused p e d → (ranks : List ℕ) → checked rows refs names ranks n ≡ true → ⊥

-- 5. the answer and the whole witness are determined
abbrev pub Determined : List ℕ → List ℕ → ℕ → ℕ → Type 0
Determined rows refs n room =
    (r s : Result Unit Error) (w v : List ℕ) → Resolves rows refs n room r w → Resolves rows refs n room s v → (r ≡ s) × (w ≡ v)

-- what the checker's yes means of the rows
abbrev pub Flat : List ℕ → List ℕ → List ℕ → List ℕ → ℕ → Type 0
Flat rows refs names ranks n =
    ((checked rows refs names ranks n ≡ true)
    ↔ ((es : List Entry) × (length es ≡ n) × Holds rows refs names es × Passes (table_of rows refs n) ranks))
    × ((es fs : List Entry) → Holds rows refs names es → Holds rows refs names fs → length es ≡ length fs → es ≡ fs)
