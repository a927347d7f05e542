-- Laws of specs/Places.antt: how an arm of a `match` on a kind meets `allowed`, for any of the six places.
--     kinds_of p, answer_in p     the kinds that the cell p names, and what `allowed p` answers of these
-- Named in docs/TRACE.md and PROVING.md.
-- Assumes nothing.
use mathlib.Core.Path.{◌≡◌, sym}
use mathlib.Core.Bool.{Bool, true, false, not}
use mathlib.Core.List.{List}
use Prim.Native.Nat.{ℕ, ◌+◌, ◌≤◌, ◌<◌}
use lib.Dec.{T}
use types.Run.{OneOf}
use Rattle.laws.specs.Numbers.{listed}
use Rattle.laws.proofs.Numbers.{Apart, all_listed, run_listed, listed-of-apart, listed-of-keys, listed-of-run}
use Rattle.kinds.specs.Places.{NotAllowed, these, all_but, allowed}

abbrev pub kinds_of : NotAllowed → List ℕ
kinds_of (these kinds) = kinds
kinds_of (all_but kinds) = kinds

abbrev pub answer_in : NotAllowed → Bool
answer_in (these kinds) = false
answer_in (all_but kinds) = true

allowed-of-listed : (p : NotAllowed) (n : ℕ) → listed (kinds_of p) n ≡ true → answer_in p ≡ allowed p n
allowed-of-listed (these kinds) n h = rw h
allowed-of-listed (all_but kinds) n h = sym h

-- the arm of a range
pub allowed-of-run : (p : NotAllowed) (first count n : ℕ) → T (run_listed (kinds_of p) first count) → first ≤ n → n < first + count → answer_in p ≡ allowed p n
allowed-of-run p first count n t low high = allowed-of-listed p n (listed-of-run (kinds_of p) first count n t low high)

-- the arm of single kinds
pub allowed-of-keys : (p : NotAllowed) (keys : List ℕ) (n : ℕ) → T (all_listed (kinds_of p) keys) → OneOf keys n → answer_in p ≡ allowed p n
allowed-of-keys p keys n t h = allowed-of-listed p n (listed-of-keys (kinds_of p) keys n t h)

-- the arm `_`
pub allowed-of-apart : (p : NotAllowed) (n : ℕ) → Apart (kinds_of p) n → not (answer_in p) ≡ allowed p n
allowed-of-apart (these kinds) n h = rw (listed-of-apart kinds n h)
allowed-of-apart (all_but kinds) n h = sym (listed-of-apart kinds n h)
