-- The whole pass: what is left from entry i upward gives what the pass gives; marks become ranks; the witness behind them is 0.
-- Assumes nothing.
use mathlib.Core.Path.{◌≡◌, refl, sym, ap, ◌∙◌}
use mathlib.Core.List.{List, []}
use Prim.Native.Nat.{ℕ, suc, ◌+◌, ◌-◌, ◌≤◌, ◌<◌}
use native.Mathlib.Omega.{arith}
use lib.ListN.{length}
use Rattle.std.proofs.Common.{Result, Ok, Err}
use Rattle.table.specs.declared.Rank.{Rank}
use Rattle.table.specs.Buffers.{zeros}
use Rattle.ranks.specs.Walk.{and_then, entry, upward, resolve}
use Rattle.ranks.proofs.Marks.{unstarted-le-length}
use Rattle.rules.specs.Lawful.{max_entries, table_of}
use Rattle.walk.specs.declared.Stop.{Stop}
use Rattle.walk.specs.Marks.{plainly, Path, Ready, Shows, Upward, EntryWalked}
use Rattle.walk.proofs.Laws.Marks.{Path-none, Path-kept, plainly-zeros}
use Rattle.walk.proofs.Laws.Ready.{ready-first, ready-again}
use Rattle.walk.proofs.Laws.Walk.{stop-onward}

-- the entries below i are resolved, and the marks are ms
pub record Passing (rows refs ms₀ : List ℕ) (n : ℕ) (ms : List ℕ) (i : ℕ) : Type 0 where
  pub count : n ≡ length ms₀
  pub sized : length ms ≡ length ms₀
  pub within : i ≤ n
  pub ready : Ready ms 0 0
  pub path : Path [] ms
  pub rest : upward n (table_of rows refs n) (plainly ms) i (n - i) ≡ resolve (table_of rows refs n)

pub Passing-first : (rows refs ms : List ℕ) → length ms ≤ max_entries → ms ≡ zeros (length ms) → Passing rows refs ms (length ms) ms 0
unfolding resolve
Passing-first rows refs ms few fresh = record {
  count = refl;
  sized = refl;
  within = omega arith;
  ready = ready-first (length ms) ms fresh few;
  path = Path-none (length ms) ms fresh;
  rest = rw (whole, same);
}
  where
    whole : length ms - 0 ≡ length ms
    whole = omega arith

    same : plainly ms ≡ zeros (length ms)
    same = ap plainly fresh ∙ plainly-zeros (length ms)

module _ (rows refs ms₀ : List ℕ) (n : ℕ) (ms : List ℕ) (i : ℕ) (h : Passing rows refs ms₀ n ms i) where
  pub Passing-done : n ≤ i → Upward ms (Ok tt) (resolve (table_of rows refs (length ms₀)))
  unfolding upward
  Passing-done le =
      let none : n - i ≡ 0 = omega arith in
      let w = rw none at h.rest in
      rw h.count at (sym w)

  -- entry i is resolved
  module _ (lt : i < n) (l : List ℕ) where
    next : resolve (table_of rows refs n) ≡ and_then (entry n (table_of rows refs n) [] (plainly ms) i)
        (λ m k. upward n (table_of rows refs n) m (suc i) (n - suc i))
    unfolding upward
    next = let one : n - i ≡ suc (n - suc i) = omega arith in sym (rw one at h.rest)

    shown : (a : Result Rank Stop) → EntryWalked rows refs ms 0 i l a → Shows [] l a (entry n (table_of rows refs n) [] (plainly ms) i)
    shown a call =
        let same : length ms ≡ n = h.sized ∙ sym h.count in
        rw same at (call.shows n [] (omega (arith, unstarted-le-length ms)) refl h.path)

    pub Passing-stops : (stop : Stop) → EntryWalked rows refs ms 0 i l (Err stop)
        → Upward l (Err stop) (resolve (table_of rows refs (length ms₀)))
    Passing-stops stop call =
        rw (← h.count, next)
        (stop-onward [] l stop (entry n (table_of rows refs n) [] (plainly ms) i) (λ m k. upward n (table_of rows refs n) m (suc i) (n - suc i))
        (shown (Err stop) call))

    pub Passing-more : (r : Rank) → length l ≡ length ms → EntryWalked rows refs ms 0 i l (Ok r) → Passing rows refs ms₀ n l (i + 1)
    Passing-more r len call =
        let one : i + 1 ≡ suc i = omega arith in
        let got = shown (Ok r) call in
        record {
          count = h.count;
          sized = len ∙ h.sized;
          within = omega arith;
          ready = ready-again r.0 call.kept;
          path = Path-kept [] ms l 0 (r.0 + 1) call.kept h.path;
          rest = rw one (sym (rw got at next));
        }
