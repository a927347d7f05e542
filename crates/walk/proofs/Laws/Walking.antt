-- The loop of `resolve_stretch`: the invariant, and one law for each way through a turn, in the terms in which its calls give it.
-- Assumes nothing.
use mathlib.Core.Path.{◌≡◌, refl, sym, ap, ◌∙◌}
use mathlib.Core.Bool.{Bool, true, false}
use mathlib.Core.List.{List}
use Prim.Native.Nat.{ℕ, ◌+◌, ◌-◌, ◌≤◌, ◌<◌, max}
use native.Mathlib.Omega.{arith}
use native.Mathlib.Nat.{le_trans}
use lib.ListN.{length, get_or, drop}
use Rattle.std.proofs.Common.{Result, Ok, Err}
use Rattle.table.specs.declared.Rank.{Rank}
use Rattle.table.specs.declared.row.Row.{Row}
use Rattle.table.specs.Rows.{row_at}
use Rattle.ranks.specs.Table.{Table}
use Rattle.ranks.specs.Walk.{stretch, entry, unstarted}
use Rattle.rules.specs.Counts.{counted}
use Rattle.rules.specs.Lawful.{max_entries, table_of}
use Rattle.walk.specs.declared.Fault.TheVariants.{OutOfRange}
use Rattle.walk.specs.declared.Stop.{Stop}
use Rattle.walk.specs.declared.Stop.TheVariants.{Refused}
use Rattle.walk.specs.Marks.{finished, plainly, Path, Ready, RankKept, Shows, EntryWalked, StretchWalked}
use Rattle.walk.proofs.Laws.Marks.{Path-kept}
use Rattle.walk.proofs.Laws.Ready.{kept-none, RankKept-next, ready-enter, ready-next}
use Rattle.walk.proofs.Laws.Walk.{stretch-none, stretch-range, stretch-past, stretch-stops, stretch-goes}
use Rattle.walk.proofs.Laws.Calls.{entry_known}

-- the references left, from number i on, give what all of them give
pub record Walking (rows refs ms₀ : List ℕ) (d e : ℕ) (rs ms : List ℕ) (best i : ℕ) : Type 0 where
  pub sized : length ms ≡ length ms₀
  pub kept : RankKept ms₀ ms d (best + d)
  pub rest : (f : ℕ) (p : List ℕ) → unstarted ms₀ ≤ f → length p ≡ d → Path p ms₀
      → stretch (table_of rows refs (length ms₀)) (entry f (table_of rows refs (length ms₀)) p) e (plainly ms₀) 0 rs
      ≡ stretch (table_of rows refs (length ms₀)) (entry f (table_of rows refs (length ms₀)) p) e (plainly ms) best (drop i rs)

-- reference number i is in range, and c says whether it counts
pub record Asked (rows refs ms₀ : List ℕ) (d e : ℕ) (rs ms : List ℕ) (best i : ℕ) (c : Bool) : Type 0 where
  pub so_far : Walking rows refs ms₀ d e rs ms best i
  pub more : i < length rs
  pub in_range : get_or rs i 0 < length ms
  pub says : counted (row_at rows e) (row_at rows (get_or rs i 0)) ≡ c

-- as the code asks it
pub counts-as : {from to a b : Row} {r c : Bool} → a ≡ from → b ≡ to → r ≡ counted a b → r ≡ c → counted from to ≡ c
counts-as {from = from} {b = b} p q s is = sym (ap (λ (x : Row). counted x b) p ∙ ap (counted from) q) ∙ sym s ∙ is

pub asked : {rows refs ms₀ : List ℕ} {d e : ℕ} {rs ms : List ℕ} {best i : ℕ} {a b : Row} {r c : Bool}
    → Walking rows refs ms₀ d e rs ms best i → i < length rs → get_or rs i 0 < length ms → a ≡ row_at rows e
    → b ≡ row_at rows (get_or rs i 0) → r ≡ counted a b → r ≡ c → Asked rows refs ms₀ d e rs ms best i c
asked so_far more in_range p q s is = record { so_far = so_far; more = more; in_range = in_range; says = counts-as p q s is }

pub Walking-first : {rows refs ms rs : List ℕ} {d e : ℕ} → Ready ms d d → Walking rows refs ms d e rs ms 0 0
Walking-first {ms = ms} {d = d} ready =
    let same : 0 + d ≡ d = omega arith in
    record { sized = refl; kept = rw same (kept-none ms d d ready); rest = λ f p le size path. refl }

module _ {rows refs ms₀ : List ℕ} {d e : ℕ} {rs ms : List ℕ} {best i : ℕ} where
  module _ (h : Walking rows refs ms₀ d e rs ms best i) where
    abbrev T : Table
    T = table_of rows refs (length ms₀)

    pub Walking-done : length rs ≤ i → {r : Rank} → r.0 ≡ best → StretchWalked rows refs ms₀ d e rs ms (Ok r)
    Walking-done past {r = r} is = record {
      kept = rw is h.kept;
      shows = λ f p le size path. rw (h.rest f p le size path) (stretch-none T (entry f T p) p ms e best rs i r is past);
    }

    pub Walking-range : i < length rs → length ms ≤ get_or rs i 0
        → StretchWalked rows refs ms₀ d e rs ms (Err (Refused e (OutOfRange (get_or rs i 0))))
    Walking-range lt past = record {
      kept = tt;
      shows = λ f p le size path. rw (h.rest f p le size path) (stretch-range T (entry f T p) p ms e best rs i lt
          (omega (arith, h.sized)));
    }

  module _ {c : Bool} (h : Asked rows refs ms₀ d e rs ms best i c) where
    below-count : get_or rs i 0 < length ms₀
    below-count = omega (arith, h.so_far.sized, h.in_range)

    pub Walking-ready : Ready ms d d
    Walking-ready = ready-enter best h.so_far.kept.ready

  pub Walking-past : Asked rows refs ms₀ d e rs ms best i false → Walking rows refs ms₀ d e rs ms best (i + 1)
  Walking-past h = record {
    sized = h.so_far.sized;
    kept = h.so_far.kept;
    rest = λ f p le size path.
        h.so_far.rest f p le size path
        ∙ stretch-past (T h.so_far) (entry f (T h.so_far) p) p ms e best rs i h.more (below-count h) h.says;
  }

  -- it counts
  module _ (h : Asked rows refs ms₀ d e rs ms best i true) where
    -- and the call of its entry has left l and answered a
    module _ {l : List ℕ} {a : Result Rank Stop} (called : EntryWalked rows refs ms d (get_or rs i 0) l a) where
      shown : (f : ℕ) (p : List ℕ) → unstarted ms₀ ≤ f → length p ≡ d → Path p ms₀
          → Shows p l a (entry f (T h.so_far) p (plainly ms) (get_or rs i 0))
      shown f p le size path =
          let w = h.so_far.kept in
          rw h.so_far.sized at (called.shows f p (le_trans w.fewer le) size (Path-kept p ms₀ ms d (best + d) w path))

    pub Walking-stops : {l : List ℕ} {stop : Stop} → EntryWalked rows refs ms d (get_or rs i 0) l (Err stop)
        → StretchWalked rows refs ms₀ d e rs l (Err stop)
    Walking-stops {l = l} {stop = stop} called = record {
      kept = tt;
      shows = λ f p le size path.
          rw (h.so_far.rest f p le size path)
          (stretch-stops (T h.so_far) (entry f (T h.so_far) p) p ms e best rs i h.more (below-count h)
          h.says l stop (shown called f p le size path));
    }

    pub Walking-more : {l : List ℕ} {rank : Rank} → EntryWalked rows refs ms d (get_or rs i 0) l (Ok rank)
        → {next : ℕ} → next ≡ max best (rank.0 + 1) → length l ≡ length ms → Walking rows refs ms₀ d e rs l next (i + 1)
    Walking-more {l = l} {rank = rank} called {next = next} is len = record {
      sized = len ∙ h.so_far.sized;
      kept = RankKept-next h.so_far.kept called.kept (ready-next ms l d best rank.0 next h.so_far.kept.ready len is called.kept);
      rest = λ f p le size path.
          h.so_far.rest f p le size path
          ∙ stretch-goes (T h.so_far) (entry f (T h.so_far) p) p ms e best rs i h.more (below-count h)
          h.says l rank next is (shown called f p le size path);
    }

    -- and its entry is finished, so that nothing is called
    pub Walking-known : max_entries < get_or ms (get_or rs i 0) 0 → {next : ℕ}
        → next ≡ max best (get_or ms (get_or rs i 0) 0 - finished + 1) → Walking rows refs ms₀ d e rs ms next (i + 1)
    Walking-known big is = Walking-more (entry_known (Walking-ready h) big) is refl
