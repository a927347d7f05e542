-- How the walk keeps its state in the one lent witness: for the private functions alone, and not part of what is promised.
--     A word of the witness is an entry's mark while the walk runs: 0 not started; one more than its depth while it is on the path;
--     then its rank and 4,097. At a ring all are cleared, and each entry of the ring writes itself as the answer goes back over it.
--     plainly ms           the marks in the words of ranks/specs/Walk
--     Path p ms            the path p is what the marks say
--     Ready ms d c         the walk may go on at depth d, where c is counted besides the entries not started
--     Kept a .. d c        and may go on after the answer a, if that is a rank
--     Stopped p l stop a   the witness l and the stop show the answer a, below the path p
--     Shows p l a o        the witness l and the answer a show the outcome o, below the path p;  Upward l a o  of the whole pass
--     EntryWalked, StretchWalked   both, of an entry and of a stretch of references
-- Assumes nothing.
use Rattle.std.specs.Prelude.{◌≡◌, cond, List, [], ◌++◌, map, ℕ, suc, ◌+◌, ◌-◌, ◌≤◌, ◌<◌, eqb, leb, length, get_or, set, drop, Result, Ok, Err}
use Rattle.table.specs.Buffers.{zeros, padded}
use Rattle.table.specs.declared.Rank.{Rank}
use Rattle.ranks.specs.Walk as ranks
use Rattle.ranks.specs.Walk.{Out, out, unstarted}
use Rattle.rules.specs.Lawful.{max_entries, table_of}
use Rattle.walk.specs.declared.Stop.{Stop}
use Rattle.walk.specs.declared.Stop.TheVariants.{Ring, Refused}
use Rattle.walk.specs.Answers.{number_in, detail_in}

abbrev pub finished : ℕ
finished = suc max_entries

unfoldable pub plain : ℕ → ℕ
plain m = cond (eqb m 0) 0 (cond (leb m max_entries) 1 (m - finished + 2))

abbrev pub plainly : List ℕ → List ℕ
plainly ms = map plain ms

pub record Path (p ms : List ℕ) : Type 0 where
  pub marked : (i : ℕ) → i < length p → get_or ms (get_or p i 0) 0 ≡ i + 1
  pub placed : (x : ℕ) → 0 < get_or ms x 0 → get_or ms x 0 ≤ max_entries → (get_or ms x 0 ≤ length p) × (get_or p (get_or ms x 0 - 1) 0 ≡ x)

-- a finished rank, the depth and the entries not started together are fewer than the entries
pub record Ready (ms : List ℕ) (d c : ℕ) : Type 0 where
  pub few : length ms ≤ max_entries
  pub room : c + unstarted ms ≤ length ms
  pub low : (x : ℕ) → max_entries < get_or ms x 0 → get_or ms x 0 + d + unstarted ms < length ms + finished

-- after a rank: no more entries unstarted, the marks before kept, and what is begun was begun before
pub record RankKept (before after : List ℕ) (d c : ℕ) : Type 0 where
  pub fewer : unstarted after ≤ unstarted before
  pub ready : Ready after d c
  pub same : (x : ℕ) → 0 < get_or before x 0 → get_or after x 0 ≡ get_or before x 0
  pub begun : (x : ℕ) → 0 < get_or after x 0 → get_or after x 0 ≤ max_entries → get_or after x 0 ≡ get_or before x 0

abbrev pub Kept : Result Rank Stop → List ℕ → List ℕ → ℕ → ℕ → Type 0
Kept (Ok k) before after d c = RankKept before after d (k.0 + c)
Kept (Err stop) before after d c = Unit {0}

-- the rank of a finished entry
abbrev pub ranked : ℕ → ℕ
ranked m = m - finished

-- the words of the first m are still 0
abbrev pub blank : ℕ → List ℕ → List ℕ
blank m l = zeros m ++ drop m l

-- the ring is the path from the depth `from` on, and more entries below it, which have written themselves
pub record RingShown (p l : List ℕ) (k from n : ℕ) (a : ranks.Answer) : Type 0 where
  pub more : List ℕ
  pub is : a ≡ ranks.Ring (drop from p ++ more)
  pub first : get_or (drop from p ++ more) 0 0 ≡ k
  pub long : length (drop from p ++ more) ≡ n
  pub content : l ≡ blank (length p - from) (padded (length l) (drop from p ++ more))

abbrev pub Stopped : List ℕ → List ℕ → Stop → ranks.Answer → Type 0
Stopped p l (Ring k from n) a = RingShown p l k from n a
Stopped p l (Refused e f) a = a ≡ ranks.Bad (number_in f) e (detail_in f)

abbrev pub Shows : List ℕ → List ℕ → Result Rank Stop → Out → Type 0
Shows p l (Ok k) o = o ≡ out (plainly l) (ranks.Rank k.0)
Shows p l (Err stop) o = Stopped p l stop o.answer

-- of the whole pass, which has no rank
abbrev pub Upward : List ℕ → Result Unit Stop → Out → Type 0
Upward l (Ok u) o = o ≡ out (plainly l) (ranks.Rank 0)
Upward l (Err stop) o = Stopped [] l stop o.answer

-- an entry that has its rank from its references, after its own rule
pub record Finished (before after : List ℕ) (e k : ℕ) (a : Result Rank Stop) (o : Out) : Type 0 where
  pub shows : (p : List ℕ) → Shows p after a o
  pub stored : (r : Rank) → a ≡ Ok r → (r.0 ≡ k) × (after ≡ set before e (k + finished))

-- what the walk of entry e leaves and answers, from the marks ms on
pub record EntryWalked (rows refs ms : List ℕ) (d e : ℕ) (l : List ℕ) (a : Result Rank Stop) : Type 0 where
  pub kept : Kept a ms l d (d + 1)
  pub shows : (f : ℕ) (p : List ℕ) → unstarted ms ≤ f → length p ≡ d → Path p ms
      → Shows p l a (ranks.entry f (table_of rows refs (length ms)) p (plainly ms) e)

-- and that of the references rs of e
pub record StretchWalked (rows refs ms : List ℕ) (d e : ℕ) (rs l : List ℕ) (a : Result Rank Stop) : Type 0 where
  pub kept : Kept a ms l d d
  pub shows : (f : ℕ) (p : List ℕ) → unstarted ms ≤ f → length p ≡ d → Path p ms
      → Shows p l a (ranks.stretch (table_of rows refs (length ms)) (ranks.entry f (table_of rows refs (length ms)) p) e (plainly ms) 0 rs)
