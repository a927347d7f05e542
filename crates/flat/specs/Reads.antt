-- docs/DECISIONS.md, "The library to link": what reading a layout string leaves in a lent buffer, "number, place, detail .., then the
-- layout". "Over the front .., as far as it reaches, the words of the layout, .. and 0 behind them" (include/reckonferry.h).
--     Reads mapped before r after     r has the answer and counts the words of the layout, which lie over zeros
-- Assumes nothing.
use Rattle.std.specs.Prelude.{◌≡◌, List, ℕ, length}
use Rattle.table.specs.Buffers.{zeros}
use Rattle.datalayout.specs.declared.map.Mapped.{Mapped}
use Rattle.flat.specs.declared.read.Laid.{Laid}
use Rattle.flat.specs.Words.{layout_words}
use Rattle.flat.specs.Puts.{Puts}

pub record Reads (m : Mapped) (before : List ℕ) (r : Laid) (after : List ℕ) : Type 0 where
  pub answer_is : r.answer ≡ m.answer
  pub layout_is : Puts (layout_words m.layout) (zeros (length before)) r.words after
