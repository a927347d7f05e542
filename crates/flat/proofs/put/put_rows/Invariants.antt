-- `flat::put::put_rows` meets its contract: the count, kept to the room, then the words of so many rows behind it.
-- The invariant: those of the first i rows lie behind the count. Assumes nothing.
use Prim.Native.Nat.{◌+◌}
use Rattle.flat.proofs.Laws.Puts.{Filled}
use Rattle.flat.proofs.put.put_rows.Given as goal

abbrev pub invariant-loop-i : goal.invariant-loop-i
invariant-loop-i g l = Filled (g.R.Words.words_of) g.row.WIDE (g.met.R.Words.wide) l.rows (l.at + 1) l.initial.out l.i l.out
