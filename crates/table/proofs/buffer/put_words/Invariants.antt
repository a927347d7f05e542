-- `table::buffer::put_words` meets its contract. The invariant: the first i of the run lie over the front of the rest.
-- Assumes nothing.
use Rattle.table.proofs.Laws.Buffers.{Laid}
use Rattle.table.proofs.buffer.put_words.Given as goal

abbrev pub invariant-loop-i : goal.invariant-loop-i
invariant-loop-i l = Laid l.src l.initial.rest l.i l.rest
