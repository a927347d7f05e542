-- `table::buffer::put_bytes` meets its contract. The invariant: the first i of the words' low bytes lie over the front of the rest.
-- Assumes nothing.
use Rattle.table.specs.Buffers.{low_bytes}
use Rattle.table.proofs.Laws.Buffers.{Laid}
use Rattle.table.proofs.buffer.put_bytes.Given as goal

abbrev pub invariant-loop-i : goal.invariant-loop-i
invariant-loop-i l = Laid (low_bytes l.src) l.initial.rest l.i l.rest
