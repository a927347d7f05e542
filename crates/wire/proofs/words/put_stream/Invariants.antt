-- `wire::words::put_stream`: the first i words of the bytes lie over the front of the buffer.
use Rattle.table.proofs.Laws.Buffers.{Laid}
use Rattle.wire.specs.Words.{words_in}
use Rattle.wire.proofs.words.put_stream.Given as goal

abbrev pub invariant-loop-i : goal.invariant-loop-i
invariant-loop-i l = Laid (words_in l.bytes) l.initial.words l.i l.words
