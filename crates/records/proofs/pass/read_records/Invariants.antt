-- `records::pass::read_records` meets its contract. The invariant is `Reading`, of the records that the loop has left.
-- Assumes nothing.
use Rattle.std.specs.Iterator.Adapters.{enumerate_source, enumerate_count}
use Rattle.stream.specs.Stream.{left}
use Rattle.records.specs.Held.{buffers_of}
use Rattle.records.proofs.Laws.Reading.{Reading}
use Rattle.records.proofs.pass.read_records.Given as goal

abbrev pub invariant-loop-number : goal.invariant-loop-number
invariant-loop-number l =
    Reading l.words (buffers_of l.initial.rows l.initial.refs l.initial.names) l.entries (left (enumerate_source l.number-iterator))
    (enumerate_count l.number-iterator) l.f l.rows l.refs l.names
