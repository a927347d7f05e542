-- `stream::survey_of` meets its contract. The invariant, `Surveyed`: what is stated comes of the NumEntry records that were seen, these
-- with those that are left are those of the whole, and the framing of the whole is that of what is left. Assumes nothing.
use Rattle.stream.specs.Stream.{left}
use Rattle.stream.proofs.Laws.Count.{Surveyed}
use Rattle.stream.proofs.survey_of.Given as goal

abbrev pub invariant-loop-record : goal.invariant-loop-record
invariant-loop-record l = Surveyed l.words (left l.record-iterator) l.stated
