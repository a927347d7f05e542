-- `stream::survey_of` meets its contract. Assumes nothing.
use Rattle.stream.proofs.Laws.Count.{Surveyed-first}
use Rattle.stream.proofs.survey_of.Goals as goal

pub loop-record-init : goal.loop-record-init
loop-record-init c = Surveyed-first c.args.words.now _ cc
