-- `ferry::program::run` meets its contract: a stream is read and its answer written, and anything else counts as 1, 0, 0.
-- Assumes nothing.
use mathlib.Core.Path.{sym, ◌∙◌}
use Rattle.ferry.proofs.program.run.Goals as goal

pub answer_to-requires : goal.answer_to-requires
answer_to-requires c = sym c.is_stream.ensures ∙ c.if-is_stream.true

pub returns-else-is_stream-clause-line : goal.returns-else-is_stream-clause-line
returns-else-is_stream-clause-line c = c.refused_line.ensures.line ∙ rw (sym c.is_stream.ensures ∙ c.if-is_stream.false)

pub returns-else-is_stream-clause-text : goal.returns-else-is_stream-clause-text
returns-else-is_stream-clause-text c = c.refused_line.ensures.text ∙ rw (sym c.is_stream.ensures ∙ c.if-is_stream.false)
