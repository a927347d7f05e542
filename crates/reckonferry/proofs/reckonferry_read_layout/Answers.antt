-- `reckonferry::reckonferry_read_layout` meets its contract: the answer as words, and the layout over zeros.
-- Assumes nothing.
use Rattle.reckonferry.proofs.Laws.Library.{ReadsLayout-of-laid}
use Rattle.reckonferry.proofs.reckonferry_read_layout.Goals as goal

pub returns : goal.returns
returns c = ReadsLayout-of-laid _ _ _ _ _ _ c.read_layout-laid.ensures (rw c.layout_answer.ensures at c.put_answer.ensures)
