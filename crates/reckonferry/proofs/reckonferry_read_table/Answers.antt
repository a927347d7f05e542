-- `reckonferry::reckonferry_read_table` meets its contract: what the reader leaves, and its answer as words.
-- Assumes nothing.
use Rattle.ferry.specs.Reader.{lent_by}
use Rattle.reckonferry.proofs.Laws.Library.{ReadsTable-of-read}
use Rattle.reckonferry.proofs.reckonferry_read_table.Goals as goal

pub returns : goal.returns
returns c =
    let args = c.args in
    let lent = lent_by args.rows.now args.refs.now args.names.now args.witness.now in
    ReadsTable-of-read args.words.now lent _ _ _ _ _ args.answer.now _ c.read_table-a.ensures c.put_answer.ensures
