-- `ferry::read::read_table` meets its contract: the first pass by its answer, then the second over what it left.
-- Assumes nothing.
use Rattle.ferry.specs.Reader.{lent_by}
use Rattle.ferry.proofs.Laws.Reader.{Reads-second, Reads-refused}
use Rattle.ferry.proofs.read.read_table.Goals as goal

pub returns-in-Ok : goal.returns-in-Ok
returns-in-Ok c =
    let a = c.args in
    let lent = lent_by a.rows.now a.refs.now a.names.now a.witness.now in
    Reads-second lent a.words.now _ _ _ c.read.result c.read.ensures c.in-Ok.entries c.second.result _ _ _ _
    c.in-Ok.is c.second.ensures

pub returns-in-Err : goal.returns-in-Err
returns-in-Err c =
    let a = c.args in
    let lent = lent_by a.rows.now a.refs.now a.names.now a.witness.now in
    Reads-refused lent a.words.now _ _ _ c.read.result c.read.ensures c.in-Err.error c.in-Err.is _ _
    c.from.ensures (c.fill.ensures.after (λ y e. e))
