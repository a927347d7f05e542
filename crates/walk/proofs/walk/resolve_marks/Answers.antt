-- `walk::walk::resolve_marks` meets its contract: the ranks, the ring as it was written, or zeros.
-- Assumes nothing.
use Rattle.std.proofs.Common.{length}
use Rattle.walk.proofs.Laws.Witness.{resolves-accepted, resolves-refused}
use Rattle.walk.proofs.walk.resolve_marks.Goals as goal

pub returns-in-Ok : goal.returns-in-Ok
returns-in-Ok c =
    let s = c.args in
    let call = c.resolve_upward in
    resolves-accepted s.table.now.rows.now s.table.now.refs.now (length s.marks.now) call.new.marks call.auto.marks c.in-Ok.ensures
    c.settle.new.marks c.settle.ensures

pub returns-in-Err-Refused : goal.returns-in-Err-Refused
returns-in-Err-Refused c =
    let s = c.args in
    let call = c.resolve_upward in
    let why = c.in-Err-Refused in
    resolves-refused s.table.now.rows.now s.table.now.refs.now (length s.marks.now) call.new.marks call.auto.marks why.entry why.fault
    (rw why.field-0-is at why.ensures) c.fill.new.self (c.fill.ensures.after (λ y e. e))
