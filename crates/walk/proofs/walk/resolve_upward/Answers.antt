-- `walk::walk::resolve_upward` meets its contract.
-- Assumes nothing.
use Rattle.std.proofs.Common.{length}
use Rattle.std.proofs.lemmas.Result.{err_from_is_err_and}
use Rattle.walk.proofs.Laws.Pass.{Passing-first, Passing-done, Passing-stops, Passing-more}
use Rattle.walk.proofs.walk.resolve_upward.Goals as goal

pub loop-e-init : goal.loop-e-init
loop-e-init c = Passing-first c.args.table.now.rows.now c.args.table.now.refs.now c.args.marks.now c.requires.few c.requires.fresh

pub loop-e-preserved : goal.loop-e-preserved
loop-e-preserved c =
    let s = c.args in
    Passing-more s.table.now.rows.now s.table.now.refs.now s.marks.now (length s.marks.now) c.loop-e.marks c.loop-e.e c.loop-e.invariant
    c.loop-e-test.true c.resolve_entry.new.marks c.in_ok-resolve_entry.field-0 c.resolve_entry.auto.marks c.in_ok-resolve_entry.ensures

pub returns-in_err-resolve_entry : goal.returns-in_err-resolve_entry
returns-in_err-resolve_entry c =
    let s = c.args in
    let p = err_from_is_err_and c.from_residual.result c.from_residual.ensures.1 in
    rw (p.1, p.2)
    (Passing-stops s.table.now.rows.now s.table.now.refs.now s.marks.now (length s.marks.now) c.loop-e.marks c.loop-e.e c.loop-e.invariant
    c.loop-e-test.true c.resolve_entry.new.marks c.in_err-resolve_entry.field-0.0 c.in_err-resolve_entry.ensures)

pub returns : goal.returns
returns c =
    let s = c.args in
    Passing-done s.table.now.rows.now s.table.now.refs.now s.marks.now (length s.marks.now) c.loop-e.marks c.loop-e.e c.loop-e.invariant
    c.loop-e-test.false
