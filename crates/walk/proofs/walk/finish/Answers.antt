-- `walk::walk::finish` meets its contract: the rank is stored where the rule is kept.
-- Assumes nothing.
use Rattle.std.proofs.Common.{sym, ◌∙◌}
use Rattle.rules.specs.Lawful.{rule_at}
use Rattle.walk.proofs.Laws.Walk.{verdict_of-ok, finish-kept}
use Rattle.walk.proofs.walk.finish.Goals as goal

pub returns : goal.returns
returns c =
    let s = c.args in
    finish-kept s.marks.now s.e s.rank (rule_at s.table.now.rows.now s.table.now.refs.now s.e)
    (sym c.judge.ensures ∙ verdict_of-ok c.judge.result (sym c.in_ok-map_err.ensures.variant))
