-- `walk::judge::Table::judge` meets its contract: the width's test, then the references.
-- Assumes nothing.
use Rattle.std.proofs.Common.{◌≡◌, sym, ◌∙◌, false, ◌&&◌, eqb, not}
use borrow.Author.Tests.{ne_eqb}
use Rattle.units.specs.Limits.{is_integer_width}
use Rattle.kinds.specs.Kinds.{integer}
use Rattle.walk.proofs.Laws.Judge.{rule_at-width, rule_at-refs}
use Rattle.walk.proofs.judge.Table.judge.Goals as goal
use Rattle.walk.proofs.judge.Table.judge.Goals.{else-row-from-via-then-row-from+else-not-is_integer_width, else-row-from-via-else-row-from}

pub returns-then-not-is_integer_width : goal.returns-then-not-is_integer_width
returns-then-not-is_integer_width c =
    rule_at-width c.args.self.now.rows.now c.args.self.now.refs.now c.args.e c.row-row.ensures (c.if-row-from.true ∙ c.from.ensures)
    (sym c.is_integer_width.ensures ∙ c.if-not-is_integer_width.true)

pub returns : goal.returns
returns c =
    let row = c.row-row.result in
    let test : eqb row.kind integer && not (is_integer_width row.number) ≡ false =
    elim c.else-row-from.branch [
      | else-row-from-via-then-row-from+else-not-is_integer_width w ↦
          rw (w.if-row-from.true ∙ c.from.ensures, sym w.is_integer_width.ensures ∙ w.if-not-is_integer_width.false)
      | else-row-from-via-else-row-from w ↦ rw (ne_eqb row.kind integer (λ q. w.if-row-from.false (q ∙ sym c.from.ensures)))
    ] in
    rule_at-refs c.args.self.now.rows.now c.args.self.now.refs.now c.args.e c.row-row.ensures test c.references.ensures c.first_bad.ensures
