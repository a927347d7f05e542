-- `walk::judge::Table::first_bad` meets its contract: what is left of the stretch says what the whole says.
-- Assumes nothing.
use Rattle.std.proofs.Common.{◌≡◌, None, sym, ◌∙◌, ap, true, get_or}
use Rattle.rules.specs.Places.{place_at, suits}
use Rattle.table.specs.declared.row.Row.{Row}
use Rattle.table.specs.Rows.{row_at}
use Rattle.walk.proofs.Laws.Judge.{first_bad-here, first_bad-past, first_bad-none}
use Rattle.walk.proofs.judge.Table.first_bad.Goals as goal
use Rattle.walk.proofs.judge.Table.first_bad.Goals.{else-not-may_stand-via-then-not-may_stand+in-None-1, else-not-may_stand-via-else-not-may_stand}

pub returns-in-loop-i : goal.returns-in-loop-i
returns-in-loop-i c =
    let s = c.args in
    first_bad-here s.self.now.rows.now s.kind c.loop-i.i s.stretch.now c.loop-i-test.true c.in-Some.ensures c.row-row.ensures
    (let bad = sym c.may_stand.ensures ∙ c.if-not-may_stand.true in rw c.in-Some.is at bad)
    ∙ sym c.loop-i.invariant

pub loop-i-preserved : goal.loop-i-preserved
loop-i-preserved c =
    let s = c.args in
    let ask : suits s.kind c.loop-i.i (row_at s.self.now.rows.now (get_or s.stretch.now c.loop-i.i 0)).kind ≡ true =
    elim c.else-not-may_stand.branch [
      | else-not-may_stand-via-then-not-may_stand+in-None-1 w ↦ let none : None ≡ place_at s.kind c.loop-i.i = cc in rw (← none)
      | else-not-may_stand-via-else-not-may_stand w ↦
          let kind_of = ap (λ (x : Row). x.kind) c.row-row.ensures in
          rw (← c.place_of-place.ensures, ← kind_of, ← c.may_stand.ensures, w.if-not-may_stand.false)
    ] in
    c.loop-i.invariant ∙ first_bad-past s.self.now.rows.now s.kind c.loop-i.i s.stretch.now c.loop-i-test.true ask

pub returns : goal.returns
returns c =
    let s = c.args in
    first_bad-none s.self.now.rows.now s.kind c.loop-i.i s.stretch.now c.loop-i-test.false ∙ sym c.loop-i.invariant
