-- `checker::check::Table::are_entries` meets its contract: one row more, the first that is bad, the end.
-- Assumes nothing.
use Rattle.std.proofs.Common.{◌≡◌, length, ◌+◌, ◌-◌, suc, sym, ◌∙◌, arith, add-one}
use Rattle.checker.specs.Checked.{rows_from}
use Rattle.checker.proofs.Laws.Checked.{entry_ok-fits}
use Rattle.checker.proofs.check.Table.are_entries.Goals as goal

pub returns-then-not-is_entry : goal.returns-then-not-is_entry
unfolding rows_from
returns-then-not-is_entry c =
    let left : c.args.self.now.count - c.loop-e.e ≡ suc (c.args.self.now.count - (c.loop-e.e + 1)) = omega arith in
    sym (c.loop-e.invariant.rest ∙ rw (left, ← c.is_entry.ensures, c.if-not-is_entry.true))

pub loop-e-preserved : goal.loop-e-preserved
unfolding rows_from
loop-e-preserved c =
    let s = c.args.self.now in
    let left : s.count - c.loop-e.e ≡ suc (s.count - (c.loop-e.e + 1)) = omega arith in
    let ok = sym c.is_entry.ensures ∙ c.if-not-is_entry.false in
    let fits = entry_ok-fits s.rows.now s.refs.now (length s.names.now) s.ranks.now s.count _ _ _ c.loop-e.invariant ok in
    record {
      refs_used = rw c.row_at-row.ensures fits.0;
      names_used = rw c.row_at-row.ensures fits.1;
      rest = c.loop-e.invariant.rest ∙ rw (left, ok, add-one, c.row_at-row.ensures);
    }

pub returns : goal.returns
unfolding rows_from
returns c =
    let none : c.args.self.now.count - c.loop-e.e ≡ 0 = omega arith in sym (c.loop-e.invariant.rest ∙ rw none)
