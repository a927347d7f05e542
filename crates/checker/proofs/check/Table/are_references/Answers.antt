-- `checker::check::Table::are_references` meets its contract: `all` over the references with their numbers.
-- Assumes nothing.
use Rattle.std.proofs.Common.{ℕ, ◌∙◌, rules, tests}
use Rattle.std.proofs.lemmas.Iterator.{YieldsList-from_slice}
use Rattle.std.proofs.lemmas.Iterator.Consumers.{YieldsList-from_enumerate}
use Rattle.std.proofs.lemmas.Iterator.Search.{all_from_yields_List}
use Rattle.checker.specs.Checked.{refers}
use Rattle.checker.proofs.Laws.Checked.{every_from-enumerate}
use Rattle.checker.proofs.check.Table.are_references.Goals as goal

pub returns : goal.returns
returns c =
    let s = c.args.self.now in
    let test = refers s.rows.now s.ranks.now s.count c.args.e.0 in
    all_from_yields_List (λ (p : ℕ × ℕ). test p.0 p.1) _ _ _ c.all.ensures.ran
    (YieldsList-from_enumerate (YieldsList-from_slice c.args.stretch.now (cc)) (cc)) (λ x b q k. search (rules, tests))
    ∙ every_from-enumerate test 0 c.args.stretch.now
