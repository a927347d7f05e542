-- `flat::moves::shift` meets its contract: the words moved up over zeros, or down with the freed places cleared.
-- Assumes nothing.
use native.Mathlib.Omega.{arith}
use borrow.Author.Rules.{rules}
use Rattle.flat.proofs.Laws.Shifts.{Shifts-none, Shifts-up, Shifts-down}
use Rattle.flat.proofs.moves.shift.Goals as goal

pub returns-then-from-to : goal.returns-then-from-to
returns-then-from-to c =
    let args = c.args in
    λ a words is is-from is-end.
    Shifts-none args.from args.end args.to args.out.now a words is is-from is-end (omega arith) (omega arith)
    (omega arith)

pub returns-then-freed-end : goal.returns-then-freed-end
returns-then-freed-end c =
    let args = c.args in
    λ a words is is-from is-end.
    Shifts-down args.from args.end args.to args.out.now a words is is-from is-end (omega arith) (omega arith)
    _ _ _ (omega arith) (omega arith) c.copy_within.ensures.after (search rules)

pub returns-else-freed-end : goal.returns-else-freed-end
returns-else-freed-end c =
    let args = c.args in
    λ a words is is-from is-end.
    Shifts-up args.from args.end args.to args.out.now a words is is-from is-end (omega arith) (omega arith)
    _ (omega arith) c.copy_within.ensures.after
