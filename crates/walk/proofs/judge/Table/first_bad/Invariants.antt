-- `walk::judge::Table::first_bad` meets its contract: what is left of the stretch says what the whole says.
-- Assumes nothing.
use Rattle.std.proofs.Common.{◌≡◌, drop}
use Rattle.rules.specs.Lawful.{first_bad}
use Rattle.walk.proofs.judge.Table.first_bad.Given as goal

abbrev pub invariant-loop-i : goal.invariant-loop-i
invariant-loop-i l = first_bad l.self.rows.now l.kind 0 l.stretch ≡ first_bad l.self.rows.now l.kind l.i (drop l.i l.stretch)
