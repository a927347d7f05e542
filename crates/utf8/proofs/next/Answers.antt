-- `utf8::next` meets its contract, by a law for each way out. Assumes nothing.
use Rattle.std.proofs.Common.{arith, rules}
use Rattle.utf8.proofs.Laws.Utf8.{pays-lead, pays-missed, pays-next}
use Rattle.utf8.proofs.next.Goals as goal

pub returns-then-o-eq0 : goal.returns-then-o-eq0
returns-then-o-eq0 c = λ s. pays-lead c.args.o c.args.byte s c.rest_of.result (omega arith) c.rest_of.ensures

pub returns-then-not-contains : goal.returns-then-not-contains
returns-then-not-contains c =
    let a = c.args in
    λ s. pays-missed a.o a.byte s c.if-o-eq0.false (search rules)

pub returns : goal.returns
returns c =
    let a = c.args in
    λ s. pays-next a.o a.byte s c.if-o-eq0.false (search rules) (search rules) c.owes.ensures
