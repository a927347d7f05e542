-- `utf8::is_ascii` meets its contract.
-- Assumes nothing.
use Rattle.std.proofs.Common.{◌≡◌, fold, bit_or, rules}
use borrow.Author.Tests.{ltb-true}
use Rattle.utf8.proofs.Laws.Utf8.{joined-ascii}
use Rattle.utf8.proofs.is_ascii.Goals as goal

pub returns : goal.returns
returns c = λ h.
    let e : c.fold.result ≡ fold (λ a b. bit_or a b) 0 c.args.text.now = search rules in
    (joined-ascii 0 c.args.text.now (rw (← e) (ltb-true c.fold.result 128 h))).1
