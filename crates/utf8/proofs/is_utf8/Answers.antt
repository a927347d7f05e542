-- `utf8::is_utf8` meets its contract.
-- Assumes nothing.
use Rattle.std.proofs.Common.{sym, ◌∙◌, suc, drop, []}
use lib.ListN.{drop_of_length-le}
use lib.Seq.{drop-cons}
use Rattle.utf8.proofs.Laws.Utf8.{pays-nowhere, pays-done}
use Rattle.utf8.proofs.is_utf8.Goals as goal

pub returns-in_default : goal.returns-in_default
returns-in_default c =
    let text = c.args.text.now in
    let i = c.loop-byte.byte-index in
    let left = drop (suc i) text in
    sym (c.loop-byte.invariant ∙ rw (drop-cons text i 0 c.loop-byte-test.true) (sym (c.in_default.ensures left) ∙ pays-nowhere [] left))

pub returns : goal.returns
returns c =
    let text = c.args.text.now in
    pays-done c.loop-byte.o ∙ sym (c.loop-byte.invariant ∙ rw (drop_of_length-le text {i = c.loop-byte.byte-index} c.loop-byte-test.false))
