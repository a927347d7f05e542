-- `table::buffer::put_words` meets its contract.
-- Assumes nothing.
use Rattle.std.proofs.Common.{◌<◌, ◌≤◌, length, min, arith, length-take}
use Rattle.std.proofs.lemmas.List.{get_or-take}
use Rattle.table.proofs.Laws.Buffers.{Laid-more, Laid-ended}
use Rattle.table.proofs.buffer.put_words.Goals as goal

pub loop-i-preserved : goal.loop-i-preserved
loop-i-preserved c =
    let src = c.args.src.now in
    let i = c.loop-i.i in
    let in_count : i < min c.min-count.result (length src) = rw length-take at c.loop-i-test.true in
    Laid-more src c.args.rest.now i _ c.loop-i.rest c.loop-i.invariant (omega arith) (omega arith)
    (get_or-take c.min-count.result src i 0 (omega arith))

pub returns : goal.returns
returns c =
    let src = c.args.src.now in
    let past : min c.min-count.result (length src) ≤ c.loop-i.i = rw length-take at c.loop-i-test.false in
    Laid-ended src c.args.rest.now c.loop-i.i c.loop-i.rest c.loop-i.invariant (omega arith)
