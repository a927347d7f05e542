-- `table::buffer::put_bytes` meets its contract.
-- Assumes nothing.
use Rattle.std.proofs.Common.{sym, ◌∙◌, ap, ◌%◌, ℕ, ◌<◌, ◌≤◌, length, min, arith, length-take}
use Rattle.std.proofs.lemmas.List.{get_or-take}
use Rattle.table.specs.Buffers.{low_bytes}
use Rattle.table.proofs.Laws.Buffers.{Laid-more, Laid-ended, length-low_bytes, getD-low_bytes}
use Rattle.table.proofs.buffer.put_bytes.Goals as goal

pub loop-i-preserved : goal.loop-i-preserved
loop-i-preserved c =
    let src = c.args.src.now in
    let i = c.loop-i.i in
    let long = length-low_bytes src in
    let in_count : i < min c.min-count.result (length src) = rw length-take at c.loop-i-test.true in
    Laid-more (low_bytes src) c.args.rest.now i _ c.loop-i.rest c.loop-i.invariant (omega arith) (omega arith)
    (ap (λ (n : ℕ). n % 256) (get_or-take c.min-count.result src i 0 (omega arith)) ∙ sym (getD-low_bytes src i))

pub returns : goal.returns
returns c =
    let src = c.args.src.now in
    let long = length-low_bytes src in
    let past : min c.min-count.result (length src) ≤ c.loop-i.i = rw length-take at c.loop-i-test.false in
    Laid-ended (low_bytes src) c.args.rest.now c.loop-i.i c.loop-i.rest c.loop-i.invariant (omega arith)
