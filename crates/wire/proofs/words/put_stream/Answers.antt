-- `wire::words::put_stream`: each turn lays one word more, up to the end of either.
use Rattle.std.proofs.Common.{arith, ◌∙◌}
use Rattle.table.proofs.Laws.Buffers.{Laid-more, Laid-ended}
use Rattle.wire.specs.Words.{words_in}
use Rattle.wire.proofs.Laws.Words.{length-words_in, word-joined}
use Rattle.wire.proofs.words.put_stream.Goals as goal

pub loop-i-preserved : goal.loop-i-preserved
loop-i-preserved c =
    let long = length-words_in c.args.bytes.now in
    Laid-more (words_in c.args.bytes.now) c.args.words.now c.loop-i.i _ c.loop-i.words c.loop-i.invariant (omega arith) (omega arith)
    (c.from_le_bytes.ensures ∙ rw c.as_chunks.ensures.front (word-joined c.args.bytes.now c.loop-i.i (λ k. omega (arith, c.type_inv.bytes k)) (omega arith)))

pub returns-after-loop-i : goal.returns-after-loop-i
returns-after-loop-i c =
    let long = length-words_in c.args.bytes.now in
    Laid-ended (words_in c.args.bytes.now) c.args.words.now c.loop-i.i c.loop-i.words c.loop-i.invariant (omega arith)

pub returns-then-i-words : goal.returns-then-i-words
returns-then-i-words c =
    Laid-ended (words_in c.args.bytes.now) c.args.words.now c.loop-i.i c.loop-i.words c.loop-i.invariant (omega arith)
