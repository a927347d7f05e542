-- `ferry::program::answer_to` meets its contract: the words of the input fit the buffer, and are lent from its front.
-- Assumes nothing.
use mathlib.Core.Path.{sym, ap, ◌∙◌}
use Prim.Native.Nat.{ℕ}
use native.Mathlib.Omega.{arith}
use lib.ListN.{length, replicate, length-replicate}
use Rattle.wire.proofs.Laws.Words.{length-words_in}
use Rattle.ferry.proofs.Laws.Program.{Lies-of-stream, answer_to-of-read}
use Rattle.ferry.proofs.program.answer_to.Goals as goal

pub slice_bounds-words-end : goal.slice_bounds-words-end
slice_bounds-words-end c =
    let lies = Lies-of-stream c.args.input.now (replicate 8192 0) _ (length-replicate {A = ℕ} 8192 0) c.requires c.put_stream.ensures in
    omega (arith, lies.fits, lies.long)

pub slice_bounds-read_table-end : goal.slice_bounds-read_table-end
slice_bounds-read_table-end c =
    let lies = Lies-of-stream c.args.input.now (replicate 8192 0) _ (length-replicate {A = ℕ} 8192 0) c.requires c.put_stream.ensures in
    sym (ap length lies.words ∙ length-words_in c.args.input.now)

pub returns : goal.returns
returns c =
    let lies = Lies-of-stream c.args.input.now (replicate 8192 0) _ (length-replicate {A = ℕ} 8192 0) c.requires c.put_stream.ensures in
    answer_to-of-read c.args.input.now _ (replicate 8192 0) (replicate 8192 0) (replicate 8192 0) (replicate 1024 0) _ lies.words
    (length-replicate {A = ℕ} 8192 0) (length-replicate {A = ℕ} 8192 0) (length-replicate {A = ℕ} 8192 0) (length-replicate {A = ℕ} 1024 0)
    c.read_table.ensures.answer
