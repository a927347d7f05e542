-- `flat::put::put_behind` meets its contract: with room the words lie behind what was there, and past the end nothing is laid.
-- Assumes nothing.
use mathlib.Core.Path.{sym, ap, ◌∙◌}
use native.Mathlib.Omega.{arith}
use lib.ListN.{length}
use Rattle.table.proofs.Laws.Buffers.{length_over, over-full, over-rest}
use Rattle.flat.proofs.put.put_behind.Goals as goal

pub returns-then-out-at : goal.returns-then-out-at
returns-then-out-at c = λ xs b is-out is_at. is-out ∙ sym (over-full xs c.args.src.now b (omega (arith, ap length is-out, length_over xs b)))

pub returns : goal.returns
returns c =
    λ xs b is-out is_at. over-rest xs b c.args.out.now _ c.args.at is_at
    (omega (arith, ap length is-out, length_over xs b)) c.args.src.now is-out c.put_words.ensures
