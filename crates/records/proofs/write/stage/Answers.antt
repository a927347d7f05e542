-- `records::write::stage` meets its contract: with room the bytes lie behind what was there, and past the end nothing is laid.
-- Assumes nothing.
use mathlib.Core.Path.{sym, ap, ◌∙◌}
use native.Mathlib.Omega.{arith}
use lib.ListN.{length}
use Rattle.table.specs.Buffers.{low_bytes}
use Rattle.table.proofs.Laws.Buffers.{length_over, over-full, over-rest}
use Rattle.records.proofs.write.stage.Goals as goal

pub returns-then-names-mark : goal.returns-then-names-mark
returns-then-names-mark c =
    λ xs b is-names is-mark. is-names ∙ sym (over-full xs (low_bytes c.args.fields.now) b
    (omega (arith, ap length is-names, length_over xs b)))

pub returns : goal.returns
returns c =
    λ xs b is-names is-mark. over-rest xs b c.args.names.now _ c.args.mark is-mark
    (omega (arith, ap length is-names, length_over xs b)) (low_bytes c.args.fields.now) is-names
    c.put_bytes.ensures
