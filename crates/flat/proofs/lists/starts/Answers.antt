-- `flat::lists::starts` meets its contract: each count is read where the part before it ends.
-- Assumes nothing.
use mathlib.Core.Path.{refl}
use Prim.Native.Nat.{◌+◌, ◌*◌}
use Rattle.flat.proofs.Laws.Held.{starts-are}
use Rattle.flat.proofs.lists.starts.Goals as goal

pub returns : goal.returns
returns c =
    let w = c.count_at.result in
    let n = c.count_at-2.result in
    let t = c.count_at-3.result in
    let p = c.count_at-4.result in
    λ l s h. starts-are l c.args.out.now h s w n t p (9 + 1 + w) (9 + 1 + w + 1 + n) (9 + 1 + w + 1 + n + 1 + t * 4)
    (9 + 1 + w + 1 + n + 1 + t * 4 + 1 + p * 5)
    c.count_at.ensures refl c.count_at-2.ensures refl c.count_at-3.ensures refl c.count_at-4.ensures refl
