-- `fields::parts::first_part` meets its contract, by where the part ends and whether anything stands behind.
-- Assumes nothing.
use mathlib.Core.Path.{sym}
use Prim.Native.Nat.{zero-le}
use native.Mathlib.Omega.{arith}
use Rattle.std.proofs.Common.{length-take-le}
use Rattle.fields.proofs.Laws.Parts.{end_of-bound, parts_of-split}
use Rattle.fields.proofs.parts.first_part.Goals as goal

pub slice_bounds-result-end : goal.slice_bounds-result-end
slice_bounds-result-end c =
    let bound = end_of-bound c.args.separator c.args.s.now 0 c.part_end-end.result zero-le c.part_end-end.ensures in
    sym (length-take-le _ _ bound.1)

pub overflow_add-end : goal.overflow_add-end
overflow_add-end c =
    let bound = end_of-bound c.args.separator c.args.s.now 0 c.part_end-end.result zero-le c.part_end-end.ensures in
    omega arith

pub returns : goal.returns
returns c = parts_of-split c.args.separator c.args.s.now c.part_end-end.result c.part_end-end.ensures c.get.result c.get.ensures.lookup.0
