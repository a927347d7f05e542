-- `walk::walk::resolve_entry` and `walk::walk::resolve_stretch` meet their contracts: each goal that is no sum or range cites a law.
-- Assumes nothing.
use Rattle.std.proofs.Common.{refl, arith}
use Rattle.std.proofs.lemmas.Result.{err_from_is_err_and}
use Rattle.walk.proofs.Laws.Ready.{Fresh, fresh-fewer, ready-begun}
use Rattle.walk.proofs.Laws.Calls.{called, entry_known, entry-met, entry-finished, entry-ring, entry-refused}
use Rattle.walk.proofs.Laws.Walking.{asked, Walking-first, Walking-done, Walking-range, Walking-past, Walking-known, Walking-stops, Walking-more}
use Rattle.walk.proofs.walk.+resolve_entry_resolve_stretch.Goals as goal

-- an entry that is finished
pub resolve_entry-returns-then-mark-ge-FINISHED : goal.resolve_entry-returns-then-mark-ge-FINISHED
resolve_entry-returns-then-mark-ge-FINISHED t c = entry_known c.requires.ready (omega arith)

-- an entry of the path
pub resolve_entry-returns-then-mark-ne0 : goal.resolve_entry-returns-then-mark-ne0
resolve_entry-returns-then-mark-ne0 t c =
    entry-met c.requires.ready (omega arith) c.if-mark-ne0.true (c.fill.ensures.after (λ y e. e)) c.saturating_sub.ensures

-- a new entry
pub resolve_entry-resolve_stretch-requires : goal.resolve_entry-resolve_stretch-requires
resolve_entry-resolve_stretch-requires t c =
    let h : Fresh c.args.marks.now c.args.depth c.args.e =
    record { lt = c.requires.within; new = c.if-mark-ne0.false; ready = c.requires.ready } in
    (omega (arith, fresh-fewer h, c.decreases), ready-begun h)

pub resolve_entry-returns-in-Ok : goal.resolve_entry-returns-in-Ok
resolve_entry-returns-in-Ok t c =
    entry-finished
    (called (record { lt = c.requires.within; new = c.if-mark-ne0.false; ready = c.requires.ready }) c.row.ensures
    c.references-stretch.ensures c.resolve_stretch.auto.marks c.in-Ok.ensures)
    c.finish.ensures

pub resolve_entry-returns-in-Err-Ring : goal.resolve_entry-returns-in-Err-Ring
resolve_entry-returns-in-Err-Ring t c =
    entry-ring
    (called (record { lt = c.requires.within; new = c.if-mark-ne0.false; ready = c.requires.ready }) c.row.ensures
    c.references-stretch.ensures c.resolve_stretch.auto.marks (rw c.in-Err-Ring.field-0-is at c.in-Err-Ring.ensures))
    c.enter_ring.ensures

pub resolve_entry-returns-in-Err-Refused : goal.resolve_entry-returns-in-Err-Refused
resolve_entry-returns-in-Err-Refused t c =
    entry-refused
    (called (record { lt = c.requires.within; new = c.if-mark-ne0.false; ready = c.requires.ready }) c.row.ensures
    c.references-stretch.ensures c.resolve_stretch.auto.marks (rw c.in-Err-Refused.field-0-is at c.in-Err-Refused.ensures))

-- a reference out of range
pub resolve_stretch-loop-to-init : goal.resolve_stretch-loop-to-init
resolve_stretch-loop-to-init t c = Walking-first c.requires.ready

pub resolve_stretch-returns-then-marks-k : goal.resolve_stretch-returns-then-marks-k
resolve_stretch-returns-then-marks-k t c = Walking-range c.loop-to.invariant c.loop-to-test.true c.if-marks-k.true

-- one that does not count
pub resolve_stretch-loop-to-preserved-then-not-counts : goal.resolve_stretch-loop-to-preserved-then-not-counts
resolve_stretch-loop-to-preserved-then-not-counts t c =
    Walking-past
    (asked c.loop-to.invariant c.loop-to-test.true c.if-marks-k.false c.row.ensures c.row-in-loop-to.ensures
    c.counts.ensures c.if-not-counts.true)

-- one to an entry that is finished
pub resolve_stretch-loop-to-preserved-then-known-ge-FINISHED : goal.resolve_stretch-loop-to-preserved-then-known-ge-FINISHED
resolve_stretch-loop-to-preserved-then-known-ge-FINISHED t c =
    Walking-known
    (asked c.loop-to.invariant c.loop-to-test.true c.if-marks-k.false c.row.ensures c.row-in-loop-to.ensures
    c.counts.ensures c.if-not-counts.false)
    c.if-known-ge-FINISHED.true c.above-best.ensures

-- one whose entry is walked
pub resolve_stretch-loop-to-preserved : goal.resolve_stretch-loop-to-preserved
resolve_stretch-loop-to-preserved t c =
    Walking-more
    (asked c.loop-to.invariant c.loop-to-test.true c.if-marks-k.false c.row.ensures c.row-in-loop-to.ensures
    c.counts.ensures c.if-not-counts.false)
    c.in_ok-rank.ensures c.above-best-in-loop-to.ensures c.resolve_entry.auto.marks

pub resolve_stretch-returns-in_err-rank : goal.resolve_stretch-returns-in_err-rank
resolve_stretch-returns-in_err-rank t c =
    let p = err_from_is_err_and c.from_residual.result c.from_residual.ensures.1 in
    rw (p.1, p.2)
    (Walking-stops
    (asked c.loop-to.invariant c.loop-to-test.true c.if-marks-k.false c.row.ensures c.row-in-loop-to.ensures
    c.counts.ensures c.if-not-counts.false)
    c.in_err-rank.ensures)

-- no reference is left
pub resolve_stretch-returns : goal.resolve_stretch-returns
resolve_stretch-returns t c = Walking-done c.loop-to.invariant c.loop-to-test.false refl
