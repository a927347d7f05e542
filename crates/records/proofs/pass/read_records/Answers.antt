-- `records::pass::read_records` meets its contract, by a law for each turn of the loop. Assumes nothing.
use mathlib.Core.Path.{◌∙◌, ap}
use Prim.Native.Nat.{ℕ}
use native.Mathlib.Omega.{arith}
use borrow.Author.Rules.{rules}
use Rattle.std.proofs.lemmas.Result.{err_from_is_err_and}
use Rattle.std.proofs.Common.{Err}
use Rattle.records.specs.declared.Error.TheVariants.{BadRecord}
use Rattle.records.specs.Held.{buffers_of}
use Rattle.records.proofs.Laws.Reading.{turn, Reading-first, Reading-ready, Reading-stop, Reading-more, mapped-ok, mapped-err}
use Rattle.records.proofs.pass.read_records.Goals as goal

pub loop-number-init : goal.loop-number-init
loop-number-init c =
    let a = c.args in
    let all = c.enumerate-number-items.ensures in
    let first = Reading-first a.words.now (buffers_of a.rows.now a.refs.now a.names.now) a.entries _ _ c.new.ensures c.default-f.ensures in
    rw (c.into_iter-number-iterator.ensures.into_iter_gives, all.source, all.count) first

pub take_record-requires : goal.take_record-requires
take_record-requires c =
    let t = turn c.loop-number.number-iterator c.next.new.self c.next.result c.in-Some.number c.in-Some.record c.next.ensures.steps c.in-Some.is in
    let inv = c.loop-number.invariant in
    let ok = c.in-Ok.is in
    Reading-ready c.args.words.now _ c.args.entries _ _ c.loop-number.f _ _ _ inv _ _ (rw ok at t.0) c.requires (omega arith)

pub returns-in_err-f : goal.returns-in_err-f
returns-in_err-f c =
    let t = turn c.loop-number.number-iterator c.next.new.self c.next.result c.in-Some.number c.in-Some.record c.next.ensures.steps c.in-Some.is in
    let inv = c.loop-number.invariant in
    let step = c.take_record in
    let ok = c.in-Ok.is in
    let p = err_from_is_err_and c.from_residual.result c.from_residual.ensures.1 in
    let m = mapped-err step.result c.map_err.result c.in-Some.number _ c.map_err.ensures.cases (λ d e h. search rules) _ c.in_err-f.was in
    let result = p.1 ∙ ap Err (p.2 ∙ m.2 ∙ ap (λ (k : ℕ). BadRecord k m.0) t.1) in
    Reading-stop c.args.words.now _ c.args.entries _ _ c.loop-number.f _ _ _ inv _ _ (rw ok at t.0)
    step.result _ _ _ (step.ensures.after _ inv.read inv.held inv.filled_is) m.0 m.1 _ result

pub loop-number-preserved : goal.loop-number-preserved
loop-number-preserved c =
    let t = turn c.loop-number.number-iterator c.next.new.self c.next.result c.in-Some.number c.in-Some.record c.next.ensures.steps c.in-Some.is in
    let inv = c.loop-number.invariant in
    let step = c.take_record in
    let ok = c.in-Ok.is in
    let count = t.2 in
    let kept = mapped-ok step.result c.map_err.result c.in-Some.number _ c.map_err.ensures.cases (λ d e h. search rules) _ c.in_ok-f.was in
    rw count (Reading-more c.args.words.now _ c.args.entries _ _ c.loop-number.f _ _ _ inv _ _ (rw ok at t.0)
    step.result _ _ _ (step.ensures.after _ inv.read inv.held inv.filled_is) c.in_ok-f.f kept step.ensures.mark)
