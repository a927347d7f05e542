-- `datalayout::map::apply_specs` meets its contract. The invariant is `Going`: before the spec all is ASCII, and from the layout that stands
-- what is left of the specs gives what all of them give. Each answer is one law of Laws/Sweep.antt.
-- Assumes nothing.
use mathlib.Core.Path.{◌≡◌, ap, ◌∙◌}
use mathlib.Core.List.{List}
use Prim.Native.Nat.{ℕ, ◌+◌, ◌-◌, ◌≤◌, ◌<◌, min}
use native.Mathlib.Omega.{arith}
use lib.ListN.{get_or, take, drop}
use borrow.Author.Rules.{rules}
use Rattle.std.proofs.Common.{Result, Ok}
use Rattle.layout.specs.declared.record.DataLayout.{DataLayout}
use Rattle.fields.specs.Parts.{dash, end_of}
use Rattle.fields.specs.declared.numbers.Fault.{Fault}
use Rattle.spec.specs.declared.spec.Spec.{Spec}
use Rattle.spec.specs.Specs.{spec_in}
use Rattle.datalayout.specs.declared.apply.Applied.{Applied}
use Rattle.datalayout.specs.Apply.{applied}
use Rattle.datalayout.specs.Strings.{ascii_up_to}
use Rattle.datalayout.proofs.Laws.Sweep.{Going, Going-first}
use Rattle.datalayout.proofs.Laws.Sweep.{Stopped, Stopped-within, Stopped-encoded, Stopped-encoded-later}
use Rattle.datalayout.proofs.Laws.Sweep.{Ended, Ended-refused, Ended-done, Ended-more}
use Rattle.datalayout.proofs.map.apply_specs.Goals as goal

-- the search has stopped
stopped : {s : List ℕ} {layout : DataLayout} {at end : ℕ} → Going s layout at
    → end ≡ min (end_of dash s at) (at + ascii_up_to (drop at s)) → Stopped s layout at end
stopped going is = record { going = going; is = is }

-- the spec that it found is applied
ended : {s : List ℕ} {layout : DataLayout} {at end : ℕ} {read : Result Spec Fault} {next : Applied} → Stopped s layout at end
    → get_or s end 0 < 128 → read ≡ spec_in (take (end - at) (drop at s)) → next ≡ applied layout read
    → Ended s layout at end next
ended {layout = layout} stop byte said made = record { stopped = stop; byte = byte; made = made ∙ ap (applied layout) said }

pub loop-layout-init : goal.loop-layout-init
loop-layout-init c = rw c.default_layout-layout.ensures (Going-first c.args.value.now)

pub returns-then-not-is_ascii : goal.returns-then-not-is_ascii
returns-then-not-is_ascii c =
    let encoded : 128 ≤ get_or c.args.value.now c.ascii_part_end-end.result 0 = search rules in
    Stopped-encoded (stopped c.loop-layout.invariant c.ascii_part_end-end.ensures) encoded

pub slice_bounds-read_spec-end : goal.slice_bounds-read_spec-end
slice_bounds-read_spec-end c = (Stopped-within (stopped c.loop-layout.invariant c.ascii_part_end-end.ensures)).1

pub returns-then-bad-value : goal.returns-then-bad-value
returns-then-bad-value c =
    let call = c.ascii_end-bad in
    Stopped-encoded-later (stopped c.loop-layout.invariant c.ascii_part_end-end.ensures) call.result call.ensures
    c.if-bad-value.true

pub returns-in-Err : goal.returns-in-Err
returns-in-Err c =
    let byte : get_or c.args.value.now c.ascii_part_end-end.result 0 < 128 = search rules in
    let turn = ended (stopped c.loop-layout.invariant c.ascii_part_end-end.ensures) byte c.read_spec.ensures
    c.apply-applied.ensures in
    Ended-refused turn _ c.in-Err.is (omega arith)

pub returns-then-end-value : goal.returns-then-end-value
returns-then-end-value c =
    let byte : get_or c.args.value.now c.ascii_part_end-end.result 0 < 128 = search rules in
    let turn = ended (stopped c.loop-layout.invariant c.ascii_part_end-end.ensures) byte c.read_spec.ensures
    c.apply-applied.ensures in
    let done : c.apply-applied.result.outcome ≡ Ok tt = search rules in
    Ended-done turn done c.if-end-value.true

pub overflow_add-at : goal.overflow_add-at
overflow_add-at c = omega (arith, Stopped-within (stopped c.loop-layout.invariant c.ascii_part_end-end.ensures))

pub loop-layout-smaller : goal.loop-layout-smaller
loop-layout-smaller c = omega (arith, Stopped-within (stopped c.loop-layout.invariant c.ascii_part_end-end.ensures))

pub loop-layout-preserved : goal.loop-layout-preserved
loop-layout-preserved c =
    let byte : get_or c.args.value.now c.ascii_part_end-end.result 0 < 128 = search rules in
    let turn = ended (stopped c.loop-layout.invariant c.ascii_part_end-end.ensures) byte c.read_spec.ensures
    c.apply-applied.ensures in
    let done : c.apply-applied.result.outcome ≡ Ok tt = search rules in
    Ended-more turn done c.if-end-value.false
