-- `flat::read::read_whole` meets its contract. The invariant is `Reading`: what is left of the specs gives what all of them give, from
-- a layout that the buffer holds. Each answer is a law of the sweep over the string (datalayout/proofs/Laws/Sweep.antt).
-- Assumes nothing.
use mathlib.Core.Path.{◌≡◌, refl, sym}
use mathlib.Core.List.{List}
use Prim.Native.Nat.{ℕ, ◌+◌, ◌-◌, ◌<◌, min}
use native.Mathlib.Omega.{arith}
use lib.ListN.{length, get_or, take, drop}
use borrow.Author.Rules.{rules}
use Rattle.std.proofs.Common.{Result, Ok, ◌≤◌}
use Rattle.fields.specs.declared.numbers.Fault.{Fault}
use Rattle.layout.specs.declared.record.DataLayout.{DataLayout}
use Rattle.fields.specs.Parts.{dash, end_of}
use Rattle.spec.specs.declared.spec.Spec.{Spec}
use Rattle.spec.specs.Specs.{spec_in}
use Rattle.datalayout.specs.Apply.{applied}
use Rattle.datalayout.specs.Promises.{Sound}
use Rattle.datalayout.specs.Strings.{ascii_up_to}
use Rattle.flat.specs.Held.{Held, Did}
use Rattle.flat.proofs.Laws.Reading.{Reading, Reading-first, Turn}
use Rattle.flat.proofs.Laws.Reading.{Reading-kept, Reading-within, Reading-encoded}
use Rattle.flat.proofs.Laws.Reading.{Turn-encoded, Turn-refused, Turn-done, Turn-more}
use Rattle.flat.proofs.read.read_whole.Goals as goal

-- the spec that the search found is applied
turn : {s out mid : List ℕ} {n at end : ℕ} {read : Result Spec Fault} {outcome : Result (Unit {0}) Fault} → Reading s n out at
    → end ≡ min (end_of dash s at) (at + ascii_up_to (drop at s)) → get_or s end 0 < 128
    → read ≡ spec_in (take (end - at) (drop at s))
    → ((l : DataLayout) → Sound l → Held l out → Did (applied l read) outcome mid) → length mid ≡ length out
    → Turn s n out at end outcome mid
turn reading is byte said did kept =
    record {
      reading = reading;
      is = is;
      byte = byte;
      did = rw (← said) (did reading.layout reading.sound reading.held);
      kept = kept;
    }

pub loop-out-init : goal.loop-out-init
loop-out-init c = Reading-first c.args.value.now (length c.start.new.out) c.start.new.out refl c.start.ensures

pub returns-then-not-is_ascii : goal.returns-then-not-is_ascii
returns-then-not-is_ascii c =
    let encoded : 128 ≤ get_or c.args.value.now c.ascii_part_end-end.result 0 = search rules in
    Reading-encoded c.loop-out.invariant c.ascii_part_end-end.ensures _ _ _ (sym c.start.auto.out) encoded c.refuse.ensures

pub slice_bounds-read_spec-end : goal.slice_bounds-read_spec-end
slice_bounds-read_spec-end c = (Reading-within c.loop-out.invariant c.ascii_part_end-end.ensures).1

pub apply-requires : goal.apply-requires
apply-requires c = Reading-kept c.loop-out.invariant

pub returns-then-bad-value : goal.returns-then-bad-value
returns-then-bad-value c =
    let s = c.args.value.now in
    let end = c.ascii_part_end-end.result in
    let byte : get_or s end 0 < 128 = search rules in
    let call = c.ascii_end-bad in
    Turn-encoded (turn c.loop-out.invariant c.ascii_part_end-end.ensures byte c.read_spec.ensures c.apply.ensures
    c.apply.auto.out) call.result _ _ _ (sym c.start.auto.out) call.ensures c.if-bad-value.true
    c.refuse-then-bad-value.ensures

pub returns-in-Err : goal.returns-in-Err
returns-in-Err c =
    let s = c.args.value.now in
    let end = c.ascii_part_end-end.result in
    let byte : get_or s end 0 < 128 = search rules in
    let call = c.ascii_end-bad in
    Turn-refused (turn c.loop-out.invariant c.ascii_part_end-end.ensures byte c.read_spec.ensures c.apply.ensures
    c.apply.auto.out) _ call.result _ _ _ (sym c.start.auto.out) c.in-Err.is call.ensures
    c.if-bad-value.false c.refuse-in-Err.ensures

pub returns-then-end-value : goal.returns-then-end-value
returns-then-end-value c =
    let s = c.args.value.now in
    let end = c.ascii_part_end-end.result in
    let byte : get_or s end 0 < 128 = search rules in
    let done : c.apply.result ≡ Ok tt = search rules in
    Turn-done (turn c.loop-out.invariant c.ascii_part_end-end.ensures byte c.read_spec.ensures c.apply.ensures
    c.apply.auto.out) done c.starts.result _ (sym c.start.auto.out) c.if-end-value.true c.starts.ensures

pub overflow_add-at : goal.overflow_add-at
overflow_add-at c = omega (arith, Reading-within c.loop-out.invariant c.ascii_part_end-end.ensures)

pub loop-out-smaller : goal.loop-out-smaller
loop-out-smaller c = omega (arith, Reading-within c.loop-out.invariant c.ascii_part_end-end.ensures)

pub loop-out-preserved : goal.loop-out-preserved
loop-out-preserved c =
    let s = c.args.value.now in
    let end = c.ascii_part_end-end.result in
    let byte : get_or s end 0 < 128 = search rules in
    let done : c.apply.result ≡ Ok tt = search rules in
    Turn-more (turn c.loop-out.invariant c.ascii_part_end-end.ensures byte c.read_spec.ensures c.apply.ensures
    c.apply.auto.out) done c.if-end-value.false
