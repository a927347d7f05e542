-- Laws of `specs_from`, one for each way through a spec: the spec that ends at the next dash is the first of the parts that are left,
-- so that what it makes of the layout is where the others start.
-- Assumes nothing.
use mathlib.Core.Path.{◌≡◌}
use mathlib.Core.List.{List}
use Prim.Native.Nat.{ℕ, ◌+◌, ◌-◌, ◌≤◌}
use native.Mathlib.Omega.{arith}
use lib.ListN.{length, take, drop, length-drop}
use lib.Seq.{length-take-le}
use Rattle.std.proofs.Common.{Ok, Err}
use Rattle.layout.specs.declared.record.DataLayout.{DataLayout}
use Rattle.fields.specs.declared.numbers.Fault.{Fault}
use Rattle.fields.specs.Parts.{dash, parts_of, end_of}
use Rattle.fields.proofs.Laws.Parts.{end_of-bound, parts_of-last, parts_of-more, parts_of-head}
use Rattle.spec.specs.Specs.{spec_in}
use Rattle.datalayout.specs.declared.error.Error.TheVariants.{Refused}
use Rattle.datalayout.specs.declared.apply.Applied.{Applied}
use Rattle.datalayout.specs.declared.map.Mapped.{Mapped}
use Rattle.datalayout.specs.Apply.{applied}
use Rattle.datalayout.specs.Strings.{taken_with, refused_with, specs_from}

-- a turn at the spec from `at` to `end`, which made `next` of the layout
module _ (layout : DataLayout) (s : List ℕ) (at end : ℕ) (in-s : at ≤ length s) (is : end ≡ end_of dash s at) (next : Applied)
    (made : next ≡ applied layout (spec_in (take (end - at) (drop at s)))) where
  abbrev rest : Mapped
  rest = specs_from layout at (parts_of dash (drop at s))

  pub specs_from-refused : (fault : Fault) → next.outcome ≡ Err fault → refused_with (Refused fault at) ≡ rest
  unfolding specs_from
  specs_from-refused fault refused =
      parts_of-head dash s at end in-s is
      (λ ps. refused_with (Refused fault at) ≡ specs_from layout at ps)
      (λ ps. rw (← made, refused))

  pub specs_from-last : next.outcome ≡ Ok tt → end ≡ length s → taken_with next.layout ≡ rest
  unfolding specs_from
  specs_from-last done last = rw (parts_of-last dash s at end in-s is last, ← made, done)

  pub specs_from-more : next.outcome ≡ Ok tt → (end ≡ length s → ⊥) → rest
      ≡ specs_from next.layout (end + 1) (parts_of dash (drop (end + 1) s))
  unfolding specs_from
  specs_from-more done more =
      let bound = end_of-bound dash s at end in-s is in
      let size : length (take (end - at) (drop at s))
      ≡ end - at = length-take-le (end - at) (drop at s) (omega (arith, length-drop at s)) in
      let place : at + (end - at) ≡ end = omega arith in
      rw (parts_of-more dash s at end in-s is more, ← made, done, size, place)
