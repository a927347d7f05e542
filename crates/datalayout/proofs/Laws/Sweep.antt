-- The sweep over a layout string. Before the spec at which it stands all is ASCII, and from the layout that stands what is left of
-- the specs gives what all of them give. A search stops at the first byte that is not ASCII, or else at the end of that spec.
--     Going s layout at                the invariant
--     Stopped s layout at end          the search from there on has stopped at `end`
--     Ended s layout at end next       that is the end of the spec, which makes `next` of the layout
-- The laws of these are one for each way through a turn of `from_str`.
-- Assumes nothing.
use mathlib.Core.Path.{◌≡◌, refl, sym, ◌∙◌}
use mathlib.Core.List.{List}
use mathlib.Core.Logic.{⊎_elim}
use Prim.Native.Nat.{ℕ, ◌+◌, ◌-◌, ◌≤◌, ◌<◌, min}
use native.Mathlib.Nat.{eq-or-lt_of_le}
use native.Mathlib.Omega.{arith}
use lib.ListN.{length, get_or, get_or-eq_default, take, drop}
use borrow.Author.Tests.{lt-ltb, le-ltb}
use Rattle.std.proofs.Common.{Ok, Err}
use Rattle.std.proofs.lemmas.Bool.{cases_lt}
use Rattle.layout.specs.declared.record.DataLayout.{DataLayout}
use Rattle.layout.specs.Defaults.{default_layout}
use Rattle.fields.specs.declared.numbers.Fault.{Fault}
use Rattle.fields.specs.Parts.{dash, parts_of, end_of}
use Rattle.fields.proofs.Laws.Parts.{end_of-bound}
use Rattle.spec.specs.Edition.{specs_of}
use Rattle.spec.specs.Specs.{spec_in}
use Rattle.datalayout.specs.declared.error.Error.TheVariants.{BadEncoding, Refused}
use Rattle.datalayout.specs.declared.apply.Applied.{Applied}
use Rattle.datalayout.specs.Apply.{applied}
use Rattle.datalayout.specs.Strings.{ascii_up_to, taken_with, refused_with, specs_from, mapped}
use Rattle.datalayout.proofs.Laws.Ascii.{ascii_up_to-le, ascii_up_to-before, ascii_up_to-at, ascii_up_to-past}
use Rattle.datalayout.proofs.Laws.Strings.{specs_from-refused, specs_from-last, specs_from-more}

pub record Going (s : List ℕ) (layout : DataLayout) (at : ℕ) : Type 0 where
  pub ascii : at ≤ ascii_up_to s
  pub same : specs_from default_layout 0 (specs_of s) ≡ specs_from layout at (parts_of dash (drop at s))

pub record Stopped (s : List ℕ) (layout : DataLayout) (at end : ℕ) : Type 0 where
  pub going : Going s layout at
  pub is : end ≡ min (end_of dash s at) (at + ascii_up_to (drop at s))

-- past the end of the string `get_or` gives 0
pub record Ended (s : List ℕ) (layout : DataLayout) (at end : ℕ) (next : Applied) : Type 0 where
  pub stopped : Stopped s layout at end
  pub byte : get_or s end 0 < 128
  pub made : next ≡ applied layout (spec_in (take (end - at) (drop at s)))

-- 21, or the answer of the specs
mapped-encoded : (s : List ℕ) (place : ℕ) → place ≡ ascii_up_to s → place < length s → refused_with (BadEncoding place) ≡ mapped s
unfolding mapped
mapped-encoded s place is lt = rw (is, lt-ltb (ascii_up_to s) (length s) (rw is at lt))

mapped-ascii : (s : List ℕ) → length s ≤ ascii_up_to s → specs_from default_layout 0 (specs_of s) ≡ mapped s
unfolding mapped
mapped-ascii s h = rw (le-ltb (ascii_up_to s) (length s) h)

pub Going-first : (s : List ℕ) → Going s default_layout 0
Going-first s = record { ascii = omega arith; same = refl }

inside : (s : List ℕ) (i : ℕ) → 128 ≤ get_or s i 0 → i < length s
inside s i h =
    ⊎_elim (λ lt. lt) (λ past. let e : get_or s i 0 ≡ 0 = get_or-eq_default s 0 past in absurd (omega arith)) (cases_lt i (length s))

module _ {s : List ℕ} {layout : DataLayout} {at end : ℕ} (stop : Stopped s layout at end) where
  passed : end ≤ ascii_up_to s
  passed = omega (arith, ascii_up_to-past s at stop.going.ascii)

  pub Stopped-within : (at ≤ end) × (end ≤ length s)
  Stopped-within = (omega arith, omega (arith, passed, ascii_up_to-le s))

  pub Stopped-encoded : 128 ≤ get_or s end 0 → refused_with (BadEncoding end) ≡ mapped s
  Stopped-encoded h =
      ⊎_elim
      (λ e. mapped-encoded s end e (inside s end h))
      (λ less. absurd (omega (arith, ascii_up_to-before s end less)))
      (eq-or-lt_of_le {n = end} {m = ascii_up_to s} passed)

  -- behind it
  pub Stopped-encoded-later : (bad : ℕ) → bad ≡ end + ascii_up_to (drop end s) → bad < length s
      → refused_with (BadEncoding bad) ≡ mapped s
  Stopped-encoded-later bad is lt = mapped-encoded s bad (is ∙ sym (ascii_up_to-past s end passed)) lt

module _ {s : List ℕ} {layout : DataLayout} {at end : ℕ} {next : Applied} (ended : Ended s layout at end next) where
  in-s : at ≤ length s
  in-s = omega (arith, Stopped-within ended.stopped)

  not-encoded : end ≡ ascii_up_to s → ascii_up_to s < length s → ⊥
  not-encoded e lt = omega (arith, rw (← e) at (ascii_up_to-at s lt))

  at-dash : end ≡ end_of dash s at
  at-dash =
      let bound = end_of-bound dash s at (end_of dash s at) in-s refl in
      let past = ascii_up_to-past s at ended.stopped.going.ascii in
      ⊎_elim
      (λ e. e)
      (λ less. absurd (not-encoded (omega arith) (omega arith)))
      (eq-or-lt_of_le {n = end} {m = end_of dash s at} (omega arith))

  -- the rest of the string is ASCII too
  pub Ended-refused : (fault : Fault) → next.outcome ≡ Err fault → length s ≤ end + ascii_up_to (drop end s)
      → refused_with (Refused fault at) ≡ mapped s
  Ended-refused fault refused h =
      specs_from-refused layout s at end in-s at-dash next ended.made fault refused
      ∙ sym ended.stopped.going.same
      ∙ mapped-ascii s (omega (arith, ascii_up_to-past s end (passed ended.stopped)))

  pub Ended-done : next.outcome ≡ Ok tt → end ≡ length s → taken_with next.layout ≡ mapped s
  Ended-done done last =
      specs_from-last layout s at end in-s at-dash next ended.made done last
      ∙ sym ended.stopped.going.same
      ∙ mapped-ascii s (omega (arith, passed ended.stopped))

  pub Ended-more : next.outcome ≡ Ok tt → (end ≡ length s → ⊥) → Going s next.layout (end + 1)
  Ended-more done more =
      record {
        ascii =
            ⊎_elim
            (λ e. absurd (not-encoded e (omega (arith, Stopped-within ended.stopped))))
            (λ less. omega arith)
            (eq-or-lt_of_le {n = end} {m = ascii_up_to s} (passed ended.stopped));
        same = ended.stopped.going.same ∙ specs_from-more layout s at end in-s at-dash next ended.made done more;
      }
