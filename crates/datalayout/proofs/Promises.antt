-- The promises of specs/Promises.antt, for every string: each is a citation of the laws.
-- Assumes nothing.
use mathlib.Core.Path.{◌≡◌, refl}
use mathlib.Core.Bool.{Bool, true, false, cond}
use mathlib.Core.List.{List}
use Prim.Native.Nat.{ℕ}
use native.Mathlib.Omega.{arith}
use lib.Dec.{eqb, ltb}
use lib.ListN.{length}
use borrow.Author.Tests.{ltb-true, ltb-false}
use Rattle.std.proofs.Common.{Ok, Err}
use Rattle.laws.proofs.Conds.{by_cond}
use Rattle.layout.specs.declared.record.DataLayout.{DataLayout}
use Rattle.layout.specs.Defaults.{default_layout}
use Rattle.fields.specs.declared.numbers.Fault.{Fault}
use Rattle.fields.specs.Parts.{dash, parts_of}
use Rattle.datalayout.specs.declared.error.Error.TheVariants.{BadEncoding, Refused}
use Rattle.datalayout.specs.Strings.{ascii_up_to, taken_with, refused_with, specs_from, mapped}
use Rattle.datalayout.specs.Promises.{joined, offset, Each, Accepted, RefusedAt, NotAsciiAt, Sound}
use Rattle.datalayout.proofs.Laws.Ascii.{ascii_up_to-before, ascii_up_to-at}
use Rattle.datalayout.proofs.Laws.Parts.{joined-parts_of, parts_of-clean, parts_of-stands}
use Rattle.datalayout.proofs.Laws.Runs.{specs_from-passes, specs_from-of-passes, specs_from-failing, specs_from-encoded}
use Rattle.datalayout.proofs.Laws.Sound.{default-sound, specs_from-sound}

-- the specs are those of the string: they join to it, and none has a dash
pub specs-join : (s : List ℕ) → joined dash (parts_of dash s) ≡ s
specs-join s = joined-parts_of dash s

pub specs-clean : (s : List ℕ) → Each (λ spec. Each (λ byte. eqb byte dash ≡ false) spec) (parts_of dash s)
specs-clean s = parts_of-clean dash s

-- "the layout of an accepted string is that of its specs applied in turn", and there is no other accepted string
pub accepted : (s : List ℕ) → (mapped s).answer ≡ Ok tt → Accepted s (mapped s).layout
unfolding mapped
accepted s = go (ltb (ascii_up_to s) (length s)) refl
  where
    go : (t : Bool) → ltb (ascii_up_to s) (length s) ≡ t
        → (cond t (refused_with (BadEncoding (ascii_up_to s))) (specs_from default_layout 0 (parts_of dash s))).answer ≡ Ok tt
        → Accepted s (cond t (refused_with (BadEncoding (ascii_up_to s))) (specs_from default_layout 0 (parts_of dash s))).layout
    go true e taken = let z : ◌≡◌ {A = ℕ} 0 1 = cc in absurd (omega arith)
    go false e taken =
        record {
          ascii = λ i lt. ascii_up_to-before s i (omega (arith, ltb-false (ascii_up_to s) (length s) e));
          passes = specs_from-passes (parts_of dash s) default_layout 0 taken;
        }

pub accepts : (s : List ℕ) (layout : DataLayout) → Accepted s layout → mapped s ≡ taken_with layout
unfolding mapped
accepts s layout a = go (ltb (ascii_up_to s) (length s)) refl
  where
    go : (t : Bool) → ltb (ascii_up_to s) (length s) ≡ t
        → cond t (refused_with (BadEncoding (ascii_up_to s))) (specs_from default_layout 0 (parts_of dash s)) ≡ taken_with layout
    go true e =
        let lt = ltb-true (ascii_up_to s) (length s) e in
        absurd (omega (arith, ascii_up_to-at s lt, a.ascii (ascii_up_to s) lt))
    go false e = specs_from-of-passes (parts_of dash s) default_layout layout 0 a.passes

-- "the place of a refusal is the offset of the first spec that breaks a rule and all specs before it pass"
pub refused : (s : List ℕ) (fault : Fault) (place : ℕ) → (mapped s).answer ≡ Err (Refused fault place) → RefusedAt s fault place
unfolding mapped
refused s fault place = go (ltb (ascii_up_to s) (length s))
  where
    go : (t : Bool) → (cond t (refused_with (BadEncoding (ascii_up_to s))) (specs_from default_layout 0 (parts_of dash s))).answer
        ≡ Err (Refused fault place)
        → RefusedAt s fault place
    go true h = let z : ◌≡◌ {A = ℕ} 0 1 = cc in absurd (omega arith)
    go false h =
        let f = specs_from-failing (parts_of dash s) default_layout 0 fault place h in
        let at : place ≡ offset f.earlier = omega (arith, f.at_offset) in
        record {
          earlier = f.earlier;
          spec = f.spec;
          later = f.later;
          layout = f.last;
          split = f.split;
          passes = f.passes;
          breaks = f.breaks;
          at_offset = at;
          stands = parts_of-stands dash s f.earlier f.spec f.later place f.split at;
        }

-- "Non-ASCII anywhere: 21 first, place its first such byte."
pub not_ascii : (s : List ℕ) (place : ℕ) → (mapped s).answer ≡ Err (BadEncoding place) → NotAsciiAt s place
unfolding mapped
not_ascii s place = go (ltb (ascii_up_to s) (length s)) refl
  where
    go : (t : Bool) → ltb (ascii_up_to s) (length s) ≡ t
        → (cond t (refused_with (BadEncoding (ascii_up_to s))) (specs_from default_layout 0 (parts_of dash s))).answer
        ≡ Err (BadEncoding place) → NotAsciiAt s place
    go true e h =
        let here : ascii_up_to s ≡ place = cc in
        let lt = ltb-true (ascii_up_to s) (length s) e in
        rw (← here) (record { inside = lt; not_ascii = ascii_up_to-at s lt; first = λ i k. ascii_up_to-before s i k })
    go false e h = absurd (specs_from-encoded (parts_of dash s) default_layout 0 place h)

pub sound : (s : List ℕ) → Sound (mapped s).layout
unfolding mapped
sound s =
    by_cond (λ m. Sound m.layout) (ltb (ascii_up_to s) (length s)) (refused_with (BadEncoding (ascii_up_to s)))
    (specs_from default_layout 0 (parts_of dash s)) default-sound (specs_from-sound (parts_of dash s) default_layout 0 default-sound)
