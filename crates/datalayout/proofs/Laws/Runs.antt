-- Laws of a run of specs: what its answer says of each of them.
-- Assumes nothing.
use mathlib.Core.Path.{◌≡◌, refl, sym, ap, ◌∙◌}
use mathlib.Core.List.{List, [], ◌∷◌, ◌++◌}
use Prim.Native.Nat.{ℕ, ◌+◌}
use native.Mathlib.Omega.{arith}
use lib.ListN.{length}
use Rattle.std.proofs.Common.{Result, Ok, Err}
use Rattle.layout.specs.declared.record.DataLayout.{DataLayout}
use Rattle.fields.specs.declared.numbers.Fault.{Fault}
use Rattle.datalayout.specs.declared.error.Error.TheVariants.{BadEncoding, Refused}
use Rattle.datalayout.specs.declared.map.Mapped.{Mapped}
use Rattle.datalayout.specs.Strings.{taken_with, onward, specs_from}
use Rattle.datalayout.specs.Promises.{after, offset, Passes}

pub specs_from-passes : (specs : List (List ℕ)) (layout : DataLayout) (place : ℕ) → (specs_from layout place specs).answer ≡ Ok tt
    → Passes layout specs (specs_from layout place specs).layout
unfolding specs_from
specs_from-passes [] layout place taken = refl
specs_from-passes (spec ∷ specs) layout place taken =
    go (specs_from (after layout spec).layout (place + length spec + 1) specs) (after layout spec).outcome refl taken
    (λ t. specs_from-passes specs (after layout spec).layout (place + length spec + 1) t)
  where
    go : (rest : Mapped) (o : Result (Unit {0}) Fault) → (after layout spec).outcome ≡ o → (onward o place rest).answer ≡ Ok tt
        → (rest.answer ≡ Ok tt → Passes (after layout spec).layout specs rest.layout)
        → ((after layout spec).outcome ≡ Ok tt) × Passes (after layout spec).layout specs (onward o place rest).layout
    go rest (Ok tt) e t later = (e, later t)
    go rest (Err fault) e t later = let z : ◌≡◌ {A = ℕ} 0 1 = cc in absurd (omega arith)

-- all pass: the string is taken
pub specs_from-of-passes : (specs : List (List ℕ)) (layout last : DataLayout) (place : ℕ) → Passes layout specs last
    → specs_from layout place specs ≡ taken_with last
unfolding specs_from
specs_from-of-passes [] layout last place h = ap taken_with (sym h)
specs_from-of-passes (spec ∷ specs) layout last place h =
    rw h.0 (specs_from-of-passes specs (after layout spec).layout last (place + length spec + 1) h.1)

-- a spec that breaks a rule, behind specs that pass
pub record Failing (layout : DataLayout) (place : ℕ) (specs : List (List ℕ)) (fault : Fault) (at : ℕ) : Type 0 where
  pub earlier : List (List ℕ)
  pub spec : List ℕ
  pub later : List (List ℕ)
  pub last : DataLayout
  pub split : specs ≡ earlier ++ spec ∷ later
  pub passes : Passes layout earlier last
  pub breaks : (after last spec).outcome ≡ Err fault
  pub at_offset : at ≡ place + offset earlier

pub specs_from-failing : (specs : List (List ℕ)) (layout : DataLayout) (place : ℕ) (fault : Fault) (at : ℕ)
    → (specs_from layout place specs).answer ≡ Err (Refused fault at) → Failing layout place specs fault at
unfolding specs_from
specs_from-failing [] layout place fault at refused = let z : ◌≡◌ {A = ℕ} 0 1 = cc in absurd (omega arith)
specs_from-failing (spec ∷ specs) layout place fault at refused =
    go (specs_from (after layout spec).layout (place + length spec + 1) specs) (after layout spec).outcome refl refused
    (λ t. specs_from-failing specs (after layout spec).layout (place + length spec + 1) fault at t)
  where
    go : (rest : Mapped) (o : Result (Unit {0}) Fault) → (after layout spec).outcome ≡ o → (onward o place rest).answer ≡ Err (Refused fault at)
        → (rest.answer ≡ Err (Refused fault at) → Failing (after layout spec).layout (place + length spec + 1) specs fault at)
        → Failing layout place (spec ∷ specs) fault at
    go rest (Ok tt) e t later =
        let f = later t in
        record {
          earlier = spec ∷ f.earlier;
          spec = f.spec;
          later = f.later;
          last = f.last;
          split = ap (λ (l : List (List ℕ)). spec ∷ l) f.split;
          passes = (e, f.passes);
          breaks = f.breaks;
          at_offset = omega (arith, f.at_offset);
        }
    go rest (Err other) e t later =
        let same : other ≡ fault = cc in
        let here : place ≡ at = cc in
        record {
          earlier = [];
          spec = spec;
          later = specs;
          last = layout;
          split = refl;
          passes = refl;
          breaks = e ∙ ap Err same;
          at_offset = omega arith;
        }

-- 21 is never a spec's
pub specs_from-encoded : (specs : List (List ℕ)) (layout : DataLayout) (place at : ℕ) → (specs_from layout place specs).answer
    ≡ Err (BadEncoding at) → ⊥
unfolding specs_from
specs_from-encoded [] layout place at h = let z : ◌≡◌ {A = ℕ} 0 1 = cc in omega arith
specs_from-encoded (spec ∷ specs) layout place at h =
    go (specs_from (after layout spec).layout (place + length spec + 1) specs) (after layout spec).outcome h
    (λ t. specs_from-encoded specs (after layout spec).layout (place + length spec + 1) at t)
  where
    go : (rest : Mapped) (o : Result (Unit {0}) Fault) → (onward o place rest).answer ≡ Err (BadEncoding at) → (rest.answer ≡ Err (BadEncoding at) → ⊥) → ⊥
    go rest (Ok tt) t later = later t
    go rest (Err fault) t later = let z : ◌≡◌ {A = ℕ} 0 1 = cc in omega arith
