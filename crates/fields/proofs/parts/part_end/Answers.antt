-- `fields::parts::part_end` meets its contract: behind `from` the first separator, or all that is left.
-- Assumes nothing.
use mathlib.Core.Path.{◌≡◌, refl, sym, ap, ◌∙◌}
use mathlib.Core.List.{List, []}
use mathlib.Core.Logic.{◌⊎◌, ⊎_elim}
use Prim.Native.Nat.{ℕ, ◌+◌, ◌≤◌, ◌<◌}
use lib.ListN.{length, drop, drop_of_length-le}
use native.Mathlib.Omega.{arith}
use denote.Bor.{Bor}
use Rattle.std.specs.Prelude.{Option, Some, None}
use Rattle.std.specs.List.{slice_range}
use Rattle.std.specs.Option.{MatchOption, unwrap_or}
use Rattle.std.proofs.Common.{rules, tests}
use Rattle.std.proofs.lemmas.Iterator.{IsFirst-from_position, YieldsList-from_slice, index_from_first}
use Rattle.fields.specs.Parts.{up_to}
use Rattle.fields.proofs.Laws.Parts.{range-drop, up_to-none, up_to-here, up_to-further}
use Rattle.fields.proofs.parts.part_end.Goals as goal

-- what is left of s from there on, empty where that is past its end
rest_is : (s : List ℕ) (from : ℕ) (r : Option (Bor (List ℕ))) (empty : Bor (List ℕ)) → empty.now ≡ []
    → MatchOption r ((length s < from) ⊎ (length s < length s)) (λ x. (from ≤ length s) × (length s ≤ length s) × (x.now ≡ slice_range s from (length s)) × (length x.now + from ≡ length s))
    → (unwrap_or r empty).now ≡ drop from s
rest_is s from None empty e h = e ∙ sym (drop_of_length-le s (⊎_elim (λ lt. omega arith) (λ lt. omega arith) h))
rest_is s from (Some x) empty e h = h.2 ∙ range-drop s from

pub returns : goal.returns
returns c =
    let b = c.args.separator in
    let found = IsFirst-from_position _ _ _ (λ x. x ≡ b) (λ x. x ≡ b → ⊥) c.position.ensures.ran (YieldsList-from_slice c.unwrap_or-rest.result.now c.iter.ensures.rest) (λ x q k. search (rules, tests)) (λ x q k. search (rules, tests)) in
    let n = index_from_first (up_to b) (λ x. x ≡ b) (λ x. x ≡ b → ⊥) (up_to-none b) (up_to-here b) (up_to-further b) c.unwrap_or-rest.result.now c.position.result found in
    let rest = rest_is c.args.s.now c.args.from c.get.result _ refl c.get.ensures.lookup.0 in
    let is : c.unwrap_or-rest.result.now ≡ drop c.args.from c.args.s.now = ap (λ (x : Bor (List ℕ)). x.now) c.unwrap_or-rest.ensures ∙ rest in
    ap (λ m. c.args.from + m) (c.unwrap_or.ensures ∙ sym n ∙ ap (up_to b) is)
