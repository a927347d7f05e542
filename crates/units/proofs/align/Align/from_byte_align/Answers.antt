-- `units::align::Align::from_byte_align` meets its contract: the first shift at which the bytes are that power of two, or none.
-- Assumes nothing.
use mathlib.Core.Path.{◌≡◌, sym}
use Prim.Native.Nat.{ℕ, ◌*◌, ◌%◌, ◌^◌, ◌≤◌, ◌<◌}
use native.Mathlib.Nat.{mod-eq_of_lt}
use native.Mathlib.Omega.{arith}
use lib.Pow.{pow-lt}
use Rattle.std.specs.Prelude.{Option, Some, None, option_map}
use Rattle.std.specs.Option.{MatchOption}
use Rattle.std.proofs.Common.{rules, tests}
use Rattle.std.proofs.lemmas.Iterator.{first_from_Range}
use Rattle.units.specs.Align.{alignment}
use Rattle.units.proofs.Laws.Align.{alignment-none, alignment-of-eq}
use Rattle.units.proofs.align.Align.from_byte_align.Goals as goal

abbrev Is : ℕ → ℕ → Type 0
Is n k = n ≡ 1 * 2 ^ k % 2 ^ 64

held : (k : ℕ) → k < 64 → 1 * 2 ^ k % 2 ^ 64 ≡ 1 * 2 ^ k
held k h = let lt : 2 ^ k < 2 ^ 64 = pow-lt h in mod-eq_of_lt (omega arith)

found_is : (n : ℕ) (r : Option ℕ)
    → MatchOption r ((k : ℕ) → 0 ≤ k → k < 64 → Is n k → ⊥) (λ i. (0 ≤ i) × (i < 64) × Is n i × ((k : ℕ) → 0 ≤ k → k < i → Is n k → ⊥))
    → option_map (λ k. record { 0 = k }) r ≡ alignment 1 n
found_is n None h = sym (alignment-none 64 1 n (λ k lt e. h k (omega arith) lt (rw (held k lt) e)))
found_is n (Some i) h = sym (alignment-of-eq 64 1 n i (omega arith) h.1 (rw (held i h.1) at h.2))

pub returns : goal.returns
returns c =
    let n = c.args.byte_align in
    let found = first_from_Range _ _ _ _ (λ k. Is n k) (λ k. Is n k → ⊥) c.find.ensures.ran (λ x q h. search (rules, tests)) (λ x q h. search (rules, tests)) in
    let k = found_is n c.find.result found in
    search rules
