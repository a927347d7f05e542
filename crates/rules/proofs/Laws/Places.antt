-- A law of specs/Places.antt: the place behind the arms of single kinds. Named in docs/TRACE.md.
-- Assumes nothing.
use mathlib.Core.Path.{◌≡◌}
use mathlib.Core.List.{[], ◌∷◌}
use Prim.Native.Nat.{ℕ, ◌≤◌, ◌<◌}
use native.Mathlib.Omega.{arith}
use borrow.Author.Tests.{ne_eqb}
use Rattle.std.proofs.Common.{Some}
use Rattle.laws.proofs.Numbers.{Apart, within-inside}
use Rattle.kinds.specs.Kinds.{function, pointer, struct, array, fixed_vector, scalable_vector, opaque_pointer}
use Rattle.rules.specs.declared.Place.TheVariants.{VectorElement}
use Rattle.rules.specs.Places.{place_at}

pub place_at-vector : (kind i : ℕ) → Apart (function ∷ pointer ∷ struct ∷ array ∷ []) kind → function ≤ kind → kind < opaque_pointer
    → Some VectorElement ≡ place_at kind i
unfolding place_at
place_at-vector kind i h some high =
    rw (
      ne_eqb kind function h.0,
      ne_eqb kind pointer h.1.0,
      ne_eqb kind struct h.1.1.0,
      ne_eqb kind array h.1.1.1.0,
      within-inside fixed_vector scalable_vector kind (omega arith) (omega arith),
    )
