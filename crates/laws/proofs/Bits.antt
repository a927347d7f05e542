-- Laws of the machine's `|` on numbers: it is no less than either side.
-- Assumes nothing.
use Prim.Native.Nat.{ℕ, ◌≤◌}
use native.Mathlib.Omega.{arith}
use lib.Bits.{bit_or, or_add_and, and_le_l, and_le_r}

pub le-or-left : (a b : ℕ) → a ≤ bit_or a b
le-or-left a b = omega (arith, or_add_and a b, and_le_r a b)

pub le-or-right : (a b : ℕ) → b ≤ bit_or a b
le-or-right a b = omega (arith, or_add_and a b, and_le_l a b)
