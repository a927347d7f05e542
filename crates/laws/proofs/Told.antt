-- What is told by an equation that cannot hold, and by a test that joins two.
-- Assumes nothing.
use mathlib.Core.Path.{◌≡◌, refl}
use mathlib.Core.Bool.{Bool, true, false, ◌&&◌, ◌||◌}
use Prim.Native.Nat.{ℕ}
use native.Mathlib.Omega.{arith}
use lib.Dec.{T}

-- two constructors are never equal: `no (cc)`
pub no : {X : Type 0} → ◌≡◌ {A = ℕ} 0 1 → X
no e = absurd (omega arith)

pub and-told : (a b : Bool) → a && b ≡ true → (a ≡ true) × (b ≡ true)
and-told true b h = (refl, h)
and-told false b h = no (cc)

pub or-told : (a b : Bool) → a || b ≡ false → (a ≡ false) × (b ≡ false)
or-told false b h = (refl, h)
or-told true b h = no (cc)

pub and_both : (a b : Bool) → a ≡ true → b ≡ true → a && b ≡ true
and_both a b p q = rw (p, q)

pub and-true : (a : Bool) → a && true ≡ a
and-true true = refl
and-true false = refl

pub T_of : (b : Bool) → b ≡ true → T b
T_of b e = rw e tt
