-- Laws of the Bool operators that the kit does not have.
-- Assumes nothing.
use mathlib.Core.Path.{◌≡◌, refl}
use mathlib.Core.Bool.{Bool, true, false, ◌&&◌, ◌||◌, and-eq-true_iff}
use lib.Dec.{T}

pub and-false : (a : Bool) → a && false ≡ false
and-false true = refl
and-false false = refl

pub or-true : (a : Bool) → a || true ≡ true
or-true true = refl
or-true false = refl

pub T_true : (a : Bool) → T a → a ≡ true
T_true true t = refl
T_true false t = absurd t

pub T_and : (a b : Bool) → T (a && b) → T a × T b
T_and true b t = (tt, t)
T_and false b t = absurd t

-- the kit's law, one way
pub and-true : (a b : Bool) → a && b ≡ true → (a ≡ true) × (b ≡ true)
and-true a b h = (and-eq-true_iff a b).0 h
