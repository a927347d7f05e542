-- A property of what `cond` picks, from the property of both ways out.
-- Assumes nothing.
use mathlib.Core.Path.{◌≡◌, refl}
use mathlib.Core.Bool.{Bool, true, false, cond}

pub by_cond : {A : Type 0} (P : A → Type 0) (t : Bool) (x y : A) → P x → P y → P (cond t x y)
by_cond P true x y h k = h
by_cond P false x y h k = k

-- the same, with the test's outcome at hand
pub by-test : {A : Type 0} (P : A → Type 0) (t : Bool) (x y : A) → (t ≡ true → P x) → (t ≡ false → P y) → P (cond t x y)
by-test P true x y h k = h refl
by-test P false x y h k = k refl
