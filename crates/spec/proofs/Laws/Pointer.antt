-- Laws of specs/Pointer.antt: a row that is refused, whatever stands behind it.
-- Assumes nothing.
use mathlib.Core.Path.{◌≡◌, refl}
use mathlib.Core.List.{List, [], ◌∷◌}
use Prim.Native.Nat.{ℕ}
use Rattle.std.specs.Prelude.{Ok, Err}
use Rattle.layout.specs.declared.pointers.PointerAlignSpec.{PointerAlignSpec}
use Rattle.fields.specs.declared.numbers.Fault.{Fault}
use Rattle.fields.specs.Fields.{align_in}
use Rattle.spec.specs.Pointer.{pointer_rest}

pub pointer_rest_refused : (fault : Fault) (more : List (List ℕ)) → pointer_rest (Err fault) more ≡ Err fault
unfolding pointer_rest
pointer_rest_refused fault [] = refl
pointer_rest_refused fault (preferred ∷ []) = refl
pointer_rest_refused fault (preferred ∷ index ∷ more) = refl

pub pointer_rest_bad : (row : PointerAlignSpec) (preferred : List ℕ) (more : List (List ℕ)) (fault : Fault) → align_in preferred ≡ Err fault
    → Err fault ≡ pointer_rest (Ok row) (preferred ∷ more)
unfolding pointer_rest
pointer_rest_bad row preferred [] fault bad = rw bad
pointer_rest_bad row preferred (index ∷ more) fault bad = rw bad
