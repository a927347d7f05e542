-- A law of specs/Typed.antt: a fourth part, whatever stands in it and behind it.
-- Assumes nothing.
use mathlib.Core.Path.{◌≡◌, refl}
use mathlib.Core.List.{List, ◌∷◌}
use Prim.Native.Nat.{ℕ, zero-le}
use Rattle.std.specs.Prelude.{Err}
use Rattle.layout.specs.declared.types.AlignedType.{AlignedType}
use Rattle.fields.specs.declared.numbers.Fault.TheVariants.{BadSpecParse}
use Rattle.fields.specs.Parts.{colon, parts_of, end_of}
use Rattle.fields.proofs.Laws.Parts.{parts_of-head}
use Rattle.spec.specs.Typed.{type_in}

pub type_in_four : (kind : AlignedType) (width abi preferred s : List ℕ)
    → Err BadSpecParse ≡ type_in kind (width ∷ abi ∷ preferred ∷ parts_of colon s)
unfolding type_in
type_in_four kind width abi preferred s =
    parts_of-head colon s 0 (end_of colon s 0) zero-le refl
    (λ ps. Err BadSpecParse ≡ type_in kind (width ∷ abi ∷ preferred ∷ ps))
    (λ ps. refl)
