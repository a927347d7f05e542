-- A law of specs/Lists.antt: a full list, whatever stands in the next part.
-- Assumes nothing.
use mathlib.Core.Path.{◌≡◌, refl}
use mathlib.Core.List.{List}
use Prim.Native.Nat.{ℕ, ◌≤◌, zero-le}
use borrow.Author.Tests.{le-ltb}
use Rattle.std.specs.Prelude.{Err}
use Rattle.layout.specs.declared.numbers.Numbers.{Numbers}
use Rattle.layout.specs.declared.record.Listed.{Listed}
use Rattle.layout.specs.Numbers.{max_numbers}
use Rattle.fields.specs.declared.numbers.Fault.TheVariants.{ListFull}
use Rattle.fields.specs.Parts.{colon, parts_of, end_of}
use Rattle.fields.proofs.Laws.Parts.{parts_of-head}
use Rattle.spec.specs.Lists.{numbers_from}

pub numbers_from_full : (listed : Listed) (numbers : Numbers) (s : List ℕ) → max_numbers ≤ numbers.count
    → Err ListFull ≡ numbers_from listed numbers (parts_of colon s)
unfolding numbers_from
numbers_from_full listed numbers s full =
    parts_of-head colon s 0 (end_of colon s 0) zero-le refl
    (λ ps. Err ListFull ≡ numbers_from listed numbers ps)
    (λ ps. rw (le-ltb numbers.count max_numbers full))
