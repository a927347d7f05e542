-- Document 01, "Layout string": "`ni`: alone 27; one byte after it is skipped unseen; each part 24, 26, then 27 for space 0. `n`:
-- u32 parts, 24; empty 27." "31 exactly if one more is needed, after the spec's other tests, and a seventeenth part gives it unread."
--     numbers_in body     what the rest of a spec says behind `n`
-- Assumes nothing.
use Rattle.std.specs.Prelude.{cond, List, [], ◌∷◌, ℕ, eqb, ltb, Result, Ok, Err}
use Rattle.layout.specs.declared.numbers.Numbers.{Numbers}
use Rattle.layout.specs.declared.record.Listed.{Listed}
use Rattle.layout.specs.declared.record.Listed.TheVariants.{NativeIntegerWidths, NonIntegralAddressSpaces}
use Rattle.layout.specs.Numbers.{max_numbers, no_numbers, pushed}
use Rattle.fields.specs.declared.numbers.Fault.{Fault}
use Rattle.fields.specs.declared.numbers.Fault.TheVariants.{BadSpecParse, ListFull}
use Rattle.spec.specs.declared.spec.Spec.{Spec}
use Rattle.spec.specs.declared.spec.Spec.TheVariants.{Numbered}
use Rattle.fields.specs.Parts.{colon, parts_of}
use Rattle.fields.specs.Fields.{native_in, non_integral_in}
use Rattle.spec.specs.Edition.{numbers_last}

abbrev pub number_in : Listed → List ℕ → Result ℕ Fault
number_in NativeIntegerWidths part = native_in part
number_in NonIntegralAddressSpaces part = non_integral_in part

abbrev pub onward : Result ℕ Fault → (ℕ → Result Spec Fault) → Result Spec Fault
onward (Ok n) next = next n
onward (Err fault) next = Err fault

-- the parts in turn, behind the numbers that stand already: "a seventeenth part gives it unread"
unfoldable pub numbers_from : Listed → Numbers → List (List ℕ) → Result Spec Fault
numbers_from listed numbers [] = numbers_last numbers (Ok (Numbered listed numbers))
numbers_from listed numbers (part ∷ parts) =
    cond (ltb numbers.count max_numbers)
    (onward (number_in listed part) (λ n. numbers_from listed (pushed numbers n) parts))
    (numbers_last numbers (Err ListFull))

-- "alone 27; one byte after it is skipped unseen"
abbrev pub non_integral_list : List ℕ → Result Spec Fault
non_integral_list [] = Err BadSpecParse
non_integral_list (skipped ∷ spaces) = numbers_from NonIntegralAddressSpaces no_numbers (parts_of colon spaces)

-- "empty 27"; `i` is 105
unfoldable pub numbers_in : List ℕ → Result Spec Fault
numbers_in [] = Err BadSpecParse
numbers_in (first ∷ rest) =
    cond (eqb first 105) (non_integral_list rest) (numbers_from NativeIntegerWidths no_numbers (parts_of colon (first ∷ rest)))
