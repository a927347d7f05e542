-- What every spec that is read keeps to, by its letter: its alignments are 8 times a power of two, and its list is within the limit.
-- Assumes nothing.
use mathlib.Core.Path.{◌≡◌, refl}
use mathlib.Core.Bool.{Bool, true, false, cond}
use mathlib.Core.List.{List, [], ◌∷◌}
use Prim.Native.Nat.{ℕ, ◌+◌, ◌≤◌}
use native.Mathlib.Omega.{arith}
use lib.Dec.{eqb, ltb}
use lib.ListN.{set}
use borrow.Author.Tests.{ltb-true}
use Rattle.std.proofs.Common.{Some}
use Rattle.laws.proofs.Conds.{by_cond}
use Rattle.std.specs.Prelude.{Result, Ok, Err}
use Rattle.units.specs.declared.align.Align.{Align}
use Rattle.layout.specs.declared.numbers.Numbers.{Numbers}
use Rattle.layout.specs.declared.pointers.PointerAlignSpec.{PointerAlignSpec}
use Rattle.layout.specs.declared.record.Listed.{Listed}
use Rattle.layout.specs.declared.record.Listed.TheVariants.{NativeIntegerWidths, NonIntegralAddressSpaces}
use Rattle.layout.specs.declared.record.Memory.{Memory}
use Rattle.layout.specs.declared.record.Memory.TheVariants.{Program, GlobalVariable, Alloca}
use Rattle.layout.specs.declared.types.AlignedType.{AlignedType}
use Rattle.layout.specs.declared.types.AlignedType.TheVariants.{Integer, Vector, Float, Aggregate}
use Rattle.layout.specs.declared.types.TypeAlignSpec.{TypeAlignSpec}
use Rattle.layout.specs.Numbers.{max_numbers, no_numbers, pushed}
use Rattle.fields.specs.declared.numbers.Fault.{Fault}
use Rattle.fields.specs.declared.numbers.Fault.TheVariants.{BadSpecParse, ListFull, UnknownSpec}
use Rattle.fields.specs.Fields.{space_in, align_in}
use Rattle.fields.specs.Parts.{colon, parts_of}
use Rattle.spec.specs.declared.spec.Spec.{Spec}
use Rattle.spec.specs.declared.spec.Spec.TheVariants.{Endianness, Stack, Space, Typed}
use Rattle.spec.specs.declared.spec.Spec.TheVariants.{Pointer, FunctionPointer, Mangled, Numbered}
use Rattle.spec.specs.Edition.{mangling_letter}
use Rattle.spec.specs.Letters.{chosen}
use Rattle.spec.specs.Lists.{number_in, onward, numbers_from, non_integral_list, numbers_in}
use Rattle.spec.specs.Pointer.{pointer_in}
use Rattle.spec.specs.Specs.{stack_of, address_space_of, address_space_in, pointer_of, type_of}
use Rattle.spec.specs.Specs.{function_of, function_pointer_in, mangling_in, plain_in, spec_in}
use Rattle.spec.specs.Typed.{type_in}
use Rattle.datalayout.specs.Promises.{PowerOfTwo, FunctionAligned, TypeAligned, PointerAligned, Each}
use Rattle.datalayout.proofs.Laws.Reads.{AlignSound, TypeSound, PointerSound, align_in-sound, type_in-sound, pointer_in-sound}

abbrev pub SpecSound : Spec → Type 0
SpecSound (Endianness endian) = Unit {0}
SpecSound (Stack align) = PowerOfTwo align
SpecSound (Space memory space) = Unit {0}
SpecSound (Typed row) = TypeAligned row
SpecSound (Pointer row) = PointerAligned row
SpecSound (FunctionPointer align) = FunctionAligned (Some align)
SpecSound (Mangled mangling) = Unit {0}
SpecSound (Numbered listed numbers) = numbers.count ≤ max_numbers

abbrev pub ReadSound : Result Spec Fault → Type 0
ReadSound (Ok said) = SpecSound said
ReadSound (Err fault) = Unit {0}

-- whichever line is chosen
chosen-sound : (other : Result Spec Fault) (table : List (ℕ × Result Spec Fault)) (letter : ℕ) → ReadSound other → Each (λ line. ReadSound line.1) table
    → ReadSound (chosen other table letter)
unfolding chosen
chosen-sound other [] letter h k = h
chosen-sound other (line ∷ table) letter h k =
    by_cond ReadSound (eqb letter line.0) line.1 (chosen other table letter) k.0 (chosen-sound other table letter h k.1)

stack-sound : (align : Result Align Fault) → AlignSound align → ReadSound (stack_of align)
stack-sound (Ok align) h = h
stack-sound (Err fault) h = tt

space-sound : (memory : Memory) (n : Result ℕ Fault) → ReadSound (address_space_of memory n)
space-sound memory (Ok n) = tt
space-sound memory (Err fault) = tt

pointer-sound : (row : Result PointerAlignSpec Fault) → PointerSound row → ReadSound (pointer_of row)
pointer-sound (Ok row) h = h
pointer-sound (Err fault) h = tt

type-sound : (row : Result TypeAlignSpec Fault) → TypeSound row → ReadSound (type_of row)
type-sound (Ok row) h = h
type-sound (Err fault) h = tt

function-sound : (letter : ℕ) (align : Result Align Fault) → AlignSound align → ReadSound (function_of letter align)
function-sound letter (Ok align) h = chosen-sound (Err BadSpecParse) _ letter tt (h, (h, tt))
function-sound letter (Err fault) h = tt

function_pointer_in-sound : (body : List ℕ) → ReadSound (function_pointer_in body)
function_pointer_in-sound [] = tt
function_pointer_in-sound (letter ∷ number) = function-sound letter (align_in number) (align_in-sound number)

mangling_in-sound : (body : List ℕ) → ReadSound (mangling_in body)
mangling_in-sound [] = tt
mangling_in-sound (first ∷ []) = tt
mangling_in-sound (first ∷ letter ∷ rest) =
    by_cond ReadSound (eqb first colon) (mangling_letter letter) (Err BadSpecParse)
    (chosen-sound (Err BadSpecParse) _ letter tt (tt, (tt, (tt, (tt, (tt, (tt, tt))))))) tt

plain_in-sound : (letter : ℕ) (body : List ℕ) → ReadSound (plain_in letter body)
unfolding plain_in
plain_in-sound letter body =
    let typed : (kind : AlignedType) → ReadSound (type_of (type_in kind (parts_of colon body))) =
    λ kind. type-sound (type_in kind (parts_of colon body)) (type_in-sound kind (parts_of colon body)) in
    let spaced : (memory : Memory) → ReadSound (address_space_in memory body) = λ memory. space-sound memory (space_in body) in
    chosen-sound (Err UnknownSpec) _ letter tt (
      tt,
      (
        tt,
        (
          stack-sound (align_in body) (align_in-sound body),
          (
            spaced Program,
            (
              spaced GlobalVariable,
              (
                spaced Alloca,
                (
                  pointer-sound (pointer_in (parts_of colon body)) (pointer_in-sound (parts_of colon body)),
                  (
                    typed Integer,
                    (
                      typed Vector,
                      (
                        typed Float,
                        (typed Aggregate, (function_pointer_in-sound body, (mangling_in-sound body, tt))),
                      ),
                    ),
                  ),
                ),
              ),
            ),
          ),
        ),
      ),
    )

pushed-within : (numbers : Numbers) (n : ℕ) → numbers.count ≤ max_numbers → (pushed numbers n).count ≤ max_numbers
pushed-within numbers n h = go (ltb numbers.count max_numbers) refl
  where
    go : (t : Bool) → ltb numbers.count max_numbers ≡ t
        → (cond t (record { items = set numbers.items numbers.count n; count = numbers.count + 1 }) numbers).count ≤ max_numbers
    go true e = omega (arith, ltb-true numbers.count max_numbers e)
    go false e = h

numbers_from-sound : (listed : Listed) (parts : List (List ℕ)) (numbers : Numbers) → numbers.count ≤ max_numbers
    → ReadSound (numbers_from listed numbers parts)
unfolding numbers_from
numbers_from-sound listed [] numbers h = h
numbers_from-sound listed (part ∷ parts) numbers h =
    by_cond ReadSound (ltb numbers.count max_numbers)
    (onward (number_in listed part) (λ n. numbers_from listed (pushed numbers n) parts)) (Err ListFull)
    (go (number_in listed part) (λ n. numbers_from-sound listed parts (pushed numbers n) (pushed-within numbers n h)))
    tt
  where
    go : (read : Result ℕ Fault) → ((n : ℕ) → ReadSound (numbers_from listed (pushed numbers n) parts))
        → ReadSound (onward read (λ n. numbers_from listed (pushed numbers n) parts))
    go (Ok n) later = later n
    go (Err fault) later = tt

non_integral-sound : (rest : List ℕ) → ReadSound (non_integral_list rest)
non_integral-sound [] = tt
non_integral-sound (skipped ∷ spaces) = numbers_from-sound NonIntegralAddressSpaces (parts_of colon spaces) no_numbers (omega arith)

numbers_in-sound : (body : List ℕ) → ReadSound (numbers_in body)
unfolding numbers_in
numbers_in-sound [] = tt
numbers_in-sound (first ∷ rest) =
    by_cond ReadSound (eqb first 105) (non_integral_list rest) (numbers_from NativeIntegerWidths no_numbers (parts_of colon (first ∷ rest)))
    (non_integral-sound rest)
    (numbers_from-sound NativeIntegerWidths (parts_of colon (first ∷ rest)) no_numbers (omega arith))

pub spec_in-sound : (spec : List ℕ) → ReadSound (spec_in spec)
unfolding spec_in
spec_in-sound [] = tt
spec_in-sound (letter ∷ body) =
    by_cond ReadSound (eqb letter 110) (numbers_in body) (plain_in letter body)
    (numbers_in-sound body)
    (plain_in-sound letter body)
