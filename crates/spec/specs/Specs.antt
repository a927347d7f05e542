-- Document 01, "Layout string": a spec, by its letter.
--     stack_in, address_space_in, ..     what the rest of a spec says behind its letter
--     plain_in letter body             every letter but `n`
--     spec_in spec                     a whole spec
-- Assumes nothing.
use Rattle.std.specs.Prelude.{cond, List, [], ◌∷◌, ℕ, eqb, Result, Ok, Err}
use Rattle.units.specs.declared.align.Align.{Align}
use Rattle.layout.specs.declared.record.Endian.TheVariants.{Big, Little}
use Rattle.layout.specs.declared.record.FunctionPointerAlign.TheVariants.{Independent, MultipleOfFunctionAlign}
use Rattle.layout.specs.declared.record.Memory.{Memory}
use Rattle.layout.specs.declared.record.Memory.TheVariants.{Program, GlobalVariable, Alloca}
use Rattle.layout.specs.declared.pointers.PointerAlignSpec.{PointerAlignSpec}
use Rattle.layout.specs.declared.types.AlignedType.TheVariants.{Integer, Vector, Float, Aggregate}
use Rattle.layout.specs.declared.types.TypeAlignSpec.{TypeAlignSpec}
use Rattle.fields.specs.declared.numbers.Fault.{Fault}
use Rattle.fields.specs.declared.numbers.Fault.TheVariants.{EmptySpec, UnknownSpec, BadSpecParse}
use Rattle.spec.specs.declared.spec.Spec.{Spec}
use Rattle.spec.specs.declared.spec.Spec.TheVariants.{Endianness, Stack, Space, Typed, Pointer, FunctionPointer}
use Rattle.fields.specs.Parts.{colon, parts_of}
use Rattle.spec.specs.Letters.{chosen}
use Rattle.fields.specs.Fields.{space_in, align_in}
use Rattle.spec.specs.Typed.{type_in}
use Rattle.spec.specs.Pointer.{pointer_in}
use Rattle.spec.specs.Edition.{mangling_letter}
use Rattle.spec.specs.Lists.{numbers_in}

-- "`S`: 24, 25."
abbrev pub stack_of : Result Align Fault → Result Spec Fault
stack_of (Ok align) = Ok (Stack align)
stack_of (Err fault) = Err fault

abbrev pub stack_in : List ℕ → Result Spec Fault
stack_in body = stack_of (align_in body)

-- "`P G A`: u32, 24, 26."
abbrev pub address_space_of : Memory → Result ℕ Fault → Result Spec Fault
address_space_of memory (Ok space) = Ok (Space memory space)
address_space_of memory (Err fault) = Err fault

abbrev pub address_space_in : Memory → List ℕ → Result Spec Fault
address_space_in memory body = address_space_of memory (space_in body)

-- "`p`" and "`i v f a`"
abbrev pub pointer_of : Result PointerAlignSpec Fault → Result Spec Fault
pointer_of (Ok row) = Ok (Pointer row)
pointer_of (Err fault) = Err fault

abbrev pub type_of : Result TypeAlignSpec Fault → Result Spec Fault
type_of (Ok row) = Ok (Typed row)
type_of (Err fault) = Err fault

-- "`F`: empty 27; number 24, 25; only then the letter, `i` or `n`, else 27."
abbrev pub function_letter : ℕ → Align → Result Spec Fault
function_letter letter align =
    chosen (Err BadSpecParse)
    ((105, Ok (FunctionPointer (Independent align))) ∷ (110, Ok (FunctionPointer (MultipleOfFunctionAlign align))) ∷ [])
    letter

abbrev pub function_of : ℕ → Result Align Fault → Result Spec Fault
function_of letter (Ok align) = function_letter letter align
function_of letter (Err fault) = Err fault

abbrev pub function_pointer_in : List ℕ → Result Spec Fault
function_pointer_in [] = Err BadSpecParse
function_pointer_in (letter ∷ number) = function_of letter (align_in number)

-- "`m`: `:` and one of `e m o x w a`, else 27; the rest ignored."
abbrev pub mangling_in : List ℕ → Result Spec Fault
mangling_in [] = Err BadSpecParse
mangling_in (first ∷ []) = Err BadSpecParse
mangling_in (first ∷ letter ∷ rest) = cond (eqb first colon) (mangling_letter letter) (Err BadSpecParse)

-- every letter but `n`: "`e`, `E`: the rest of the spec is ignored"; "23 unknown letter"
unfoldable pub plain_in : ℕ → List ℕ → Result Spec Fault
plain_in letter body =
    chosen (Err UnknownSpec)
    ((101, Ok (Endianness Little))
    ∷ (69, Ok (Endianness Big))
    ∷ (83, stack_in body)
    ∷ (80, address_space_in Program body)
    ∷ (71, address_space_in GlobalVariable body)
    ∷ (65, address_space_in Alloca body)
    ∷ (112, pointer_of (pointer_in (parts_of colon body)))
    ∷ (105, type_of (type_in Integer (parts_of colon body)))
    ∷ (118, type_of (type_in Vector (parts_of colon body)))
    ∷ (102, type_of (type_in Float (parts_of colon body)))
    ∷ (97, type_of (type_in Aggregate (parts_of colon body)))
    ∷ (70, function_pointer_in body)
    ∷ (109, mangling_in body)
    ∷ [])
    letter

-- "22 empty spec"; `n` is 110
unfoldable pub spec_in : List ℕ → Result Spec Fault
spec_in [] = Err EmptySpec
spec_in (letter ∷ body) = cond (eqb letter 110) (numbers_in body) (plain_in letter body)
