-- Document 01, "Layout string", and the five points in which 2026-14 lets a second edition of layout strings differ. Each is one
-- definition here, and nothing else knows of an edition.
--     specs_of s              the specs of a string: "takes an empty string as the defaults"
--     abi_bits kind n         the ABI of `i v f a` in bits: "reads `a` with ABI 0 as 8 bits"
--     mangling_letter b       the letter of `m:`: "takes `m:l` for GOFF"
--     pointer_last row        the tests of `p` after its others: "refuses with 27 a pointer spec whose .."
--     numbers_last ns read    the tests of `n` after its others, before 31: "and a native width of 0"
-- Assumes nothing.
use Rattle.std.specs.Prelude.{List, [], ◌∷◌, ℕ, Result, Ok, Err}
use Rattle.layout.specs.declared.numbers.Numbers.{Numbers}
use Rattle.layout.specs.declared.pointers.PointerAlignSpec.{PointerAlignSpec}
use Rattle.layout.specs.declared.record.Mangling.TheVariants.{Elf, Mips, Macho, WindowsX86Coff, WindowsCoff, XCoff}
use Rattle.layout.specs.declared.types.AlignedType.{AlignedType}
use Rattle.fields.specs.declared.numbers.Fault.{Fault}
use Rattle.fields.specs.declared.numbers.Fault.TheVariants.{BadSpecParse}
use Rattle.spec.specs.declared.spec.Spec.{Spec}
use Rattle.spec.specs.declared.spec.Spec.TheVariants.{Mangled}
use Rattle.fields.specs.Parts.{dash, parts_of}
use Rattle.spec.specs.Letters.{chosen}

-- "Split at `-`": the empty string has one empty spec
abbrev pub specs_of : List ℕ → List (List ℕ)
specs_of s = parts_of dash s

-- "0 is refused"
abbrev pub abi_bits : AlignedType → ℕ → ℕ
abi_bits kind bits = bits

-- "one of `e m o x w a`, else 27"
abbrev pub mangling_letter : ℕ → Result Spec Fault
mangling_letter letter =
    chosen (Err BadSpecParse)
    ((101, Ok (Mangled Elf))
    ∷ (109, Ok (Mangled Mips))
    ∷ (111, Ok (Mangled Macho))
    ∷ (120, Ok (Mangled WindowsX86Coff))
    ∷ (119, Ok (Mangled WindowsCoff))
    ∷ (97, Ok (Mangled XCoff))
    ∷ [])
    letter

-- "no other test"
abbrev pub pointer_last : Result PointerAlignSpec Fault → Result PointerAlignSpec Fault
pointer_last row = row

-- no other test
abbrev pub numbers_last : Numbers → Result Spec Fault → Result Spec Fault
numbers_last numbers read = read
