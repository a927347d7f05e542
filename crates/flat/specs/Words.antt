-- docs/DECISIONS.md, "The library to link": the layout record as flat words, in the order of a transcript's layout, whose
-- sentences are quoted. Alignments are in bits. A record's numbers and rows are its first `count`, or all that the room has;
-- how many they are is written before them.
--     layout_words layout     the words: 461 at most
-- Assumes nothing.
use Rattle.std.specs.Prelude.{Option, Some, None, List, [], ◌∷◌, ◌++◌, ℕ, length, take}
use Rattle.units.specs.declared.align.Align.{Align}
use Rattle.units.specs.Align.{size_of, bits_in_byte}
use Rattle.layout.specs.declared.record.Endian.{Endian}
use Rattle.layout.specs.declared.record.Endian.TheVariants.{Big, Little}
use Rattle.layout.specs.declared.record.FunctionPointerAlign.{FunctionPointerAlign}
use Rattle.layout.specs.declared.record.FunctionPointerAlign.TheVariants.{Independent, MultipleOfFunctionAlign}
use Rattle.layout.specs.declared.record.Mangling.{Mangling}
use Rattle.layout.specs.declared.record.Mangling.TheVariants.{Elf, Mips, Macho}
use Rattle.layout.specs.declared.record.Mangling.TheVariants.{WindowsX86Coff, WindowsCoff, XCoff}
use Rattle.layout.specs.declared.numbers.Numbers.{Numbers}
use Rattle.layout.specs.declared.types.TypeAlignSpec.{TypeAlignSpec}
use Rattle.layout.specs.declared.types.TypeAlignSpecs.{TypeAlignSpecs}
use Rattle.layout.specs.declared.pointers.PointerAlignSpec.{PointerAlignSpec}
use Rattle.layout.specs.declared.pointers.PointerAlignSpecs.{PointerAlignSpecs}
use Rattle.layout.specs.declared.record.DataLayout.{DataLayout}
use Rattle.layout.specs.Types.{rank_of}

abbrev pub bits_of : Align → ℕ
bits_of align = size_of bits_in_byte align.0

-- "0 big or 1 little endian"
abbrev pub endian_word : Endian → ℕ
endian_word Big = 0
endian_word Little = 1

-- "stack alignment in bits or 0 for none"
abbrev pub stack_word : Option Align → ℕ
stack_word None = 0
stack_word (Some align) = bits_of align

-- "function pointer alignment kind (0 none, 1 independent, 2 multiple)"
abbrev pub function_kind : Option FunctionPointerAlign → ℕ
function_kind None = 0
function_kind (Some (Independent align)) = 1
function_kind (Some (MultipleOfFunctionAlign align)) = 2

-- "and its bits or 0"
abbrev pub function_bits : Option FunctionPointerAlign → ℕ
function_bits None = 0
function_bits (Some (Independent align)) = bits_of align
function_bits (Some (MultipleOfFunctionAlign align)) = bits_of align

-- "mangling (0 none, else 1 to 6 for `e m o x w a`)"
abbrev pub mangling_word : Option Mangling → ℕ
mangling_word None = 0
mangling_word (Some Elf) = 1
mangling_word (Some Mips) = 2
mangling_word (Some Macho) = 3
mangling_word (Some WindowsX86Coff) = 4
mangling_word (Some WindowsCoff) = 5
mangling_word (Some XCoff) = 6

-- the words of each row, one row behind the other
unfoldable pub run_of : {A : Type 0} → (A → List ℕ) → List A → List ℕ
run_of words [] = []
run_of words (row ∷ rows) = words row ++ run_of words rows

-- "for each its kind (0 integer, 1 vector, 2 float, 3 aggregate), width, ABI and preferred alignment in bits"
abbrev pub type_words : TypeAlignSpec → List ℕ
type_words row =
    rank_of row.aligned_type ∷ row.width ∷ bits_of row.abi_alignment ∷ bits_of row.preferred_alignment ∷ []

-- "for each its space, size, ABI and preferred alignment in bits, index size"
abbrev pub pointer_words : PointerAlignSpec → List ℕ
pointer_words row =
    row.address_space
    ∷ row.pointer_size
    ∷ bits_of row.abi_alignment
    ∷ bits_of row.preferred_alignment
    ∷ row.index_size
    ∷ []

-- the nine words before the first count: "0 big or 1 little endian; stack alignment ..; program, global and alloca spaces;
-- aggregate alignment field in bits; function pointer alignment kind .. and its bits or 0; mangling"
abbrev pub head_words : DataLayout → List ℕ
head_words l =
    endian_word l.endianness
    ∷ stack_word l.natural_stack_alignment
    ∷ l.program_address_space
    ∷ l.global_variable_address_space
    ∷ l.alloca_address_space
    ∷ bits_of l.aggregate_alignment
    ∷ function_kind l.function_pointer_alignment
    ∷ function_bits l.function_pointer_alignment
    ∷ mangling_word l.mangling
    ∷ []

-- "count of native widths and the widths; count of non-integral spaces and the spaces"
abbrev pub numbers_words : Numbers → List ℕ
numbers_words numbers = let list = take numbers.count numbers.items in length list ∷ list

-- "count of type rows and for each .."
abbrev pub types_words : TypeAlignSpecs → List ℕ
types_words specs = let rows = take specs.count specs.rows in length rows ∷ run_of type_words rows

-- "count of pointer rows and for each .."
abbrev pub pointers_words : PointerAlignSpecs → List ℕ
pointers_words specs = let rows = take specs.count specs.rows in length rows ∷ run_of pointer_words rows

unfoldable pub layout_words : DataLayout → List ℕ
layout_words l =
    head_words l
    ++ numbers_words l.native_integer_widths
    ++ numbers_words l.non_integral_address_spaces
    ++ types_words l.type_alignments
    ++ pointers_words l.pointer_alignments
