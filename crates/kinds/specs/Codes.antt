-- Document 01, "Type stream and table": the codes of the stream's records.
--     codes            each code with what it says of its record
--     type_code n       what the number n says as a code
-- Assumes nothing.
use Rattle.std.specs.Prelude.{cond, List, [], ◌∷◌, ℕ, eqb, Result, Ok, Err}
use Rattle.kinds.specs.declared.code.TypeCode.{TypeCode}
use Rattle.kinds.specs.declared.code.TypeCode.TheVariants.{NumEntry, Plain, Opaque, Integer, Pointer, FunctionOld, Array, Vector}
use Rattle.kinds.specs.declared.code.TypeCode.TheVariants.{StructAnon, StructName, StructNamed, Function, OpaquePointer}
use Rattle.kinds.specs.declared.code.UnknownCode.{UnknownCode}
use Rattle.kinds.specs.declared.kind.TypeId.TheVariants as kind

pub record Numbered : Type 0 where
  pub number : ℕ
  pub says : TypeCode

abbrev is : TypeCode → ℕ → Numbered
is c n = record { number = n; says = c }

-- "Codes (LLVMBitCodes.h): NumEntry 1, Void 2, .., OpaquePointer 25."
-- A code whose record only names a kind is `Plain` at that kind. 2026-11 changes the line of code 17.
abbrev pub codes : List Numbered
codes =
    is NumEntry 1
    ∷ is (Plain kind.Void) 2
    ∷ is (Plain kind.Float) 3
    ∷ is (Plain kind.Double) 4
    ∷ is (Plain kind.Label) 5
    ∷ is Opaque 6
    ∷ is Integer 7
    ∷ is Pointer 8
    ∷ is FunctionOld 9
    ∷ is (Plain kind.Half) 10
    ∷ is Array 11
    ∷ is Vector 12
    ∷ is (Plain kind.X86Fp80) 13
    ∷ is (Plain kind.Fp128) 14
    ∷ is (Plain kind.PpcFp128) 15
    ∷ is (Plain kind.Metadata) 16
    ∷ is (Plain kind.X86Mmx) 17
    ∷ is StructAnon 18
    ∷ is StructName 19
    ∷ is StructNamed 20
    ∷ is Function 21
    ∷ is (Plain kind.Token) 22
    ∷ is (Plain kind.BFloat) 23
    ∷ is (Plain kind.X86Amx) 24
    ∷ is OpaquePointer 25
    ∷ []

-- "unknown code"
abbrev pub code_in : List Numbered → ℕ → Result TypeCode UnknownCode
code_in [] n = Err (record { 0 = n })
code_in (c ∷ cs) n = cond (eqb n c.number) (Ok c.says) (code_in cs n)

unfoldable pub type_code : ℕ → Result TypeCode UnknownCode
type_code n = code_in codes n
