-- Document 01, "Type stream and table": what a record says, from its code, what is seen of its fields, and whether a name is pending.
--     needed c                  how many fields a record of the code c needs
--     adds k n f from count     an entry: kind, number, flag; its references are count fields from the field `from` on
--     known_shape c s p         what a record says that has that code and of which s was seen
--     shape_of c s p            the same, of what its number says as a code, which is refused if it says none
--     shape_in code fs p         what a record with the code and the fields fs says
-- Assumes nothing.
use Rattle.std.specs.Prelude.{Bool, true, false, cond, ◌&&◌, List, ℕ, ◌-◌, ◌%◌, ltb, length, get_or, Result, Ok, Err}
use Rattle.units.specs.Limits.{is_address_space}
use Rattle.kinds.specs.declared.code.TypeCode.{TypeCode}
use Rattle.kinds.specs.declared.code.TypeCode.TheVariants.{NumEntry, Plain, Opaque, Integer, Pointer, FunctionOld, Array, Vector}
use Rattle.kinds.specs.declared.code.TypeCode.TheVariants.{StructAnon, StructName, StructNamed, Function, OpaquePointer}
use Rattle.kinds.specs.declared.code.UnknownCode as unknown
use Rattle.shapes.specs.declared.Fault.{Fault}
use Rattle.kinds.specs.Codes.{type_code}
use Rattle.kinds.specs.declared.kind.TypeId.{TypeId}
use Rattle.kinds.specs.declared.kind.TypeId.TheVariants as kind
use Rattle.kinds.specs.TypeIds.{number}
use Rattle.utf8.specs.Utf8.{is_utf8}
use Rattle.shapes.specs.declared.Head.{Head}
use Rattle.shapes.specs.declared.Seen.{Seen}
use Rattle.shapes.specs.declared.Fault.TheVariants.{LacksField, UnknownCode, OldFunction, BadName, NamelessOpaque, SpaceTooLarge}
use Rattle.shapes.specs.declared.Shape.{Shape}
use Rattle.shapes.specs.declared.Shape.TheVariants.{Nothing, Name, Adds, Named}
use Rattle.shapes.specs.declared.Shape.TheVariants as variants

-- "Fields needed, else refusal 2: Integer width; Pointer pointee, space; Array and Vector count, element, ..; StructAnon and
-- StructNamed packed, then fields; Function vararg, return, then parameters; OpaquePointer space."
abbrev pub needed : TypeCode → ℕ
needed Integer = 1
needed Pointer = 2
needed Array = 2
needed Vector = 2
needed StructAnon = 1
needed StructNamed = 1
needed Function = 2
needed OpaquePointer = 1
needed NumEntry = 0
needed (Plain k) = 0
needed Opaque = 0
needed FunctionOld = 0
needed StructName = 0

-- "A flag is set if its field is above 0."
abbrev pub flag_of : ℕ → ℕ
flag_of field = cond (ltb 0 field) 1 0

abbrev pub adds : TypeId → (number flag from count : ℕ) → Shape
adds k n f from count = Adds (record { kind = number k; number = n; flag = f; count = count; named = false }) from

-- "Address space: at most 8,388,607"; "8 | space too large | record, space"
abbrev pub spaced : TypeId → (space count : ℕ) → Result Shape Fault
spaced k space count = cond (is_address_space space) (Ok (adds k space 0 0 count)) (Err (SpaceTooLarge space))

-- "The integer width is cut to its low 32 bits first."
abbrev pub cut_width : ℕ → ℕ
cut_width n = n % 4294967296

-- "Vector's optional third field above 0 meaning scalable"
abbrev pub vector_kind : ℕ → TypeId
vector_kind third = cond (ltb 0 third) kind.ScalableVector kind.FixedVector

abbrev pub named_struct : (flag count : ℕ) → Head
named_struct f count = record { kind = number kind.Struct; number = 0; flag = f; count = count; named = true }

-- "Opaque needs a pending name."; "an empty unpacked struct"
abbrev pub opaque_if : Bool → Result Shape Fault
opaque_if true = Ok (variants.Opaque (named_struct 0 0) 0)
opaque_if false = Err NamelessOpaque

-- a record that has the fields it needs
unfoldable pub whole_shape : TypeCode → Seen → Bool → Result Shape Fault
whole_shape NumEntry s p = Ok Nothing
whole_shape (Plain k) s p = Ok (adds k 0 0 0 0)
whole_shape Opaque s p = opaque_if p
whole_shape Integer s p = Ok (adds kind.Integer (cut_width s.first) 0 0 0)
whole_shape Pointer s p = spaced kind.Pointer s.second 1
whole_shape FunctionOld s p = Err OldFunction
whole_shape Array s p = Ok (adds kind.Array s.first 0 1 1)
whole_shape Vector s p = Ok (adds (vector_kind s.third) s.first 0 1 1)
whole_shape StructAnon s p = Ok (adds kind.Struct 0 (flag_of s.first) 1 (s.count - 1))
whole_shape StructName s p = Ok Name
whole_shape StructNamed s p = Ok (Named (named_struct (flag_of s.first) (s.count - 1)) 1)
whole_shape Function s p = Ok (adds kind.Function 0 (flag_of s.first) 1 (s.count - 1))
whole_shape OpaquePointer s p = spaced kind.OpaquePointer s.first 0

-- "within one: missing field, then its other faults by number"
abbrev pub known_shape : TypeCode → Seen → Bool → Result Shape Fault
known_shape c s p = cond (ltb s.count (needed c)) (Err LacksField) (whole_shape c s p)

-- "3 | unknown code | record, code"
abbrev pub shape_of : Result TypeCode unknown.UnknownCode → Seen → Bool → Result Shape Fault
shape_of (Ok c) s p = known_shape c s p
shape_of (Err e) s p = Err (UnknownCode e.0)

abbrev pub seen_in : List ℕ → Seen
seen_in fs = record { count = length fs; first = get_or fs 0 0; second = get_or fs 1 0; third = get_or fs 2 0 }

-- "StructName needs at least one field, each at most 255, well-formed UTF-8 within the record, else 5"
abbrev pub spelled : List ℕ → Shape → Result Shape Fault
spelled fs Nothing = Ok Nothing
spelled fs Name = cond (ltb 0 (length fs) && is_utf8 fs) (Ok Name) (Err BadName)
spelled fs (Adds h from) = Ok (Adds h from)
spelled fs (variants.Opaque h from) = Ok (variants.Opaque h from)
spelled fs (Named h from) = Ok (Named h from)

abbrev pub spelled_if : List ℕ → Result Shape Fault → Result Shape Fault
spelled_if fs (Ok shape) = spelled fs shape
spelled_if fs (Err fault) = Err fault

abbrev pub shape_in : ℕ → List ℕ → Bool → Result Shape Fault
shape_in code fs p = spelled_if fs (shape_of (type_code code) (seen_in fs) p)
