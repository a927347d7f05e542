-- Document 01, "Type stream and table": the kinds as cases, each with its number of specs/Kinds.antt.
--     number k      the number of the kind k
--     Says n r      what the number n says: the kind with that number, or that no kind has it
-- Assumes nothing.
use Rattle.std.specs.Prelude.{◌≡◌, ◌<◌, ℕ, Result, MatchResult}
use Rattle.kinds.specs.Kinds as kind
use Rattle.kinds.specs.declared.kind.TypeId.{TypeId}
use Rattle.kinds.specs.declared.kind.TypeId.TheVariants.{Half, BFloat, Float, Double, X86Fp80, Fp128, PpcFp128, Void, Label, Metadata}
use Rattle.kinds.specs.declared.kind.TypeId.TheVariants.{X86Mmx, X86Amx, Token, Integer, Function, Pointer, Struct, Array}
use Rattle.kinds.specs.declared.kind.TypeId.TheVariants.{FixedVector, ScalableVector, OpaquePointer}
use Rattle.kinds.specs.declared.kind.UnknownKind.{UnknownKind}

-- "Kinds follow `TypeId`: Half 0, .., ScalableVector 19; OpaquePointer 20 is added."
abbrev pub number : TypeId → ℕ
number Half = kind.half
number BFloat = kind.b_float
number Float = kind.float
number Double = kind.double
number X86Fp80 = kind.x86_fp80
number Fp128 = kind.fp128
number PpcFp128 = kind.ppc_fp128
number Void = kind.void
number Label = kind.label
number Metadata = kind.metadata
number X86Mmx = kind.x86_mmx
number X86Amx = kind.x86_amx
number Token = kind.token
number Integer = kind.integer
number Function = kind.function
number Pointer = kind.pointer
number Struct = kind.struct
number Array = kind.array
number FixedVector = kind.fixed_vector
number ScalableVector = kind.scalable_vector
number OpaquePointer = kind.opaque_pointer

-- "kind at most 20": the kinds are the numbers up to OpaquePointer's
abbrev pub Says : ℕ → Result TypeId UnknownKind → Type 0
Says n r = MatchResult r (λ k. number k ≡ n) (λ e. (e.0 ≡ n) × (kind.opaque_pointer < n))
