-- Document 01, "Type stream and table": the kind numbers of a row's first word.
-- Assumes nothing.
use Rattle.std.specs.Prelude.{ℕ}

-- "Kinds follow `TypeId`: Half 0, BFloat 1, Float 2, Double 3, X86Fp80 4, Fp128 5, PpcFp128 6, Void 7, Label 8,
-- Metadata 9, X86Mmx 10, X86Amx 11, Token 12, Integer 13, Function 14, Pointer 15, Struct 16, Array 17,
-- FixedVector 18, ScalableVector 19; OpaquePointer 20 is added."
abbrev pub half : ℕ
half = 0

abbrev pub b_float : ℕ
b_float = 1

abbrev pub float : ℕ
float = 2

abbrev pub double : ℕ
double = 3

abbrev pub x86_fp80 : ℕ
x86_fp80 = 4

abbrev pub fp128 : ℕ
fp128 = 5

abbrev pub ppc_fp128 : ℕ
ppc_fp128 = 6

abbrev pub void : ℕ
void = 7

abbrev pub label : ℕ
label = 8

abbrev pub metadata : ℕ
metadata = 9

abbrev pub x86_mmx : ℕ
x86_mmx = 10

abbrev pub x86_amx : ℕ
x86_amx = 11

abbrev pub token : ℕ
token = 12

abbrev pub integer : ℕ
integer = 13

abbrev pub function : ℕ
function = 14

abbrev pub pointer : ℕ
pointer = 15

abbrev pub struct : ℕ
struct = 16

abbrev pub array : ℕ
array = 17

abbrev pub fixed_vector : ℕ
fixed_vector = 18

abbrev pub scalable_vector : ℕ
scalable_vector = 19

abbrev pub opaque_pointer : ℕ
opaque_pointer = 20
