-- Document 01, "Layout string": the number, place and detail of each refusal.
--     number_of fault        the number of a spec's fault
--     refusal_of error       number, place, detail
-- Assumes nothing.
use Rattle.std.specs.Prelude.{ℕ}
use Rattle.fields.specs.declared.numbers.Fault.{Fault}
use Rattle.fields.specs.declared.numbers.Fault.TheVariants.{EmptySpec, UnknownSpec, BadInt, BadAlign, BadAddressSpace}
use Rattle.fields.specs.declared.numbers.Fault.TheVariants.{BadSpecParse, BadPointerAbi, BadTypeWidth, AbiAlignTooLarge}
use Rattle.fields.specs.declared.numbers.Fault.TheVariants.{AlignPref, ListFull}
use Rattle.units.specs.declared.refusal.Refusal.{Refusal}
use Rattle.datalayout.specs.declared.error.Error.{Error}
use Rattle.datalayout.specs.declared.error.Error.TheVariants.{BadEncoding, Refused}

-- "22 empty spec; 23 unknown letter; 24 bad integer; 25 bad alignment; 26 space too large; 27 malformed; 28 type width not in 1 to
-- 8,388,607; 29 ABI alignment above 32,768 bits (our limit); 30 preferred below ABI; 31 list full (added)."
abbrev pub number_of : Fault → ℕ
number_of EmptySpec = 22
number_of UnknownSpec = 23
number_of BadInt = 24
number_of BadAlign = 25
number_of BadAddressSpace = 26
number_of BadSpecParse = 27
number_of BadPointerAbi = 27
number_of BadTypeWidth = 28
number_of AbiAlignTooLarge = 29
number_of AlignPref = 30
number_of ListFull = 31

-- "Non-ASCII anywhere: 21 first, place its first such byte." "Otherwise place is the byte offset of the spec; detail is 0"
abbrev pub refusal_of : Error → Refusal
refusal_of (BadEncoding at) = record { number = 21; place = at; detail = 0 }
refusal_of (Refused fault at) = record { number = number_of fault; place = at; detail = 0 }
