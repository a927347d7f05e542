-- Document 01, "Refusal numbers": number and detail of each fault of a record. Its place is the record's number.
-- Assumes nothing.
use Rattle.std.specs.Prelude.{ℕ}
use Rattle.shapes.specs.declared.Fault.{Fault}
use Rattle.shapes.specs.declared.Fault.TheVariants.{LacksField, UnknownCode, OldFunction, BadName, NamelessOpaque, AlreadyFilled}
use Rattle.shapes.specs.declared.Fault.TheVariants.{SpaceTooLarge, NoRoom}

-- "2 record lacks a field; 3 unknown code; 4 FunctionOld; 5 bad name; 6 Opaque without name; 7 last struct already filled;
-- 8 space too large; 9 no room"
abbrev pub number_of : Fault → ℕ
number_of LacksField = 2
number_of (UnknownCode code) = 3
number_of OldFunction = 4
number_of BadName = 5
number_of NamelessOpaque = 6
number_of AlreadyFilled = 7
number_of (SpaceTooLarge space) = 8
number_of NoRoom = 9

-- "record, code"; "record, space"; else "record, 0"
abbrev pub detail_of : Fault → ℕ
detail_of LacksField = 0
detail_of (UnknownCode code) = code
detail_of OldFunction = 0
detail_of BadName = 0
detail_of NamelessOpaque = 0
detail_of AlreadyFilled = 0
detail_of (SpaceTooLarge space) = space
detail_of NoRoom = 0
