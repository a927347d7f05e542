-- Document 01, "Layout string": "An alignment in bits is 8 times a power of two; 0 is refused."
--     alignment unit n     the alignment that is n units: unit 8 for bits, 1 for bytes
--     size_of unit shift    how many units an alignment is
-- Assumes nothing.
use Rattle.std.specs.Prelude.{cond, ℕ, zero, suc, ◌*◌, ◌^◌, eqb, leb, ltb, Option, Some, None}
use Rattle.units.specs.declared.align.Align.{Align}

-- `Align`'s `MAX_SHIFT`
abbrev pub max_shift : ℕ
max_shift = 63

abbrev pub bits_in_byte : ℕ
bits_in_byte = 8

abbrev pub at : ℕ → Option Align
at shift = Some (record { 0 = shift })

-- the shift below `limit` at which n is that many times the unit
unfoldable pub shift_below : ℕ → ℕ → ℕ → Option Align
shift_below zero unit n = None
shift_below (suc shift) unit n = cond (eqb n (unit * 2 ^ shift)) (at shift) (shift_below shift unit n)

abbrev pub alignment : ℕ → ℕ → Option Align
alignment unit n = shift_below (suc max_shift) unit n

abbrev pub from_shift : ℕ → Option Align
from_shift shift = cond (leb shift max_shift) (at shift) None

-- 0 where 64 bits do not hold it
abbrev pub size_of : ℕ → ℕ → ℕ
size_of unit shift = cond (ltb (unit * 2 ^ shift) (2 ^ 64)) (unit * 2 ^ shift) 0
