-- `units::align::Align::byte_align` meets its contract: a shift up to 63 fits a word, and a larger one does not.
-- Assumes nothing.
use mathlib.Core.Path.{refl}
use native.Mathlib.Omega.{arith}
use Rattle.units.proofs.Laws.Align.{size_of-held, size_of-past}
use Rattle.units.proofs.align.Align.byte_align.Goals as goal

pub returns-then-shift-le-MAX_SHIFT : goal.returns-then-shift-le-MAX_SHIFT
returns-then-shift-le-MAX_SHIFT c = rw c.shift-shift.ensures (size_of-held 1 0 c.args.self.0 refl (omega arith))

pub returns-else-shift-le-MAX_SHIFT : goal.returns-else-shift-le-MAX_SHIFT
returns-else-shift-le-MAX_SHIFT c = size_of-past 1 0 c.args.self.0 refl (omega arith)
