-- `units::align::Align::bit_align` meets its contract: three bits are spent on the unit, so a shift up to 60 fits a word.
-- Assumes nothing.
use mathlib.Core.Path.{refl}
use native.Mathlib.Omega.{arith}
use Rattle.units.proofs.Laws.Align.{size_of-held, size_of-past}
use Rattle.units.proofs.align.Align.bit_align.Goals as goal

pub returns-then-shift : goal.returns-then-shift
returns-then-shift c = rw c.shift-shift.ensures (size_of-held 8 3 c.args.self.0 refl (omega arith))

pub returns-else-shift : goal.returns-else-shift
returns-else-shift c = size_of-past 8 3 c.args.self.0 refl (omega arith)
