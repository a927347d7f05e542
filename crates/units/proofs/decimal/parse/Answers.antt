-- `units::decimal::parse` meets its contract: the optional plus is passed over, and the digits are the rest of the part.
-- Assumes nothing.
use mathlib.Core.Path.{refl, ◌∙◌}
use Rattle.units.proofs.Laws.Decimal.{decimal-of-rest}
use Rattle.units.proofs.decimal.parse.Goals as goal

pub returns : goal.returns
returns g c = (rw c.unwrap_or.ensures at c.read_digits.ensures) ∙ decimal-of-rest g.row.MOST c.args.s _ refl c.strip_prefix.result c.strip_prefix.ensures.cases
