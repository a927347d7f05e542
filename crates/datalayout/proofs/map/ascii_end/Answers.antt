-- `datalayout::map::ascii_end` meets its contract. A search for 128 stops no later than one for a byte that is not ASCII.
-- Assumes nothing.
use native.Mathlib.Omega.{arith}
use lib.ListN.{drop}
use Rattle.datalayout.proofs.Laws.Ascii.{ascii_up_to-le-up_to}
use Rattle.datalayout.proofs.map.ascii_end.Goals as goal

pub returns : goal.returns
returns c =
    let args = c.args in
    omega (arith, c.ascii_part_end.ensures, ascii_up_to-le-up_to 128 (drop args.from args.value.now) (omega arith))
