-- `flat::moves::replace` meets its contract: the words behind are shifted to where the others end, and these are laid before them.
-- Assumes nothing.
use native.Mathlib.Omega.{arith}
use Rattle.flat.proofs.Laws.Shifts.{Replaces-done}
use Rattle.flat.proofs.moves.replace.Goals as goal

pub returns : goal.returns
returns c =
    let args = c.args in
    Replaces-done args.at args.behind args.end args.src.now args.out.now _ _ (omega (arith, c.requires))
    c.shift.ensures c.put_words.ensures
