-- `flat::read::read_layout` meets its contract: read in place, or into a whole buffer of which the front is handed on.
-- Assumes nothing.
use native.Mathlib.Omega.{arith}
use Rattle.flat.proofs.Laws.Start.{short-reads}
use Rattle.flat.proofs.read.read_layout.Goals as goal

pub returns : goal.returns
returns c = short-reads _ _ _ c.args.out.now _ _ (omega arith) c.read_whole-laid.ensures c.put_words.ensures
