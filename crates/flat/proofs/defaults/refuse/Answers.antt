-- `flat::defaults::refuse` meets its contract: the default layout is held, so its words are laid over zeros.
-- Assumes nothing.
use borrow.Author.Rules.{rules}
use Rattle.flat.proofs.Laws.Start.{refused-reads}
use Rattle.flat.proofs.defaults.refuse.Goals as goal

pub returns : goal.returns
returns c = refused-reads c.args.error c.args.out.now _ (search rules) c.start.ensures
