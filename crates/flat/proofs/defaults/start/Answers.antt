-- `flat::defaults::start` meets its contract: the default layout's words over zeros.
-- Assumes nothing.
use Rattle.flat.proofs.Laws.Start.{default-held}
use Rattle.flat.proofs.defaults.start.Goals as goal

pub returns : goal.returns
returns c = default-held c.args.out.now _ _ c.requires (c.fill.ensures.after (λ y e. e)) c.put_words.ensures
