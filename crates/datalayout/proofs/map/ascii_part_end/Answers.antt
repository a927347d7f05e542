-- `datalayout::map::ascii_part_end` meets its contract: the search finds whichever end comes first.
-- Assumes nothing.
use Rattle.datalayout.proofs.Laws.Ascii.{first_from}
use Rattle.datalayout.proofs.map.ascii_part_end.Goals as goal

pub returns : goal.returns
returns c =
    let args = c.args in
    first_from args.separator args.from _ _ _ args.value.now c.min.ensures c.stop.ensures c.unwrap_or.ensures
