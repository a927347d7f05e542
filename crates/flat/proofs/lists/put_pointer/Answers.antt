-- `flat::lists::put_pointer` meets its contract: the rows stand where `starts` says, and what `put_row` makes of their words is what the
-- layout's rows become.
-- Assumes nothing.
use mathlib.Core.Path.{ap}
use native.Mathlib.Omega.{arith}
use lib.ListN.{length}
use borrow.Author.Rules.{rules}
use Rattle.flat.proofs.Laws.Kinds.{pointer-rows-kept, pointer-did}
use Rattle.flat.proofs.lists.put_pointer.Goals as goal

pub put_row-requires : goal.put_row-requires
put_row-requires c =
    let long = ap length c.words-words.ensures in
    let rows = pointer-rows-kept c.args.out.now c.words-words.result c.starts-s.result c.requires
    c.starts-s.ensures long in
    (omega arith, (rows, omega arith))

pub returns : goal.returns
returns c =
    λ l s h. pointer-did l c.starts-s.result c.words-words.result c.args.out.now c.put_row.new.out
    c.put_row.result s h (c.starts-s.ensures l s h) (search rules) c.args.row c.words-words.ensures
    c.put_row.ensures
