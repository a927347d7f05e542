-- `flat::put::put_numbers` meets its contract: the count, kept to the room, then so many numbers behind it.
-- Assumes nothing.
use mathlib.Core.Path.{◌≡◌, refl}
use native.Mathlib.Omega.{arith}
use lib.ListN.{length, length-take}
use borrow.Author.Rules.{rules}
use Rattle.laws.proofs.Lists.{length-of-map}
use Rattle.flat.proofs.Laws.Puts.{Numbers-done}
use Rattle.flat.proofs.put.put_numbers.Goals as goal

pub returns : goal.returns
returns c =
    let items = c.args.numbers.items in
    let room : length items ≡ 16 = search (rules, length-of-map) in
    Numbers-done items c.args.numbers.count c.min.result 17 c.args.at _ c.args.out.now _ _
    (omega (arith, room, c.min.ensures)) refl (omega (arith, length-take c.min.result items, room)) c.put_behind.ensures
    c.put_behind-2.ensures
