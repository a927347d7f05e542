-- `flat::put::put_layout` meets its contract: the head, then each part behind the one before.
-- Assumes nothing.
use mathlib.Core.Path.{◌≡◌, refl}
use lib.ListN.{length}
use borrow.Author.Rules.{rules}
use Rattle.laws.proofs.Lists.{length-of-map}
use Rattle.flat.specs.Words.{head_words, layout_words}
use Rattle.flat.proofs.Laws.Puts.{Layout-done}
use Rattle.flat.proofs.put.put_layout.Goals as goal

pub returns : goal.returns
unfolding layout_words
returns c =
    let layout = c.args.layout in
    let types : length layout.type_alignments.rows ≡ 64 = search (rules, length-of-map) in
    let pointers : length layout.pointer_alignments.rows ≡ 32 = search (rules, length-of-map) in
    Layout-done (head_words layout) _ _ _ _ _ _ _ _ _ _ _ _ _ _ _ c.head_words.ensures refl
    c.put_behind.ensures c.put_numbers-behind_widths.ensures c.put_numbers-behind_spaces.ensures
    (rw types at c.put_rows-behind_types.ensures) (rw pointers at c.put_rows.ensures)
