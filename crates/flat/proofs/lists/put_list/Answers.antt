-- `flat::lists::put_list` meets its contract: the list's words, built apart, take the place of those that the layout had.
-- Assumes nothing.
use mathlib.Core.Path.{refl}
use borrow.Author.Rules.{rules}
use Rattle.flat.proofs.Laws.Lists.{list-taken, list-long, list-short, list-fits, widths-held, spaces-held}
use Rattle.flat.proofs.lists.put_list.Goals as goal

pub slice_bounds-replace-end : goal.slice_bounds-replace-end
slice_bounds-replace-end c = list-long refl c.put_numbers-count.ensures

pub replace-requires : goal.replace-requires
replace-requires c =
    (list-fits c.args.out.now c.requires c.starts-s.result c.starts-s.ensures _
    (list-short refl c.put_numbers-count.ensures)).0

pub slice_bounds-replace-end-in-NonIntegralAddressSpaces : goal.slice_bounds-replace-end-in-NonIntegralAddressSpaces
slice_bounds-replace-end-in-NonIntegralAddressSpaces c = list-long refl c.put_numbers-count.ensures

pub replace-requires-in-NonIntegralAddressSpaces : goal.replace-requires-in-NonIntegralAddressSpaces
replace-requires-in-NonIntegralAddressSpaces c =
    (list-fits c.args.out.now c.requires c.starts-s.result c.starts-s.ensures _
    (list-short refl c.put_numbers-count.ensures)).1

pub returns-in-NativeIntegerWidths : goal.returns-in-NativeIntegerWidths
returns-in-NativeIntegerWidths c =
    λ l sound h. rw c.in-NativeIntegerWidths.is (widths-held l c.starts-s.result (c.starts-s.ensures l sound h)
    c.args.numbers _ c.args.out.now c.replace.new.out (list-taken refl c.put_numbers-count.ensures) h
    (search rules) c.replace.ensures)

pub returns-in-NonIntegralAddressSpaces : goal.returns-in-NonIntegralAddressSpaces
returns-in-NonIntegralAddressSpaces c =
    λ l sound h. rw c.in-NonIntegralAddressSpaces.is (spaces-held l c.starts-s.result (c.starts-s.ensures l sound h)
    c.args.numbers _ c.args.out.now c.replace-in-NonIntegralAddressSpaces.new.out (list-taken refl c.put_numbers-count.ensures) h
    (search rules) c.replace-in-NonIntegralAddressSpaces.ensures)
