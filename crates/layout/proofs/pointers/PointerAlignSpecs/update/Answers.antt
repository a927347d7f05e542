-- `layout::pointers::PointerAlignSpecs::update` meets its contract, by what `put` leaves of a room of 32 rows.
-- Assumes nothing.
use mathlib.Core.Path.{◌≡◌, sym, ◌∙◌}
use mathlib.Core.List.{List}
use Prim.Native.Nat.{ℕ}
use lib.ListN.{length}
use borrow.Author.Rules.{rules}
use Rattle.laws.proofs.Lists.{length-of-map}
use Rattle.layout.specs.declared.pointers.PointerAlignSpec.{PointerAlignSpec}
use Rattle.layout.specs.Pointers.{max_pointer_rows, updated_pointers}
use Rattle.layout.proofs.Laws.Rows.{none-made, some-made}
use Rattle.layout.proofs.pointers.PointerAlignSpecs.update.Goals as goal

pub returns-in_err-self : goal.returns-in_err-self
unfolding updated_pointers
returns-in_err-self c =
    let room : length c.args.self.rows ≡ max_pointer_rows = search (rules, length-of-map) in
    let count = rw room at c.put.ensures.count in
    c.from_residual.ensures ∙ none-made _ _ _ (λ (rows : List PointerAlignSpec) (count : ℕ). record { rows = rows; count = count }) (sym c.in_err-self.was ∙ count)

pub returns : goal.returns
unfolding updated_pointers
returns c =
    let room : length c.args.self.rows ≡ max_pointer_rows = search (rules, length-of-map) in
    let count = rw room at c.put.ensures.count in
    let rows = rw room at c.put.ensures.rows in
    some-made _ _ _ (λ (rows : List PointerAlignSpec) (count : ℕ). record { rows = rows; count = count }) _ _ _ (sym c.in_ok-self.was ∙ count) rows
