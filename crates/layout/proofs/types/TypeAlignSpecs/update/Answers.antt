-- `layout::types::TypeAlignSpecs::update` meets its contract, by what `put` leaves of a room of 64 rows.
-- Assumes nothing.
use mathlib.Core.Path.{◌≡◌, sym, ◌∙◌}
use mathlib.Core.List.{List}
use Prim.Native.Nat.{ℕ}
use lib.ListN.{length}
use borrow.Author.Rules.{rules}
use Rattle.laws.proofs.Lists.{length-of-map}
use Rattle.layout.specs.declared.types.TypeAlignSpec.{TypeAlignSpec}
use Rattle.layout.specs.Types.{max_type_rows, updated_types}
use Rattle.layout.proofs.Laws.Rows.{none-made, some-made}
use Rattle.layout.proofs.types.TypeAlignSpecs.update.Goals as goal

pub returns-in_err-self : goal.returns-in_err-self
unfolding updated_types
returns-in_err-self c =
    let room : length c.args.self.rows ≡ max_type_rows = search (rules, length-of-map) in
    let count = rw room at c.put.ensures.count in
    c.from_residual.ensures ∙ none-made _ _ _ (λ (rows : List TypeAlignSpec) (count : ℕ). record { rows = rows; count = count }) (sym c.in_err-self.was ∙ count)

pub returns : goal.returns
unfolding updated_types
returns c =
    let room : length c.args.self.rows ≡ max_type_rows = search (rules, length-of-map) in
    let count = rw room at c.put.ensures.count in
    let rows = rw room at c.put.ensures.rows in
    some-made _ _ _ (λ (rows : List TypeAlignSpec) (count : ℕ). record { rows = rows; count = count }) _ _ _ (sym c.in_ok-self.was ∙ count) rows
