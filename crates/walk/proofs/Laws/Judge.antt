-- Laws of an entry's own rule, one for each way through `judge` and `first_bad`.
-- Assumes nothing.
use mathlib.Core.Path.{◌≡◌, ap}
use mathlib.Core.Bool.{Bool, true, false, not, ◌&&◌}
use mathlib.Core.List.{List}
use Prim.Native.Nat.{ℕ, ◌+◌, ◌≤◌, ◌<◌}
use native.Mathlib.Numerals.{add-one}
use lib.Dec.{eqb}
use lib.ListN.{length, get_or, take, drop, drop_of_length-le}
use lib.Seq.{drop-cons}
use Rattle.std.proofs.Common.{Some, subst}
use Rattle.units.specs.Limits.{is_integer_width}
use Rattle.kinds.specs.Kinds.{integer}
use Rattle.kinds.specs.Places.{allowed}
use Rattle.table.specs.declared.row.Row.{Row}
use Rattle.table.specs.Rows.{row_at}
use Rattle.ranks.specs.Table.{Verdict, kept, broken}
use Rattle.rules.specs.declared.Place.{Place}
use Rattle.rules.specs.Places.{place_at, not_allowed, suits}
use Rattle.rules.specs.Lawful.{refs_at, bad_width, number_of, first_bad, rule_at}

module _ (rows : List ℕ) (kind i : ℕ) (l : List ℕ) where
  pub first_bad-here : i < length l → {place : Place} {row : Row} → Some place ≡ place_at kind i → row ≡ row_at rows (get_or l i 0)
      → allowed (not_allowed (Some place)) row.kind ≡ false → broken (number_of place) (get_or l i 0) ≡ first_bad rows kind i (drop i l)
  unfolding first_bad
  first_bad-here lt is is_row h =
      let kind_of = ap (λ (x : Row). x.kind) is_row in
      let bad = rw kind_of at h in
      rw (drop-cons l i 0, ← is, bad)

  pub first_bad-past : i < length l → suits kind i (row_at rows (get_or l i 0)).kind ≡ true
      → first_bad rows kind i (drop i l) ≡ first_bad rows kind (i + 1) (drop (i + 1) l)
  unfolding first_bad
  first_bad-past lt h = rw (drop-cons l i 0, h, add-one)

  pub first_bad-none : length l ≤ i → kept ≡ first_bad rows kind i (drop i l)
  unfolding first_bad
  first_bad-none past = rw (drop_of_length-le l {i = i} past)

-- the references of an entry, as the code reads them
pub refs_at-row : (rows refs : List ℕ) (e : ℕ) {row : Row} {l : List ℕ} → row ≡ row_at rows e → l ≡ take row.count (drop row.first refs)
    → l ≡ refs_at rows refs e
refs_at-row rows refs e {l = l} q h = let P : Row → Type 0 = λ r. l ≡ take r.count (drop r.first refs) in subst P q h

-- the own rule, as the code asks it
module _ (rows refs : List ℕ) (e : ℕ) {row : Row} (is_row : row ≡ row_at rows e) where
  asked : (b : Bool) → eqb row.kind integer && not (is_integer_width row.number) ≡ b
      → eqb (row_at rows e).kind integer && not (is_integer_width (row_at rows e).number) ≡ b
  asked b h = let P : Row → Type 0 = λ r. eqb r.kind integer && not (is_integer_width r.number) ≡ b in subst P is_row h

  pub rule_at-width : row.kind ≡ integer → is_integer_width row.number ≡ false → broken bad_width row.number ≡ rule_at rows refs e
  unfolding rule_at
  rule_at-width kind wide =
      let number = ap (λ (x : Row). x.number) is_row in
      rw (asked true (rw (kind, wide)), number)

  pub rule_at-refs : {rs : List ℕ} {v : Verdict} → eqb row.kind integer && not (is_integer_width row.number) ≡ false
      → rs ≡ take row.count (drop row.first refs) → v ≡ first_bad rows row.kind 0 rs → v ≡ rule_at rows refs e
  unfolding rule_at
  rule_at-refs test cut is =
      let kind = ap (λ (x : Row). x.kind) is_row in
      rw (asked false test) (rw (refs_at-row rows refs e is_row cut, kind) at is)
