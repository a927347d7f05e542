-- Laws of specs/Names.antt: what a stretch that was found tells, and what is lent in either case. Named in docs/TRACE.md.
-- Assumes nothing.
use Rattle.std.proofs.Common.{◌≡◌, refl, Bool, true, false, ℕ, ◌+◌, ◌-◌, ◌≤◌, ◌<◌, List, [], length, take, drop, Some, None, arith}
use borrow.Author.Tests.{lt-ltb, le-leb, lt-leb, eq-eqb, ne_eqb}
use Rattle.std.specs.Option.{is_some}
use Rattle.std.proofs.lemmas.Bool.Decides.{nat_tests}
use Rattle.laws.proofs.Bools.{and-false}
use Rattle.kinds.specs.Kinds.{struct}
use Rattle.table.specs.declared.row.Row.{Row}
use Rattle.table.specs.Rows.{entry_room, row_at}
use Rattle.lookup.specs.Names.{stretch_in, stretch_of, start_of, length_of, IsName}

-- one for each way through the test of a row: not whole in the lent rows, or read and whole

pub stretch_of-outside : (rows : List ℕ) (bytes e room : ℕ) → room ≡ entry_room (length rows) → room ≤ e → None ≡ stretch_of rows bytes e
unfolding stretch_in
stretch_of-outside rows bytes e room is out = grind (arith, nat_tests)

module _ (rows : List ℕ) (bytes e room : ℕ) (row : Row)
    (is : room ≡ entry_room (length rows)) (in_rows : e < room) (read : row ≡ row_at rows e) where
  whole : stretch_in true row bytes ≡ stretch_of rows bytes e
  whole = rw (lt-ltb e (entry_room (length rows)) (omega arith), read)

  pub stretch_of-other-kind : (row.kind ≡ struct → ⊥) → None ≡ stretch_of rows bytes e
  unfolding stretch_in
  stretch_of-other-kind ne = rw (ne_eqb row.kind struct ne) at whole

  pub stretch_of-no-name : (row.named ≡ 1 → ⊥) → None ≡ stretch_of rows bytes e
  unfolding stretch_in
  stretch_of-no-name ne = rw (ne_eqb row.named 1 ne, and-false) at whole

  pub stretch_of-leaves : bytes < row.start + row.len → None ≡ stretch_of rows bytes e
  unfolding stretch_in
  stretch_of-leaves past = rw (lt-leb (row.start + row.len) bytes past, and-false, and-false) at whole

  pub stretch_of-found : row.kind ≡ struct → row.named ≡ 1 → row.start + row.len ≤ bytes
      → Some (record { start = row.start; end = row.start + row.len }) ≡ stretch_of rows bytes e
  unfolding stretch_in
  stretch_of-found kind named inside =
      rw (eq-eqb row.kind struct kind, eq-eqb row.named 1 named, le-leb (row.start + row.len) bytes inside) at whole

-- a stretch that was found lies in the buffer
pub record InBuffer (start end bytes : ℕ) : Type 0 where
  pub rising : start ≤ end
  pub inside : end ≤ bytes

pub InBuffer-of-found : (rows : List ℕ) (bytes e start end : ℕ) → Some (record { start = start; end = end }) ≡ stretch_of rows bytes e
    → InBuffer start end bytes
unfolding stretch_in
InBuffer-of-found rows bytes e start end is = record { rising = grind (arith, nat_tests); inside = grind (arith, nat_tests) }

-- the part that is lent in either case
pub IsName-of-found : (rows : List ℕ) (e : ℕ) (names : List ℕ) (at : ℕ × ℕ) (start end : ℕ)
    → Some (record { start = start; end = end }) ≡ stretch_of rows (length names) e
    → IsName rows e names at (take (end - start) (drop start names)) (at.0, start + at.1)
IsName-of-found rows e names at start end is = record { bytes = rw (← is); block = refl; offset = rw (← is) }

pub IsName-of-none : (rows : List ℕ) (e : ℕ) (names : List ℕ) (at : ℕ × ℕ)
    → None ≡ stretch_of rows (length names) e → IsName rows e names at [] at
IsName-of-none rows e names at is = record { bytes = rw (← is); block = refl; offset = rw (← is) (omega arith) }

-- what the answer to `has_name` tells of the stretch: a name is where the row says, and without one start and length are 0
module _ (whole : Bool) (row : Row) (bytes : ℕ) where
  pub start_of-named : is_some (stretch_in whole row bytes) ≡ true → start_of (stretch_in whole row bytes) ≡ row.start
  unfolding stretch_in
  start_of-named h = grind (arith, nat_tests)

  pub length_of-named : is_some (stretch_in whole row bytes) ≡ true → length_of (stretch_in whole row bytes) ≡ row.len
  unfolding stretch_in
  length_of-named h = grind (arith, nat_tests)

  pub start_of-none : is_some (stretch_in whole row bytes) ≡ false → start_of (stretch_in whole row bytes) ≡ 0
  unfolding stretch_in
  start_of-none h = grind (arith, nat_tests)

  pub length_of-none : is_some (stretch_in whole row bytes) ≡ false → length_of (stretch_in whole row bytes) ≡ 0
  unfolding stretch_in
  length_of-none h = grind (arith, nat_tests)
