-- Document 01, "Type stream and table": the name lookup.
--     stretch_in whole row bytes  the stretch that a row, which is whole or not, names in a name buffer of so many bytes
--     stretch_of rows bytes e     the same, for the row of entry e
--     has_name rows bytes e       there is one
--     IsName rows e names at part place     the part, which stands at the place, is that stretch of the names, which stand at `at`
-- Assumes nothing.
use Rattle.std.specs.Prelude.{◌≡◌, Bool, ◌&&◌, cond, List, ℕ, ◌+◌, ◌-◌, eqb, leb, ltb, length, take, drop, Option, Some, None}
use Rattle.std.specs.Option.{is_some}
use Rattle.kinds.specs.Kinds.{struct}
use Rattle.table.specs.declared.row.Row.{Row}
use Rattle.table.specs.Rows.{entry_room, row_at}
use Rattle.std.specs.declared.ops.Range.{Range}

-- "There is none exactly if the row is not whole in the lent rows, its kind is not 16, its eighth word is not 1, or its stretch
-- leaves the buffer."
abbrev pub is_named_in : Bool → Row → ℕ → Bool
is_named_in whole row bytes =
    whole && (eqb row.kind struct && (eqb row.named 1 && leb (row.start + row.len) bytes))

unfoldable pub stretch_in : Bool → Row → ℕ → Option (Range ℕ)
stretch_in whole row bytes =
    cond (is_named_in whole row bytes) (Some (record { start = row.start; end = row.start + row.len })) None

abbrev pub stretch_of : List ℕ → ℕ → ℕ → Option (Range ℕ)
stretch_of rows bytes e = stretch_in (ltb e (entry_room (length rows))) (row_at rows e) bytes

-- "Whether there is one is a question apart"
abbrev pub has_name : List ℕ → ℕ → ℕ → Bool
has_name rows bytes e = is_some (stretch_of rows bytes e)

-- "where there is none the part is the buffer's first 0 bytes"
abbrev pub start_of : Option (Range ℕ) → ℕ
start_of (Some stretch) = stretch.start
start_of None = 0

abbrev pub length_of : Option (Range ℕ) → ℕ
length_of (Some stretch) = stretch.end - stretch.start
length_of None = 0

-- "comes back as the very part of the lent name buffer": its bytes, the block that it lies in, and its place in that block
pub record IsName (rows : List ℕ) (e : ℕ) (names : List ℕ) (at : ℕ × ℕ) (part : List ℕ) (place : ℕ × ℕ) : Type 0 where
  pub bytes : part ≡ take (length_of (stretch_of rows (length names) e)) (drop (start_of (stretch_of rows (length names) e)) names)
  pub block : place.0 ≡ at.0
  pub offset : place.1 ≡ start_of (stretch_of rows (length names) e) + at.1
