-- Document 01, "Resolution" and "Refusal numbers" 11 to 18: the table that lent rows and references say.
--     max_entries             how many entries a table has at most
--     refs_at rows refs e     the references of entry e; a stretch that leaves the buffer is clipped
--     bad_width, number_of     the refusals' numbers
--     barred place r         the verdict on the reference r that may not stand in that place
--     first_bad .. i refs     the first reference, from number i on, whose kind may not stand there
--     rule_at rows refs e     the own rule of entry e: kept, or the refusal's number and detail
--     table_of rows refs n    the first n entries
-- Assumes nothing.
use Rattle.std.specs.Prelude.{not, cond, ◌&&◌, List, [], ◌∷◌, ℕ, suc, eqb, take, drop, Option, Some, None}
use Rattle.units.specs.Limits.{is_integer_width}
use Rattle.kinds.specs.Kinds.{integer}
use Rattle.table.specs.Rows as rows
use Rattle.table.specs.Rows.{row_at}
use Rattle.ranks.specs.Table.{Verdict, kept, broken, Table}
use Rattle.rules.specs.declared.Place.{Place}
use Rattle.rules.specs.declared.Place.TheVariants.{Pointee, ArrayElement, StructElement, VectorElement, Return, Argument}
use Rattle.rules.specs.Places.{place_at, suits}
use Rattle.rules.specs.Counts.{counted}

-- "the count is at most 4,096"
abbrev pub max_entries : ℕ
max_entries = rows.max_entries

abbrev pub refs_at : List ℕ → List ℕ → ℕ → List ℕ
refs_at rows refs e = take (row_at rows e).count (drop (row_at rows e).first refs)

-- "12 | width"
abbrev pub bad_width : ℕ
bad_width = 12

-- "13, 14, 15, 16 | pointee, array, vector, struct field"; "17, 18 | return, first bad parameter"
abbrev pub number_of : Place → ℕ
number_of Pointee = 13
number_of ArrayElement = 14
number_of VectorElement = 15
number_of StructElement = 16
number_of Return = 17
number_of Argument = 18

-- "entry, first bad referent"; nothing is barred where the table has no line
abbrev pub barred : Option Place → ℕ → Verdict
barred None r = kept
barred (Some place) r = broken (number_of place) r

-- "first bad referent", from reference number i of an entry of the kind on
unfoldable pub first_bad : List ℕ → ℕ → ℕ → List ℕ → Verdict
first_bad rows kind i [] = kept
first_bad rows kind i (r ∷ rs) = cond (suits kind i (row_at rows r).kind) (first_bad rows kind (suc i) rs)
    (barred (place_at kind i) r)

unfoldable pub rule_at : List ℕ → List ℕ → ℕ → Verdict
rule_at rows refs e =
    let row = row_at rows e in
    cond (eqb row.kind integer && not (is_integer_width row.number)) (broken bad_width row.number)
    (first_bad rows row.kind 0 (refs_at rows refs e))

abbrev pub table_of : List ℕ → List ℕ → ℕ → Table
table_of rows refs n = record {
  count = n;
  refs = refs_at rows refs;
  counts = λ e r. counted (row_at rows e) (row_at rows r);
  rule = rule_at rows refs;
}
