-- Document 01, "Resolution": what the checker answers.
--     every_from test i xs            the test holds of each, with its number
--     refers rows ranks n e i to     reference number i of entry e, to the entry to, is lawful
--     lawful .. e                    the width of e and its references are
--     entry_ok .. e r k               and its row is well formed behind r references and k name bytes
--     rows_from .. left e r k         so are the rows from e on
--     checked                        the checker's answer
-- Assumes nothing.
use Rattle.std.specs.Prelude.{Bool, true, not, ◌&&◌, ◌||◌, List, [], ◌∷◌, ℕ, zero, suc, ◌+◌, eqb, leb, ltb, length, get_or}
use Rattle.units.specs.Limits.{is_integer_width}
use Rattle.kinds.specs.Kinds.{integer}
use Rattle.table.specs.Rows.{entry_room, row_at}
use Rattle.rules.specs.Places.{suits}
use Rattle.rules.specs.Counts.{counted}
use Rattle.rules.specs.Lawful.{max_entries, refs_at}
use Rattle.formed.specs.Formed.{row_ok}

-- a test holds of each element with its number, from i on
unfoldable pub every_from : (ℕ → ℕ → Bool) → ℕ → List ℕ → Bool
every_from test i [] = true
every_from test i (x ∷ xs) = test i x && every_from test (suc i) xs

-- "references are in range", "every .. kind rule holds", "ranks fall strictly along each"
unfoldable pub refers : List ℕ → List ℕ → ℕ → ℕ → ℕ → ℕ → Bool
refers rows ranks n e i to =
    ltb to n
    && (suits (row_at rows e).kind i (row_at rows to).kind
    && (not (counted (row_at rows e) (row_at rows to)) || ltb (get_or ranks to 0) (get_or ranks e 0)))

-- "every width .. rule holds"
abbrev pub lawful : List ℕ → List ℕ → List ℕ → ℕ → ℕ → Bool
lawful rows refs ranks n e =
    not (eqb (row_at rows e).kind integer && not (is_integer_width (row_at rows e).number))
    && every_from (refers rows ranks n e) 0 (refs_at rows refs e)

abbrev pub entry_ok : List ℕ → List ℕ → ℕ → List ℕ → ℕ → ℕ → ℕ → ℕ → Bool
entry_ok rows refs name_room ranks n e r k = row_ok rows (length refs) name_room e r k && lawful rows refs ranks n e

unfoldable pub rows_from : List ℕ → List ℕ → ℕ → List ℕ → ℕ → ℕ → ℕ → ℕ → ℕ → Bool
rows_from rows refs name_room ranks n zero e r k = true
rows_from rows refs name_room ranks n (suc left) e r k =
    entry_ok rows refs name_room ranks n e r k
    && rows_from rows refs name_room ranks n left (suc e) (r + (row_at rows e).count) (k + (row_at rows e).len)

-- "It says yes exactly if the count is at most 4,096, rows and ranks hold that many, .."
unfoldable pub checked : List ℕ → List ℕ → List ℕ → List ℕ → ℕ → Bool
checked rows refs names ranks n =
    leb n max_entries
    && (leb n (entry_room (length rows)) && (leb n (length ranks) && rows_from rows refs (length names) ranks n n 0 0 0))
