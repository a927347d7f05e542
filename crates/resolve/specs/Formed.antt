-- Document 01, "Resolution": what of the checker's answer speaks neither of the rules that the walk judges nor of ranks.
--     table_formed rows refs names n     the first n rows are well formed, as the first pass leaves them, and within the limit
-- Assumes nothing.
use Rattle.std.specs.Prelude.{Bool, ◌&&◌, List, ℕ, leb}
use Rattle.rules.specs.Lawful.{max_entries}
use Rattle.formed.specs.Formed.{well_formed}

-- "the count is at most 4,096, rows .. hold that many, every row is well formed as above"
unfoldable pub table_formed : List ℕ → List ℕ → List ℕ → ℕ → Bool
table_formed rows refs names n = leb n max_entries && well_formed rows refs names n
