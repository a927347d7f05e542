-- Two words that the definitions of every crate are written in. They speak of no document.
--     within first last n   n is one of the numbers from first to last
--     listed ns n           n is one of the numbers ns
-- Assumes nothing.
use Rattle.std.specs.Prelude.{Bool, false, ◌&&◌, ◌||◌, List, [], ◌∷◌, ℕ, eqb, leb}

abbrev pub within : ℕ → ℕ → ℕ → Bool
within first last n = leb first n && leb n last

abbrev pub listed : List ℕ → ℕ → Bool
listed [] n = false
listed (m ∷ ms) n = eqb n m || listed ms n
