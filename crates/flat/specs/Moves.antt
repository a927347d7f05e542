-- Stretches of words in a lent buffer behind which all is 0. No public contract cites this.
--     Shifts from end to before after             the words from `from` to `end` start at `to`, and zeros stand behind them
--     Replaces src at behind end before after     the words from `at` to `behind` gave way to src; those up to `end` stand behind it
--     EachWide wide rows                           every row has so many words
--     same_key both new row                        the same first word, and the same second one where both count
-- Assumes nothing.
use Rattle.std.specs.Prelude.{◌≡◌, Bool, ◌&&◌, cond, List, [], ◌∷◌, ◌++◌, ℕ, eqb, length, get_or, take}
use Rattle.table.specs.Buffers.{padded}

abbrev pub Shifts : ℕ → ℕ → ℕ → List ℕ → List ℕ → Type 0
Shifts from end to before after =
    (a c : List ℕ) → before ≡ padded (length before) (a ++ c) → from ≡ length a → end ≡ length (a ++ c)
    → after ≡ padded (length before) (take to before ++ c)

abbrev pub Replaces : List ℕ → ℕ → ℕ → ℕ → List ℕ → List ℕ → Type 0
Replaces src at behind end before after =
    (a b c : List ℕ) → before ≡ padded (length before) (a ++ (b ++ c)) → at ≡ length a → behind ≡ length (a ++ b)
    → end ≡ length (a ++ (b ++ c)) → after ≡ padded (length before) (a ++ (src ++ c))

abbrev pub EachWide : ℕ → List (List ℕ) → Type 0
EachWide wide [] = Unit {0}
EachWide wide (row ∷ rows) = (length row ≡ wide) × EachWide wide rows

abbrev pub same_key : Bool → List ℕ → List ℕ → Bool
same_key both new row =
    cond both (eqb (get_or new 0 0) (get_or row 0 0) && eqb (get_or new 1 0) (get_or row 1 0)) (eqb (get_or new 0 0) (get_or row 0 0))
