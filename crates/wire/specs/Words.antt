-- Document 01, "Program": "Standard input holds little-endian words; over 65,536 bytes or not a multiple of 8 counts as 1, 0, 0."
--     is_stream n      so many bytes are a stream of words
--     words_in bytes   the words of the bytes, eight bytes each
-- Assumes nothing.
use Rattle.std.specs.Prelude.{Bool, ◌&&◌, List, [], ◌∷◌, ℕ, zero, suc, ◌+◌, ◌*◌, ◌/◌, ◌%◌, eqb, leb, length, take, drop}

abbrev pub is_stream : ℕ → Bool
is_stream n = leb n 65536 && eqb (n % 8) 0

-- "little-endian"
unfoldable pub word_of : List ℕ → ℕ
word_of [] = 0
word_of (b ∷ bs) = word_of bs * 256 + b

-- the first `count` words
unfoldable pub first_words : ℕ → List ℕ → List ℕ
first_words zero bytes = []
first_words (suc count) bytes = word_of (take 8 bytes) ∷ first_words count (drop 8 bytes)

abbrev pub words_in : List ℕ → List ℕ
words_in bytes = first_words (length bytes / 8) bytes
