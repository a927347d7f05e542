-- A run of words that is laid over a lent buffer.
--     Behind words at before after            after is before with the words behind the first `at`, over whatever stood there
--     Part words most at before end after     the same, and the words, at most so many, end at `end`
--     max_words                                no layout has more words
--     Puts words before count after           after is before with the words over its front, and the count is theirs
-- Assumes nothing.
use Rattle.std.specs.Prelude.{◌≡◌, List, ◌++◌, ℕ, ◌+◌, ◌≤◌, length}
use Rattle.table.specs.Buffers.{over}

abbrev pub Behind : List ℕ → ℕ → List ℕ → List ℕ → Type 0
Behind words at before after = (xs b : List ℕ) → before ≡ over xs b → at ≡ length xs → after ≡ over (xs ++ words) b

-- what a part of the layout leaves, from `at` on
pub record Part (words : List ℕ) (most at : ℕ) (before : List ℕ) (end : ℕ) (after : List ℕ) : Type 0 where
  pub ends : end ≡ at + length words
  pub bounded : end ≤ at + most
  pub content : Behind words at before after

-- the nine words of the head; 16 widths, 16 spaces, 64 type rows of four words and 32 pointer rows of five, each list
-- with its count
abbrev pub max_words : ℕ
max_words = 9 + 17 + 17 + 257 + 161

pub record Puts (words before : List ℕ) (count : ℕ) (after : List ℕ) : Type 0 where
  pub counts : count ≡ length words
  pub bounded : count ≤ max_words
  pub content : after ≡ over words before
