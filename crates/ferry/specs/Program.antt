-- Document 01, "Program".
--     line_text a        the line of an answer
--     answer_to bytes    what the reader answers to the words of the bytes, in the outputs that the program lends
--     text_of bytes      the line that the program writes
-- Assumes nothing.
use Rattle.std.specs.Prelude.{cond, List, ℕ, length, Ok, Err}
use Rattle.wire.specs.Words.{is_stream, words_in}
use Rattle.wire.specs.Lines.{ok_text, refused_text}
use Rattle.ferry.specs.Answers.{Answer}
use Rattle.ferry.specs.Reader.{Lent, whole_of}

-- "It writes one line: `table ok N` or `table refused R P D`"
abbrev pub line_text : Answer → List ℕ
line_text (Ok entries) = ok_text entries
line_text (Err r) = refused_text r.number r.place r.detail

-- "It lends 8,192 words for rows, 8,192 for references, 8,192 name bytes and 1,024 witness words."
abbrev pub lends : Lent
lends = record { rows = 8192; refs = 8192; names = 8192; witness = 1024 }

abbrev pub answer_to : List ℕ → Answer
answer_to bytes = (whole_of lends (words_in bytes)).answer

-- "over 65,536 bytes or not a multiple of 8 counts as 1, 0, 0"
abbrev pub text_of : List ℕ → List ℕ
text_of bytes = cond (is_stream (length bytes)) (line_text (answer_to bytes)) (refused_text 1 0 0)
