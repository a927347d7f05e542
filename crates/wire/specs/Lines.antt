-- Document 01, "Program": "It writes one line: `table ok N` or `table refused R P D`, decimal, newline after."
--     decimal_text n          the decimal digits of n;  text_in f n  the same, at most f digits: f only makes it end
--     ok_text, refused_text    the two lines
--     line_of text            a line that holds the text, as far as there is room, and zeros behind it
-- Assumes nothing.
use Rattle.std.specs.Prelude.{cond, List, [], ◌∷◌, ◌++◌, ℕ, zero, suc, ◌+◌, ◌/◌, ◌%◌, min, ltb, length, take, codes}
use Rattle.table.specs.Buffers.{padded}
use Rattle.wire.specs.declared.line.Line.{Line}

-- `0` is 48
abbrev pub digit : ℕ → ℕ
digit d = 48 + d

unfoldable pub text_in : ℕ → ℕ → List ℕ
text_in zero n = []
text_in (suc f) n = cond (ltb n 10) (digit n ∷ []) (text_in f (n / 10) ++ (digit (n % 10) ∷ []))

abbrev pub decimal_text : ℕ → List ℕ
decimal_text n = text_in (suc n) n

abbrev pub ok_head : List ℕ
ok_head = codes "table ok "

abbrev pub refused_head : List ℕ
refused_head = codes "table refused "

-- "newline after"
abbrev newline : List ℕ
newline = codes "\n"

-- "`table ok N`"
abbrev pub ok_text : ℕ → List ℕ
ok_text entries = ok_head ++ decimal_text entries ++ newline

-- "`table refused R P D`"
abbrev pub refused_text : ℕ → ℕ → ℕ → List ℕ
refused_text number place detail =
    refused_head ++ decimal_text number ++ codes " " ++ decimal_text place ++ codes " " ++ decimal_text detail ++ newline

abbrev pub line_bytes : ℕ
line_bytes = 80

unfoldable pub line_of : List ℕ → Line
line_of text = record { bytes = padded line_bytes (take line_bytes text); len = min line_bytes (length text) }
