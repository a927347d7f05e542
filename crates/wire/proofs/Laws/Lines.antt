-- Laws of specs/Lines.antt.
--     decimal_text_is                    the digits are std's
--     ok_text-fits, refused_text-fits    no line of numbers of 64 bits is longer than 80 bytes
--     ok_text-ascii, refused_text-ascii  a line is ASCII, and so a string, whatever its numbers
--     line_of-short                      a text that has room stands whole in its line;  line_of_laid  laid over zeros
-- Assumes nothing.
use mathlib.Core.Path.{◌≡◌, sym}
use mathlib.Core.List.{List, ◌++◌}
use Prim.Native.Nat.{ℕ, zero, suc, ◌-◌, ◌/◌, ◌^◌, ◌<◌, ◌≤◌, min}
use lib.ListN.{length, drop, length-append}
use lib.Seq.{take_all}
use borrow.Author.Tests.{ltb-true}
use Rattle.table.specs.Buffers.{padded, zeros}
use Rattle.table.proofs.Laws.Buffers.{drop-zeros}
use Rattle.std.specs.Prelude.{codes}
use Rattle.std.specs.Fmt.{decimal}
use Rattle.std.specs.Str.{IsAscii}
use Rattle.std.proofs.lemmas.Fmt.{decimal_from_appends, length-decimal-le, length-decimal-le_succ}
use Rattle.std.proofs.lemmas.Str.{IsAscii-append}
use Rattle.std.proofs.lemmas.Str.Ascii.{IsAscii-nil, IsAscii-cons}
use Rattle.std.proofs.Common.{rules, arith}
use Rattle.wire.specs.Lines.{line_bytes, line_of, text_in, decimal_text, refused_head, ok_text, refused_text}

pub decimal_text_is : (n : ℕ) → n < 2 ^ 64 → decimal_text n ≡ decimal n
unfolding text_in
decimal_text_is n lt =
    let short = length-decimal-le_succ n lt in
    decimal_from_appends text_in (search rules) (suc n) n lt (omega (arith, short))

-- Named in docs/TRACE.md and DECISIONS.md.
decimal_text-short : (n : ℕ) → n < 2 ^ 64 → length (decimal_text n) ≤ 20
decimal_text-short n lt = rw (decimal_text_is n lt) (length-decimal-le 20 n (omega arith) (omega arith) lt)

pub ok_text-fits : (entries : ℕ) → entries < 2 ^ 64 → length (ok_text entries) ≤ line_bytes
ok_text-fits entries lt = simp length-append (omega (arith, decimal_text-short entries lt))

pub refused_text-fits : (number place detail : ℕ) → number < 2 ^ 64 → place < 2 ^ 64 → detail < 2 ^ 64
    → length (refused_text number place detail) ≤ line_bytes
refused_text-fits number place detail a b c =
    simp length-append (omega (arith, decimal_text-short number a, decimal_text-short place b, decimal_text-short detail c))

-- a line as a string: that no byte of it is above 127

text_in-ascii : (f n : ℕ) → IsAscii (text_in f n)
unfolding text_in
text_in-ascii zero n = IsAscii-nil
text_in-ascii (suc f) n = let front = text_in-ascii f (n / 10) in grind (IsAscii-append, IsAscii-cons, IsAscii-nil, ltb-true, arith)

decimal_text-ascii : (n : ℕ) → IsAscii (decimal_text n)
decimal_text-ascii n = text_in-ascii (suc n) n

spaced-ascii : (text : List ℕ) (n : ℕ) → IsAscii text → IsAscii (text ++ codes " " ++ decimal_text n)
spaced-ascii text n h = search (IsAscii-append, IsAscii-cons, IsAscii-nil, decimal_text-ascii, arith)

-- Named in docs/TRACE.md, LOOK-BACK.md and DECISIONS.md: by these a line is a `&str`, without a test that may fail.
pub ok_text-ascii : (entries : ℕ) → IsAscii (ok_text entries)
ok_text-ascii entries = search (IsAscii-append, IsAscii-cons, IsAscii-nil, decimal_text-ascii, arith)

head-ascii : IsAscii refused_head
head-ascii =
    IsAscii-append (codes "table ") (codes "refused ") (grind (IsAscii-cons, IsAscii-nil, arith)) (grind (IsAscii-cons, IsAscii-nil, arith))

pub refused_text-ascii : (number place detail : ℕ) → IsAscii (refused_text number place detail)
refused_text-ascii number place detail =
    let first = refused_head ++ decimal_text number in
    let second = first ++ codes " " ++ decimal_text place in
    let h = IsAscii-append refused_head (decimal_text number) head-ascii (decimal_text-ascii number) in
    IsAscii-append (second ++ codes " " ++ decimal_text detail) (codes "\n") (spaced-ascii second detail (spaced-ascii first place h))
    (grind (IsAscii-cons, IsAscii-nil, arith))

pub line_of-short : (text : List ℕ) → length text ≤ line_bytes
    → line_of text ≡ record { bytes = text ++ zeros (line_bytes - length text); len = length text }
unfolding line_of padded
line_of-short text h =
    let whole = take_all line_bytes text h in
    let long : min line_bytes (length text) ≡ length text = omega arith in
    rw (whole, long)

pub line_of_laid : (text bytes : List ℕ) (len : ℕ) → bytes ≡ text → len ≡ length text → len ≤ line_bytes
    → record { bytes = bytes ++ drop len (zeros line_bytes); len = len } ≡ line_of text
line_of_laid text bytes len is long fits =
    rw (is, long, drop-zeros (length text) line_bytes) (sym (line_of-short text (omega arith)))
