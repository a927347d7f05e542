-- Laws of specs/Program.antt: the words that the program lends to the reader; the line that it writes.
-- Assumes nothing.
use mathlib.Core.Path.{◌≡◌, sym, ap, ◌∙◌}
use mathlib.Core.Bool.{Bool, true, false, cond, and-eq-true_iff}
use mathlib.Core.List.{List, ◌++◌}
use Prim.Native.Nat.{ℕ, ◌/◌, ◌%◌, ◌≤◌}
use native.Mathlib.Omega.{arith}
use lib.Dec.{eqb, leb}
use lib.ListN.{length, take, drop}
use lib.Seq.{take-append_seam}
use borrow.Author.Tests.{leb-true}
use Rattle.table.specs.Buffers.{over}
use Rattle.table.proofs.Laws.Buffers.{length_over, over-fits}
use Rattle.std.proofs.Common.{Ok, Err}
use Rattle.std.specs.Str.{IsAscii}
use Rattle.wire.specs.Words.{is_stream, words_in}
use Rattle.wire.specs.Lines.{refused_text}
use Rattle.wire.proofs.Laws.Words.{length-words_in}
use Rattle.wire.proofs.Laws.Lines.{ok_text-ascii, refused_text-ascii}
use Rattle.ferry.specs.Answers.{Answer}
use Rattle.ferry.specs.Reader.{lent_by, whole_of}
use Rattle.ferry.specs.Program.{line_text, answer_to, text_of}

-- the input's words lie over a buffer of 8,192
pub record Lies (input last : List ℕ) : Type 0 where
  pub fits : length input / 8 ≤ 8192
  pub long : length last ≡ 8192
  pub words : take (length input / 8) last ≡ words_in input

pub Lies-of-stream : (input l last : List ℕ) → length l ≡ 8192 → is_stream (length input) ≡ true → last ≡ over (words_in input) l → Lies input last
Lies-of-stream input l last room h is =
    let small : length input ≤ 65536 = leb-true _ _ ((and-eq-true_iff (leb (length input) 65536) (eqb (length input % 8) 0)).0 h).0 in
    let n = length-words_in input in
    let flat = over-fits (words_in input) l (omega arith) in
    let rest = drop (length (words_in input)) l in
    let whole = is ∙ flat in
    record {
      fits = omega arith;
      long = ap length is ∙ length_over (words_in input) l ∙ room;
      words =
          ap (λ (k : List ℕ). take (length input / 8) k) whole
          ∙ ap (λ (k : ℕ). take k (words_in input ++ rest)) (sym n)
          ∙ take-append_seam (words_in input) rest;
    }

-- the program's outputs are as long as 01 says
pub answer_to-of-read : (input words rows refs names witness : List ℕ) (a : Answer) → words ≡ words_in input
    → length rows ≡ 8192 → length refs ≡ 8192 → length names ≡ 8192 → length witness ≡ 1024
    → a ≡ (whole_of (lent_by rows refs names witness) words).answer → a ≡ answer_to input
answer_to-of-read input words rows refs names witness a is r f n w e = e ∙ rw (is, r, f, n, w)

-- a line is ASCII, and so a string, whatever the answer (named in docs/TRACE.md, LOOK-BACK.md and DECISIONS.md)

pub line_text-ascii : (a : Answer) → IsAscii (line_text a)
line_text-ascii (Ok entries) = ok_text-ascii entries
line_text-ascii (Err r) = refused_text-ascii r.number r.place r.detail

pub text_of-ascii : (input : List ℕ) → IsAscii (text_of input)
text_of-ascii input = by (is_stream (length input))
  where
    by : (b : Bool) → IsAscii (cond b (line_text (answer_to input)) (refused_text 1 0 0))
    by true = line_text-ascii (answer_to input)
    by false = refused_text-ascii 1 0 0
