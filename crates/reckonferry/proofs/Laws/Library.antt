-- Laws of specs/Library.antt.
--     ReadsTable-of-read, ReadsLayout-of-laid       an exported contract from those of the calls
--     ReadsTable-unique, ReadsLayout-unique         no second answer fits
-- Assumes nothing.
use mathlib.Core.Path.{◌≡◌, refl, sym, ap, ◌∙◌}
use mathlib.Core.List.{List}
use Prim.Native.Nat.{ℕ}
use lib.ListN.{length}
use Rattle.table.specs.Buffers.{over, zeros}
use Rattle.ferry.specs.Answers.{Answer}
use Rattle.ferry.specs.Reader.{Lent, Reads}
use Rattle.std.proofs.Common.{Result}
use Rattle.datalayout.specs.declared.error.Error.{Error}
use Rattle.datalayout.specs.Strings.{mapped}
use Rattle.flat.specs.declared.read.Laid.{Laid}
use Rattle.flat.specs.Words.{layout_words}
use Rattle.flat.specs.Reads as flat
use Rattle.flat.proofs.Laws.Puts.{Puts-unique}
use Rattle.reckonferry.specs.Library.{answer_words, ReadsTable, layout_answer, ReadsLayout}

pub ReadsTable-of-read : (words : List ℕ) (lent : Lent) (a : Answer) (rows refs names witness answer₀ answer : List ℕ)
    → Reads words lent a rows refs names witness → answer ≡ over (answer_words a) answer₀
    → ReadsTable words lent answer₀ rows refs names witness answer
ReadsTable-of-read words lent a rows refs names witness answer₀ answer h is = record {
  outputs =
      record {
        answer = refl;
        rows_are = h.rows_are;
        refs_are = h.refs_are;
        names_are = h.names_are;
        witness_is = h.witness_is;
      };
  answer_is = is ∙ ap (λ (b : Answer). over (answer_words b) answer₀) h.answer;
}

pub ReadsLayout-of-laid : (value answer₀ layout₀ answer layout : List ℕ) (laid : Laid)
    → flat.Reads (mapped value) layout₀ laid layout → answer ≡ over (answer_words (layout_answer laid.answer)) answer₀
    → ReadsLayout value answer₀ layout₀ laid.words answer layout
ReadsLayout-of-laid value answer₀ layout₀ answer layout laid read is-answer = record {
  answer_is = is-answer ∙ ap (λ (s : Result (Unit {0}) Error). over (answer_words (layout_answer s)) answer₀) read.answer_is;
  layout_is = read.layout_is;
}

pub ReadsTable-unique : (words : List ℕ) (lent : Lent) (b r s f g m n w v a c : List ℕ) → ReadsTable words lent b r f m w a
    → ReadsTable words lent b s g n v c → (r ≡ s) × (f ≡ g) × (m ≡ n) × (w ≡ v) × (a ≡ c)
ReadsTable-unique words lent b r s f g m n w v a c h k =
    let x = h.outputs in
    let y = k.outputs in (
      x.rows_are ∙ sym y.rows_are,
      x.refs_are ∙ sym y.refs_are,
      x.names_are ∙ sym y.names_are,
      x.witness_is ∙ sym y.witness_is,
      h.answer_is ∙ sym k.answer_is,
    )

pub ReadsLayout-unique : (value b l a c r s : List ℕ) (m n : ℕ) → ReadsLayout value b l m a r → ReadsLayout value b l n c s
    → (m ≡ n) × (a ≡ c) × (r ≡ s)
ReadsLayout-unique value b l a c r s m n h k =
    let laid = Puts-unique (layout_words (mapped value).layout) (zeros (length l)) r s m n h.layout_is k.layout_is in
    (laid.0, h.answer_is ∙ sym k.answer_is, laid.1)
