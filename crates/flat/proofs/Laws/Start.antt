-- The words of the default layout over zeros, and words that are held as words that are laid.
--     default-held     the default layout's words, laid over zeros, are held
--     words-fit        a sound layout has at most so many words
--     Held-puts        what holds a layout has its words laid over zeros
--     refused-reads    with a refusal the default layout is held
--     short-reads      a short buffer that is given the front of a whole one
--     Reads-unique     no second answer fits
-- Assumes nothing.
use mathlib.Core.Path.{◌≡◌, refl, sym, ap, ◌∙◌}
use mathlib.Core.List.{List, [], ◌∷◌, append-nil}
use Prim.Native.Nat.{ℕ, zero, suc, ◌≤◌}
use native.Mathlib.Omega.{arith}
use lib.ListN.{length, take, drop_of_length-le}
use lib.Seq.{drop-nil}
use Rattle.table.specs.Buffers.{over, zeros}
use Rattle.table.proofs.Laws.Buffers.{length-zeros, take-zeros, length_over}
use Rattle.layout.specs.declared.record.DataLayout.{DataLayout}
use Rattle.layout.specs.Defaults.{default_layout}
use Rattle.std.proofs.Common.{Err}
use Rattle.datalayout.specs.declared.error.Error.{Error}
use Rattle.datalayout.specs.declared.map.Mapped.{Mapped}
use Rattle.datalayout.specs.Promises.{Sound}
use Rattle.datalayout.specs.Strings.{refused_with}
use Rattle.datalayout.proofs.Laws.Sound.{default-sound}
use Rattle.flat.specs.declared.read.Laid.{Laid}
use Rattle.flat.specs.Words.{run_of, layout_words}
use Rattle.flat.specs.Puts.{Puts, max_words}
use Rattle.flat.specs.Held.{Held}
use Rattle.flat.specs.Reads.{Reads}
use Rattle.flat.proofs.Laws.Held.{few, long-T, long-P, long-words}
use Rattle.flat.proofs.Laws.Padded.{over-zeros-padded}
use Rattle.flat.proofs.Laws.Puts.{Puts-unique}

-- as `start` writes them
abbrev pub default_words : List ℕ
default_words =
    0 ∷ 0 ∷ 0 ∷ 0 ∷ 0 ∷ 8 ∷ 0 ∷ 0 ∷ 0 ∷ 0 ∷ 0
    ∷ 12 ∷ 0 ∷ 1 ∷ 8 ∷ 8 ∷ 0 ∷ 8 ∷ 8 ∷ 8 ∷ 0 ∷ 16 ∷ 16 ∷ 16 ∷ 0 ∷ 32 ∷ 32 ∷ 32 ∷ 0 ∷ 64 ∷ 32 ∷ 64
    ∷ 2 ∷ 16 ∷ 16 ∷ 16 ∷ 2 ∷ 32 ∷ 32 ∷ 32 ∷ 2 ∷ 64 ∷ 64 ∷ 64 ∷ 2 ∷ 128 ∷ 128 ∷ 128
    ∷ 1 ∷ 64 ∷ 64 ∷ 64 ∷ 1 ∷ 128 ∷ 128 ∷ 128 ∷ 3 ∷ 0 ∷ 8 ∷ 64
    ∷ 1 ∷ 0 ∷ 64 ∷ 64 ∷ 64 ∷ 64 ∷ []

default-words : default_words ≡ layout_words default_layout
unfolding layout_words run_of
default-words = refl

pub default-held : (before cleared after : List ℕ) → max_words ≤ length before → cleared ≡ zeros (length before)
    → after ≡ over default_words cleared → Held default_layout after
default-held before cleared after room is-cleared is-after =
    let n = length before in
    let is : after ≡ over default_words (zeros n) = is-after ∙ ap (over default_words) is-cleared in
    let long : length after ≡ n = ap length is ∙ length_over default_words (zeros n) ∙ length-zeros n in
    record {
      room = omega (arith, room, long);
      is = is ∙ over-zeros-padded n default_words (omega (arith, room)) ∙ rw (long, default-words);
    }

pub words-fit : (l : DataLayout) → Sound l → length (layout_words l) ≤ max_words
words-fit l s =
    let f = few l s in
    omega (arith, long-words l, long-T l, long-P l, f.few-widths, f.few-spaces, f.few-types, f.few-pointers)

pub Held-puts : (l : DataLayout) (out : List ℕ) → Sound l → Held l out → (n : ℕ) → n ≡ length out
    → Puts (layout_words l) (zeros n) (length (layout_words l)) out
Held-puts l out s h n is-n =
    let fit = words-fit l s in
    record {
      counts = refl;
      bounded = fit;
      content = h.is ∙ sym (over-zeros-padded (length out) (layout_words l) (omega (arith, fit, h.room))) ∙ rw is-n;
    }

pub refused-reads : (error : Error) (before after : List ℕ) → length before ≡ length after → Held default_layout after
    → Reads (refused_with error) before (record { answer = Err error; words = 66 }) after
unfolding layout_words run_of
refused-reads error before after long h =
    record { answer_is = refl; layout_is = Held-puts default_layout after default-sound h (length before) long }

-- the front of a run over zeros is the run over fewer
take-over : (n m : ℕ) (ws : List ℕ) → n ≤ m → take n (over ws (zeros m)) ≡ over ws (zeros n)
unfolding over
take-over zero m ws h = sym (drop-nil (length ws))
take-over (suc n) zero ws h = absurd (omega arith)
take-over (suc n) (suc m) [] h = take-zeros (suc n) (suc m) h
take-over (suc n) (suc m) (w ∷ ws) h = ap (λ (l : List ℕ). w ∷ l) (take-over n m ws (omega arith))

-- a buffer that is shorter than every layout may need gets the front of one that is not
pub short-reads : (m : Mapped) (whole words before after : List ℕ) (r : Laid) → length before ≤ length whole
    → Reads m whole r words → after ≡ over words before → Reads m before r after
unfolding over
short-reads m whole words before after r short h is =
    let n = length before in
    let laid : words ≡ over (layout_words m.layout) (zeros (length whole)) = h.layout_is.content in
    let long : length words ≡ length whole =
    ap length laid ∙ length_over (layout_words m.layout) (zeros (length whole)) ∙ length-zeros (length whole) in
    let all : over words before ≡ take n words =
    rw (drop_of_length-le before {i = length words} (omega (arith, long))) (append-nil (take n words)) in
    record {
      answer_is = h.answer_is;
      layout_is =
          record {
            counts = h.layout_is.counts;
            bounded = h.layout_is.bounded;
            content = is ∙ all ∙ ap (take n) laid ∙ take-over n (length whole) (layout_words m.layout) short;
          };
    }

-- no second answer fits
pub Reads-unique : (m : Mapped) (b l k : List ℕ) (r s : Laid) → Reads m b r l → Reads m b s k
    → (r.answer ≡ s.answer) × (r.words ≡ s.words) × (l ≡ k)
Reads-unique m b l k r s h g =
    let puts = Puts-unique (layout_words m.layout) (zeros (length b)) l k r.words s.words h.layout_is g.layout_is in
    (h.answer_is ∙ sym g.answer_is, puts.0, puts.1)
