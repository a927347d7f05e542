-- Laws of specs/Held.antt: the words of a layout cut at each of its parts, and what a change of a part makes of the buffer.
-- Assumes nothing.
use mathlib.Core.Path.{◌≡◌, refl}
use mathlib.Core.List.{List, [], ◌++◌, append_assoc, append-nil}
use Prim.Native.Nat.{ℕ, ◌+◌, ◌*◌, ◌≤◌, min}
use native.Mathlib.Omega.{arith}
use lib.ListN.{length, get_or, take, length-append, length-take}
use Rattle.layout.specs.declared.record.DataLayout.{DataLayout}
use Rattle.datalayout.specs.Promises.{Sound}
use Rattle.flat.specs.Words.{head_words, numbers_words, type_words, types_words, pointer_words, pointers_words, run_of, layout_words}
use Rattle.flat.specs.Held.{Held, starts_of}
use Rattle.flat.proofs.Laws.Padded.{padded-getD}
use Rattle.flat.proofs.Laws.Puts.{length-run_of}

module _ (l : DataLayout) where
  abbrev widths : List ℕ
  widths = take l.native_integer_widths.count l.native_integer_widths.items

  abbrev spaces : List ℕ
  spaces = take l.non_integral_address_spaces.count l.non_integral_address_spaces.items

  abbrev W : List ℕ
  W = numbers_words l.native_integer_widths

  abbrev S : List ℕ
  S = numbers_words l.non_integral_address_spaces

  abbrev T : List ℕ
  T = types_words l.type_alignments

  abbrev P : List ℕ
  P = pointers_words l.pointer_alignments

  abbrev types : ℕ
  types = length (take l.type_alignments.count l.type_alignments.rows)

  abbrev pointers : ℕ
  pointers = length (take l.pointer_alignments.count l.pointer_alignments.rows)

  pub cut-widths : layout_words l ≡ head_words l ++ (W ++ (S ++ (T ++ P)))
  unfolding layout_words
  cut-widths = simp append_assoc

  pub cut-spaces : layout_words l ≡ (head_words l ++ W) ++ (S ++ (T ++ P))
  unfolding layout_words
  cut-spaces = simp append_assoc

  pub cut-types : layout_words l ≡ ((head_words l ++ W) ++ S) ++ (T ++ P)
  unfolding layout_words
  cut-types = append_assoc ((head_words l ++ W) ++ S) T P

  pub cut-pointers : layout_words l ≡ (((head_words l ++ W) ++ S) ++ T) ++ (P ++ [])
  unfolding layout_words
  cut-pointers = rw (append-nil P)

  pub long-T : length T ≡ 1 + types * 4
  long-T = let e = length-run_of type_words 4 (λ row. refl) (take l.type_alignments.count l.type_alignments.rows) in omega arith

  pub long-P : length P ≡ 1 + pointers * 5
  long-P =
      let e = length-run_of pointer_words 5 (λ row. refl) (take l.pointer_alignments.count l.pointer_alignments.rows) in omega arith

  pub long-words : length (layout_words l) ≡ 9 + length W + length S + length T + length P
  unfolding layout_words
  long-words = simp length-append (omega arith)

  pub record Few : Type 0 where
    pub few-widths : length widths ≤ 16
    pub few-spaces : length spaces ≤ 16
    pub few-types : types ≤ 64
    pub few-pointers : pointers ≤ 32

  pub few : Sound l → Few
  few s =
      record {
        few-widths = omega (arith, length-take l.native_integer_widths.count l.native_integer_widths.items, s.widths);
        few-spaces =
            omega (arith, length-take l.non_integral_address_spaces.count l.non_integral_address_spaces.items, s.spaces);
        few-types = omega (arith, length-take l.type_alignments.count l.type_alignments.rows, s.types.within);
        few-pointers = omega (arith, length-take l.pointer_alignments.count l.pointer_alignments.rows, s.pointers.within);
      }

  -- the counts as they are read, one behind the other
  module _ (out : List ℕ) (h : Held l out) (s : Sound l) where
    at-widths : get_or out 9 0 ≡ length widths
    at-widths = rw (h.is, cut-widths) (padded-getD (length out) 9 (length widths) (head_words l) (widths ++ (S ++ (T ++ P))) refl)

    at-spaces : (k : ℕ) → k ≡ 9 + length W → get_or out k 0 ≡ length spaces
    at-spaces k e =
        rw (h.is, cut-spaces)
        (padded-getD (length out) k (length spaces) (head_words l ++ W) (spaces ++ (T ++ P)) (simp length-append (omega arith)))

    at-types : (k : ℕ) → k ≡ 9 + length W + length S → get_or out k 0 ≡ types
    at-types k e =
        rw (h.is, cut-types)
        (padded-getD (length out) k types ((head_words l ++ W) ++ S)
        (run_of type_words (take l.type_alignments.count l.type_alignments.rows) ++ P) (simp length-append (omega arith)))

    at-pointers : (k : ℕ) → k ≡ 9 + length W + length S + length T → get_or out k 0 ≡ pointers
    at-pointers k e =
        rw (h.is, cut-pointers)
        (padded-getD (length out) k pointers (((head_words l ++ W) ++ S) ++ T)
        (run_of pointer_words (take l.pointer_alignments.count l.pointer_alignments.rows) ++ []) (simp length-append (omega arith)))

    pub starts-are : (w n t p a b c d : ℕ) → w ≡ min (get_or out 9 0) 16 → a ≡ 9 + 1 + w → n ≡ min (get_or out a 0) 16 → b ≡ a + 1 + n
        → t ≡ min (get_or out b 0) 64 → c ≡ b + 1 + t * 4 → p ≡ min (get_or out c 0) 32 → d ≡ c + 1 + p * 5
        → record { spaces = a; types = b; pointers = c; end = d } ≡ starts_of l
    unfolding starts_of
    starts-are w n t p a b c d is-w is-a is-n is_b is-t is_c is-p is-d =
        let f = few s in
        let e₁ : w ≡ length widths = omega (arith, at-widths, f.few-widths) in
        let f₁ : a ≡ 9 + length W = omega arith in
        let e₂ : n ≡ length spaces = omega (arith, at-spaces a f₁, f.few-spaces) in
        let f₂ : b ≡ 9 + length W + length S = omega arith in
        let e₃ : t ≡ types = omega (arith, at-types b f₂, f.few-types) in
        let f₃ : c ≡ 9 + length W + length S + length T = omega (arith, long-T) in
        let e₄ : p ≡ pointers = omega (arith, at-pointers c f₃, f.few-pointers) in
        let f₄ : d ≡ length (layout_words l) = omega (arith, long-words, long-P) in
        rw (f₁, f₂, f₃, f₄)
