-- A list of widths or of spaces that gives way to another.
--     list-taken, ..               what was laid over the front of an array is what is lent of it, and how long that is
--     replaced-held                another layout is held where its words differ in what gave way
--     widths-held, spaces-held     the layout with the new list is held
--     list-fits                    there is room for any list in the place of the one that is held
-- Assumes nothing.
use mathlib.Core.Path.{◌≡◌, refl, ap, ◌∙◌}
use mathlib.Core.List.{List, ◌++◌}
use Prim.Native.Nat.{ℕ, ◌+◌, ◌-◌, ◌≤◌}
use native.Mathlib.Omega.{arith}
use lib.ListN.{length, take, length-append}
use lib.Seq.{take_at}
use Rattle.table.specs.Buffers.{padded}
use Rattle.table.proofs.Laws.Buffers.{over-fits}
use Rattle.layout.specs.declared.numbers.Numbers.{Numbers}
use Rattle.layout.specs.declared.record.DataLayout.{DataLayout}
use Rattle.layout.specs.declared.record.Listed.TheVariants.{NativeIntegerWidths, NonIntegralAddressSpaces}
use Rattle.layout.specs.Record.{with_numbers}
use Rattle.datalayout.specs.Promises.{Sound}
use Rattle.flat.specs.declared.lists.Bounds.{Bounds}
use Rattle.flat.specs.Words.{head_words, numbers_words, types_words, pointers_words, layout_words}
use Rattle.flat.specs.Puts.{Part}
use Rattle.flat.specs.Moves.{Replaces}
use Rattle.flat.specs.Held.{Held, Kept, starts_of}
use Rattle.flat.proofs.Laws.Held.{cut-widths, cut-spaces, few, long-T, long-P, long-words}
use Rattle.flat.proofs.Laws.Puts.{Behind-first}

module _ {ws before after : List ℕ} {end : ℕ} (room : length before ≡ 17) (part : Part ws 17 0 before end after) where
  pub list-taken : take end after ≡ ws
  list-taken =
      let fits : length ws ≤ length before = omega (arith, part.ends, part.bounded) in
      rw (Behind-first ws before after part.content ∙ over-fits ws before fits) (take_at ws _ end (omega (arith, part.ends)))

  pub list-long : end ≡ length (take end after)
  list-long = omega (arith, part.ends, ap length list-taken)

  pub list-short : length (take end after) ≤ 17
  list-short = omega (arith, list-long, part.bounded)

-- the words b of the layout l gave way to src
module _ (l new : DataLayout) (a b c src out after : List ℕ) (at behind end : ℕ) where
  pub replaced-held : layout_words l ≡ a ++ (b ++ c) → layout_words new ≡ a ++ (src ++ c) → at ≡ length a → behind ≡ length (a ++ b)
      → end ≡ length (layout_words l) → Held l out → length after ≡ length out → Replaces src at behind end out after → Held new after
  replaced-held cut cut' is_at is-behind is-end h long put =
      let is = put a b c (h.is ∙ ap (padded (length out)) cut) is_at is-behind (is-end ∙ ap length cut) in
      record { room = omega (arith, h.room, long); is = is ∙ rw (long, cut') }

module _ (l : DataLayout) (s : Bounds) (is-s : s ≡ starts_of l) where
  abbrev W : List ℕ
  W = numbers_words l.native_integer_widths

  abbrev S : List ℕ
  S = numbers_words l.non_integral_address_spaces

  abbrev R : List ℕ
  R = types_words l.type_alignments ++ pointers_words l.pointer_alignments

  spaces-start : s.spaces ≡ 9 + length W
  unfolding starts_of
  spaces-start = ap (λ (b : Bounds). b.spaces) is-s

  types-start : s.types ≡ 9 + length W + length S
  unfolding starts_of
  types-start = ap (λ (b : Bounds). b.types) is-s

  words-end : s.end ≡ length (layout_words l)
  unfolding starts_of
  words-end = ap (λ (b : Bounds). b.end) is-s

  module _ (numbers : Numbers) (src out after : List ℕ) (is-src : src ≡ numbers_words numbers) (h : Held l out)
      (long : length after ≡ length out) where
    pub widths-held : Replaces src 9 s.spaces s.end out after → Held (with_numbers l NativeIntegerWidths numbers) after
    widths-held =
        let new = with_numbers l NativeIntegerWidths numbers in
        replaced-held l new (head_words l) W (S ++ R) src out after 9 s.spaces s.end (cut-widths l) (rw is-src (cut-widths new))
        refl (simp length-append (omega (arith, spaces-start))) words-end h long

    pub spaces-held : Replaces src s.spaces s.types s.end out after → Held (with_numbers l NonIntegralAddressSpaces numbers) after
    spaces-held =
        let new = with_numbers l NonIntegralAddressSpaces numbers in
        replaced-held l new (head_words l ++ W) S R src out after s.spaces s.types s.end (cut-spaces l) (rw is-src (cut-spaces new))
        (simp length-append (omega (arith, spaces-start))) (simp length-append (omega (arith, types-start))) words-end h long

-- n words in the place of the widths or of the spaces
module _ (out : List ℕ) (kept : Kept out) (s : Bounds) (starts : (l : DataLayout) → Sound l → Held l out → s ≡ starts_of l) (n : ℕ)
    (short : n ≤ 17) where
  abbrev Fits : ℕ → ℕ → Type 0
  Fits at behind = (at ≤ behind) × (behind ≤ s.end) × (s.end ≤ length out) × (at + n + (s.end - behind) ≤ length out)

  pub list-fits : Fits 9 s.spaces × Fits s.spaces s.types
  list-fits =
      let l = kept.layout in
      let e = starts l kept.sound kept.held in
      let f = few l kept.sound in
      omega (
        arith,
        spaces-start l s e,
        types-start l s e,
        words-end l s e,
        long-words l,
        long-T l,
        long-P l,
        f.few-widths,
        f.few-spaces,
        f.few-types,
        f.few-pointers,
        kept.held.room,
      )
