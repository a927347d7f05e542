-- The two kinds of rows of a layout that a buffer holds, each as `put_row` takes it, and what its answer makes of the layout.
--     type-rows-kept, pointer-rows-kept     what `put_row` asks
--     type-did, pointer-did                 what it answers is what the spec does
-- Assumes nothing.
use mathlib.Core.Path.{◌≡◌, refl, ap, ◌∙◌}
use mathlib.Core.Bool.{true, false}
use mathlib.Core.List.{List, [], ◌++◌, map}
use Prim.Native.Nat.{ℕ}
use native.Mathlib.Omega.{arith}
use lib.ListN.{length, take, length-append}
use Rattle.std.proofs.Common.{Result}
use Rattle.fields.specs.declared.numbers.Fault.{Fault}
use Rattle.table.specs.Buffers.{padded}
use Rattle.layout.specs.declared.types.TypeAlignSpec.{TypeAlignSpec}
use Rattle.layout.specs.declared.pointers.PointerAlignSpec.{PointerAlignSpec}
use Rattle.layout.specs.declared.record.DataLayout.{DataLayout}
use Rattle.layout.specs.Types.{same_type, updated_types}
use Rattle.layout.specs.Pointers.{same_space, updated_pointers}
use Rattle.datalayout.specs.Apply.{types_put, type_applied, pointers_put, pointer_applied}
use Rattle.datalayout.specs.Promises.{Sound}
use Rattle.flat.specs.declared.lists.Bounds.{Bounds}
use Rattle.flat.specs.Words.{head_words, numbers_words, type_words, types_words, pointer_words, pointers_words}
use Rattle.flat.specs.Held.{Held, Kept, Did, Rows, RowsIn, RowPut, starts_of}
use Rattle.flat.proofs.Laws.Held.{cut-types, cut-pointers, few, long-T, long-P, long-words}
use Rattle.flat.proofs.Laws.Rows.{rows_in, Did-updated}

module _ (l : DataLayout) where
  abbrev type_rows : List TypeAlignSpec
  type_rows = take l.type_alignments.count l.type_alignments.rows

  abbrev pointer_rows : List PointerAlignSpec
  pointer_rows = take l.pointer_alignments.count l.pointer_alignments.rows

  abbrev before_types : List ℕ
  before_types = (head_words l ++ numbers_words l.native_integer_widths) ++ numbers_words l.non_integral_address_spaces

  abbrev before_pointers : List ℕ
  before_pointers = before_types ++ types_words l.type_alignments

  abbrev behind_types : List ℕ
  behind_types = pointers_words l.pointer_alignments

  module _ (out : List ℕ) (s : Sound l) (h : Held l out) where
    type-rows-in : Rows before_types (map type_words type_rows) behind_types out
        (starts_of l).types (starts_of l).pointers (starts_of l).end 4 64
    unfolding starts_of
    type-rows-in =
        let f = few l s in
        rows_in type_words 4 64 (starts_of l).types (starts_of l).pointers (starts_of l).end before_types behind_types out type_rows
        (λ row. refl)
        (h.is ∙ ap (padded (length out)) (cut-types l)) (simp length-append (omega arith)) (omega (arith, long-T l))
        (omega (arith, long-words l)) f.few-types
        (omega (arith, long-P l, f.few-widths, f.few-spaces, f.few-pointers, h.room))

    pointer-rows-in : Rows before_pointers (map pointer_words pointer_rows) [] out
        (starts_of l).pointers (starts_of l).end (starts_of l).end 5 32
    unfolding starts_of
    pointer-rows-in =
        let f = few l s in
        rows_in pointer_words 5 32 (starts_of l).pointers (starts_of l).end (starts_of l).end before_pointers [] out pointer_rows
        (λ row. refl)
        (h.is ∙ ap (padded (length out)) (cut-pointers l)) (simp length-append (omega arith)) (omega (arith, long-words l, long-P l))
        (omega arith) f.few-pointers
        (omega (arith, long-T l, f.few-widths, f.few-spaces, f.few-types, h.room))

-- what the two functions ask of `put_row`, from any layout that is kept
module _ (out v : List ℕ) (b : Bounds) (k : Kept out) (is : (l : DataLayout) → Sound l → Held l out → b ≡ starts_of l) where
  pub type-rows-kept : length v ≡ 4 → RowsIn out b.types b.pointers b.end (length v) 64
  type-rows-kept long =
      rw (is k.layout k.sound k.held, long)
      (record {
        x = before_types k.layout;
        rows = map type_words (type_rows k.layout);
        y = behind_types k.layout;
        are = type-rows-in k.layout out k.sound k.held;
      })

  pub pointer-rows-kept : length v ≡ 5 → RowsIn out b.pointers b.end b.end (length v) 32
  pointer-rows-kept long =
      rw (is k.layout k.sound k.held, long)
      (record {
        x = before_pointers k.layout;
        rows = map pointer_words (pointer_rows k.layout);
        y = [];
        are = pointer-rows-in k.layout out k.sound k.held;
      })

-- and what its answer is to them
module _ (l : DataLayout) (b : Bounds) (v before after : List ℕ) (r : Result (Unit {0}) Fault) (s : Sound l) (h : Held l before)
    (is_b : b ≡ starts_of l) (long : length after ≡ length before) where
  pub type-did : (row : TypeAlignSpec) → v ≡ type_words row → RowPut before b.types b.pointers b.end v true 64 r after
      → Did (type_applied l row) r after
  unfolding updated_types
  type-did row is-v put =
      let answer = rw (is_b, is-v) at put in
      Did-updated type_words same_type true row (λ other. refl) (before_types l) (behind_types l) before after
      l.type_alignments.count 64 l.type_alignments.rows r
      (answer (before_types l) (map type_words (type_rows l)) (behind_types l) (type-rows-in l before s h))
      _ (omega (arith, s.types.room_length, s.types.within)) long h.room (cut-types _) (types_put l) _ _ l refl refl

  pub pointer-did : (row : PointerAlignSpec) → v ≡ pointer_words row → RowPut before b.pointers b.end b.end v false 32 r after
      → Did (pointer_applied l row) r after
  unfolding updated_pointers
  pointer-did row is-v put =
      let answer = rw (is_b, is-v) at put in
      Did-updated pointer_words same_space false row (λ other. refl) (before_pointers l) [] before after
      l.pointer_alignments.count 32 l.pointer_alignments.rows r
      (answer (before_pointers l) (map pointer_words (pointer_rows l)) [] (pointer-rows-in l before s h))
      _ (omega (arith, s.pointers.room_length, s.pointers.within)) long h.room (cut-pointers _) (pointers_put l) _ _ l refl refl
