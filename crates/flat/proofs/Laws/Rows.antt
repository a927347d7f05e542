-- A new row put among others, of any kind: the rows as words, and what `put_row` makes of the layout that has them.
--     laid             rows with their count, between other words
--     rows_in          such rows, as `put_row` takes them
--     Did-updated      the layout's rows become what the room's do
-- Assumes nothing.
use mathlib.Core.Path.{◌≡◌, refl, sym, ap, ◌∙◌}
use mathlib.Core.Bool.{Bool, true, false, cond}
use mathlib.Core.List.{List, [], ◌∷◌, ◌++◌, map}
use mathlib.Core.Logic.{⊎_elim}
use Prim.Native.Nat.{ℕ, ◌+◌, ◌-◌, ◌*◌, ◌≤◌, ◌<◌}
use native.Mathlib.Nat.{eq-or-lt_of_le}
use native.Mathlib.Omega.{arith}
use lib.ListN.{length, take, drop, length-append, length-set, length-map}
use lib.Seq.{length-take-le, take-append_seam}
use borrow.Author.Tests.{leb-true, leb-false}
use Rattle.laws.proofs.Conds.{by-test}
use Rattle.std.proofs.Common.{Result, Err}
use Rattle.fields.specs.declared.numbers.Fault.{Fault}
use Rattle.table.specs.Buffers.{padded}
use Rattle.layout.specs.declared.record.DataLayout.{DataLayout}
use Rattle.layout.specs.Rows.{placed, place_of, rows_after, count_after, fits}
use Rattle.layout.proofs.Laws.Rows.{place_of-le, placed-appended, placed-replaced}
use Rattle.fields.specs.declared.numbers.Fault.TheVariants.{ListFull}
use Rattle.datalayout.specs.declared.apply.Applied.{Applied}
use Rattle.datalayout.specs.Apply.{done_with, refused_by}
use Rattle.flat.specs.Words.{run_of, layout_words}
use Rattle.flat.specs.Puts.{max_words}
use Rattle.flat.specs.Moves.{EachWide, same_key}
use Rattle.flat.specs.Held.{Did, Rows, PutAmong, among}

module _ {A : Type 0} (same : A → A → Bool) (new : A) where
  placed-grows : (rows : List A) → length rows ≤ length (placed same new rows)
  placed-grows rows =
      ⊎_elim
      (λ (e : place_of same new rows ≡ length rows). rw (placed-appended same new rows e) (omega (arith, length-append rows (new ∷ []))))
      (λ (lt : place_of same new rows < length rows). rw (placed-replaced same new rows lt)
      (omega (arith, length-set rows (place_of same new rows) new)))
      (eq-or-lt_of_le (place_of-le same new rows))

  -- the rows of the room after an update
  take_after : (n : ℕ) (room : List A) → n ≤ length room
      → take (count_after same new n room) (rows_after same new n room) ≡ placed same new (take n room)
  unfolding count_after rows_after
  take_after n room le =
      let rows = placed same new (take n room) in
      let more = placed-grows (take n room) in
      let kept = length-take-le n room le in
      let count : n + (length rows - length (take n room)) ≡ length rows = omega arith in
      rw count (take-append_seam rows (drop (length rows) room))

-- rows of any kind with their count, between other words
abbrev pub laid : {A : Type 0} → (A → List ℕ) → List ℕ → List ℕ → List A → List ℕ
laid words x y rows = x ++ ((length rows ∷ run_of words rows) ++ y)

module _ {A : Type 0} (words : A → List ℕ) where
  runs-words : (rows : List A) → run_of (λ row. row) (map words rows) ≡ run_of words rows
  unfolding run_of
  runs-words [] = refl
  runs-words (row ∷ rows) = ap (λ (ws : List ℕ). words row ++ ws) (runs-words rows)

  among-words : (x y : List ℕ) (rows : List A) → among x (map words rows) y ≡ laid words x y rows
  among-words x y rows = rw (length-map rows words, runs-words rows)

  each-wide : (wide : ℕ) → ((row : A) → length (words row) ≡ wide) → (rows : List A) → EachWide wide (map words rows)
  each-wide wide each [] = tt
  each-wide wide each (row ∷ rows) = (each row, each-wide wide each rows)

  pub rows_in : (wide most from behind end : ℕ) (x y out : List ℕ) (rows : List A) → ((row : A) → length (words row) ≡ wide)
      → out ≡ padded (length out) (laid words x y rows) → from ≡ length x
      → behind ≡ from + 1 + length rows * wide → end ≡ behind + length y → length rows ≤ most
      → from + 1 + most * wide + length y ≤ length out → Rows x (map words rows) y out from behind end wide most
  rows_in wide most from behind end x y out rows each is starts stops ends few room =
      record {
        each = each-wide wide each rows;
        is = is ∙ ap (padded (length out)) (sym (among-words x y rows));
        starts = starts;
        stops = rw (length-map rows words) stops;
        ends = ends;
        few = rw (length-map rows words) few;
        room = room;
      }

  -- a new row of a room, of which the first n are rows, by the same key as its words
  module _ (same : A → A → Bool) (both : Bool) (new : A) (key : (row : A) → same new row ≡ same_key both (words new) (words row)) where
    placed-words : (rows : List A) → placed (same_key both) (words new) (map words rows) ≡ map words (placed same new rows)
    unfolding placed
    placed-words [] = refl
    placed-words (row ∷ rows) = rw (← key row) (go (same new row) (placed-words rows))
      where
        go : (t : Bool) → placed (same_key both) (words new) (map words rows) ≡ map words (placed same new rows)
            → cond t (words new ∷ map words rows) (words row ∷ placed (same_key both) (words new) (map words rows))
            ≡ map words (cond t (new ∷ rows) (row ∷ placed same new rows))
        go true e = refl
        go false e = ap (λ (ws : List (List ℕ)). words row ∷ ws) e

    module _ (x y before after : List ℕ) (n limit : ℕ) (room : List A) (r : Result (Unit {0}) Fault)
        (put : PutAmong x (placed (same_key both) (words new) (map words (take n room))) y before limit r after) where
      abbrev rows : List A
      rows = placed same new (take n room)

      same_count : length (placed (same_key both) (words new) (map words (take n room))) ≡ length rows
      same_count = rw (placed-words (take n room)) (length-map rows words)

      Did-full : (l : DataLayout) → fits same new n room limit ≡ false → Did (refused_by ListFull l) r after
      unfolding fits
      Did-full l e =
          let lt = leb-false (length rows) limit e in
          let full : r ≡ Err ListFull = put.full (omega (arith, same_count)) in
          record { outcome_is = full; done = λ d. let z : ◌≡◌ {A = ℕ} 0 1 = cc in absurd (omega arith) }

      -- l has the rows of the room after the update, between the same words
      module _ (l : DataLayout) (inside : n ≤ length room) (long : length after ≡ length before) (wide : max_words ≤ length before)
          (is : layout_words l ≡ laid words x y (take (count_after same new n room) (rows_after same new n room))) where
        Did-done : fits same new n room limit ≡ true → Did (done_with l) r after
        unfolding fits
        Did-done e =
            let some = leb-true (length rows) limit e in
            let taken = put.taken (omega (arith, same_count)) in
            let whole : among x (placed (same_key both) (words new) (map words (take n room))) y ≡ layout_words l =
            rw (is, take_after same new n room inside, placed-words (take n room)) (among-words x y rows) in
            record {
              outcome_is = taken.0;
              done = λ _. record { room = omega arith; is = rw long (taken.1 ∙ ap (padded (length before)) whole) };
            }

        -- for any record that says of the update whether it fits
        pub Did-updated : {U : Type 0} (made : U → Applied) (some none : U) (old : DataLayout) → made some ≡ done_with l
            → made none ≡ refused_by ListFull old → Did (made (cond (fits same new n room limit) some none)) r after
        Did-updated {U} made some none old is_some is_none =
            by-test (λ (u : U). Did (made u) r after) (fits same new n room limit) some none (λ e. rw is_some (Did-done e))
            (λ e. rw is_none (Did-full old e))
