-- Laws of rows among other words (specs/Held.antt): where they lie, and the three ways through `put_row`.
-- Assumes nothing.
use mathlib.Core.Path.{◌≡◌, refl, sym, ap, ◌∙◌}
use mathlib.Core.Bool.{Bool}
use mathlib.Core.List.{List, [], ◌∷◌, ◌++◌, append_assoc}
use Prim.Native.Nat.{ℕ, zero, suc, ◌+◌, ◌-◌, ◌*◌, ◌≤◌, ◌<◌}
use native.Mathlib.Nat.{mul-le-mul_right, mul-div_cancel}
use native.Mathlib.Omega.{arith}
use lib.ListN.{length, get_or, take, drop, set, length-append, length-set}
use lib.Seq.{length-take-le, split_at, set_split, take_at, drop_at}
use Rattle.std.proofs.Common.{Ok, Err}
use Rattle.std.specs.Simd.{first_chunks}
use Rattle.std.proofs.Common.{Option, Some, None, position, ◌/◌}
use Rattle.table.specs.Buffers.{zeros, padded}
use Rattle.layout.specs.Rows.{placed, place_of}
use Rattle.layout.proofs.Laws.Rows.{place_of-found, place_of-missed, placed-appended, placed-replaced}
use Rattle.fields.specs.declared.numbers.Fault.TheVariants.{ListFull}
use Rattle.flat.specs.Words.{run_of}
use Rattle.flat.specs.Moves.{Replaces, EachWide, same_key}
use Rattle.flat.specs.Held.{among, Rows, PutAmong}
use Rattle.flat.proofs.Laws.Padded.{padded-getD, padded-set}

abbrev pub joined : List (List ℕ) → List ℕ
joined rows = run_of (λ (row : List ℕ). row) rows

length-joined : (wide : ℕ) (rows : List (List ℕ)) → EachWide wide rows → length (joined rows) ≡ length rows * wide
unfolding run_of
length-joined wide [] each = omega arith
length-joined wide (row ∷ rows) each =
    let later = length-joined wide rows each.1 in
    let first = each.0 in
    length-append row (joined rows) ∙ omega arith

joined-append : (f g : List (List ℕ)) → joined (f ++ g) ≡ joined f ++ joined g
unfolding run_of
joined-append [] g = refl
joined-append (row ∷ f) g = rw (joined-append f g) (sym (append_assoc row (joined f) (joined g)))

-- a row among them, and the words on both sides of it
cut : (x y row : List ℕ) (f g : List (List ℕ)) (n : ℕ) → n ≡ length (f ++ row ∷ g)
    → among x (f ++ row ∷ g) y ≡ (x ++ n ∷ joined f) ++ (row ++ (joined g ++ y))
unfolding run_of
cut x y row f g n e = rw (← e, joined-append f (row ∷ g)) (simp append_assoc)

cut-last : (x y row : List ℕ) (f : List (List ℕ)) (n : ℕ) → n ≡ length (f ++ row ∷ [])
    → among x (f ++ row ∷ []) y ≡ (x ++ n ∷ joined f) ++ (row ++ y)
unfolding run_of
cut-last x y row f n e = cut x y row f [] n e

-- rows of one length are the chunks of their words
chunks : (wide : ℕ) (rows : List (List ℕ)) → EachWide wide rows → first_chunks wide (length rows) (joined rows) ≡ rows
unfolding run_of
chunks wide [] each = refl
chunks wide (row ∷ rows) each =
    rw (take_at row (joined rows) wide each.0, drop_at row (joined rows) wide each.0)
    (ap (λ (l : List (List ℕ)). row ∷ l) (chunks wide rows each.1))

module _ {x y out : List ℕ} {rows : List (List ℕ)} {from behind end wide most : ℕ} (are : Rows x rows y out from behind end wide most) where
  pub Rows-bounds : (from + 1 ≤ behind) × (behind ≤ end) × (end ≤ length out) × (length rows < most → end + wide ≤ length out)
  Rows-bounds =
      let few = mul-le-mul_right wide are.few in (
        omega (arith, are.stops),
        omega (arith, are.ends),
        omega (arith, are.stops, are.ends, are.room),
        λ lt.
            let more = mul-le-mul_right {m = suc (length rows)} wide lt in
            let step : suc (length rows) * wide ≡ length rows * wide + wide = omega arith in
            omega (arith, are.stops, are.ends, are.room),
      )

  pub Rows-count : get_or out from 0 ≡ length rows
  Rows-count = rw are.is (padded-getD (length out) from (length rows) x (joined rows ++ y) (sym are.starts))

  -- the words of the rows
  pub Rows-slice : take (behind - (from + 1)) (drop (from + 1) out) ≡ joined rows
  unfolding padded
  Rows-slice =
      let rest = zeros (length out - length (among x rows y)) in
      let parts : out ≡ (x ++ length rows ∷ []) ++ (joined rows ++ (y ++ rest)) = are.is ∙ simp append_assoc in
      let front : length (x ++ length rows ∷ []) ≡ from + 1 = simp length-append (omega (arith, are.starts)) in
      let long : length (joined rows) ≡ behind - (from + 1) = length-joined wide rows are.each ∙ omega (arith, are.stops) in
      let dropped : drop (from + 1) out ≡ joined rows ++ (y ++ rest) =
      ap (drop (from + 1)) parts ∙ drop_at (x ++ length rows ∷ []) (joined rows ++ (y ++ rest)) (from + 1) front in
      ap (take (behind - (from + 1))) dropped ∙ take_at (joined rows) (y ++ rest) (behind - (from + 1)) long

  -- so a search among the chunks is one among the rows
  pub Rows-found : (p : List ℕ → Bool) (found : Option ℕ) (w : ℕ) → wide ≡ w → 1 ≤ w
      → found ≡ position p (first_chunks w (length (take (behind - (from + 1)) (drop (from + 1) out)) / w)
      (take (behind - (from + 1)) (drop (from + 1) out)))
      → position p rows ≡ found
  Rows-found p found w e some is =
      let count : length (joined rows) / wide ≡ length rows =
      rw (length-joined wide rows are.each) (mul-div_cancel (length rows) (omega arith)) in
      sym (is ∙ rw (← e, Rows-slice, count, chunks wide rows are.each))

  long-among : length (among x rows y) ≡ end
  long-among = simp length-append (omega (arith, length-joined wide rows are.each, are.starts, are.stops, are.ends))

each_take : (wide n : ℕ) (rows : List (List ℕ)) → EachWide wide rows → EachWide wide (take n rows)
each_take wide zero rows h = tt
each_take wide (suc n) [] h = tt
each_take wide (suc n) (row ∷ rows) h = (h.0, each_take wide n rows h.1)

each_at : (wide i : ℕ) (rows : List (List ℕ)) → EachWide wide rows → i < length rows → length (get_or rows i []) ≡ wide
each_at wide i [] h lt = absurd (omega arith)
each_at wide zero (row ∷ rows) h lt = h.0
each_at wide (suc i) (row ∷ rows) h lt = each_at wide i rows h.1 (omega arith)

-- the three ways through `put_row`
module _ {x y out : List ℕ} {rows : List (List ℕ)} {from behind end most : ℕ} (row : List ℕ) (both : Bool)
    (are : Rows x rows y out from behind end (length row) most) where
  abbrev place : ℕ
  place = place_of (same_key both) row rows

  abbrev after-rows : List (List ℕ)
  after-rows = placed (same_key both) row rows

  module _ (i w : ℕ) (e : length row ≡ w) (hit : position (same_key both row) rows ≡ Some i) where
    abbrev at : ℕ
    at = from + 1 + i * w

    in_rows : place < length rows
    in_rows = let found = place_of-found (same_key both) row rows i hit in omega (arith, found)

    is : at ≡ from + 1 + place * length row
    is = rw (← e) (ap (λ (n : ℕ). from + 1 + n * length row) (place_of-found (same_key both) row rows i hit).0)

    pub at-whole : at + w ≤ behind
    at-whole =
        let h = mul-le-mul_right {m = suc place} (length row) in_rows in
        let step : suc place * length row ≡ place * length row + length row = omega arith in
        omega (arith, are.stops, is)

    abbrev front : List (List ℕ)
    front = take place rows

    abbrev rest : List (List ℕ)
    rest = drop (suc place) rows

    pub replaced : (after : List ℕ) → Replaces row at (at + w) end out after → PutAmong x after-rows y out most (Ok tt) after
    replaced after moves =
        let old = get_or rows place [] in
        let a = x ++ length rows ∷ joined front in
        let c = joined rest ++ y in
        let before-is : rows ≡ front ++ old ∷ rest = split_at rows place [] in_rows in
        let after_is : after-rows ≡ front ++ row ∷ rest =
        placed-replaced (same_key both) row rows in_rows ∙ set_split rows place row in_rows in
        let same : length rows ≡ length (front ++ row ∷ rest) = ap length before-is ∙ simp length-append in
        let parts : among x rows y ≡ a ++ (old ++ c) =
        ap (λ (r : List (List ℕ)). among x r y) before-is ∙ cut x y old front rest (length rows) (ap length before-is) in
        let long-front : length (joined front) ≡ place * length row =
        length-joined (length row) front (each_take (length row) place rows are.each)
        ∙ ap (λ (n : ℕ). n * length row) (length-take-le place rows (omega (arith, in_rows))) in
        let long-a : at ≡ length a = is ∙ simp length-append (omega (arith, long-front, are.starts)) in
        let long-b : at + w ≡ length (a ++ old) =
        simp length-append (omega (arith, long-a, each_at (length row) place rows are.each in_rows, simp length-append at long-a)) in
        let content = moves a old c (are.is ∙ ap (padded (length out)) parts) long-a long-b (sym (long-among are) ∙ ap length parts) in
        record {
          taken = λ le. (
            refl,
            content ∙ ap (padded (length out)) (sym (ap (λ (r : List (List ℕ)). among x r y) after_is
                ∙ cut x y row front rest (length rows) same)),
          );
          full = λ lt. absurd (omega (arith, ap length after_is, same, are.few));
        }

  module _ (miss : position (same_key both row) rows ≡ None) where
    after_is : after-rows ≡ rows ++ row ∷ []
    after_is = placed-appended (same_key both) row rows (place_of-missed (same_key both) row rows miss)

    one_more : length after-rows ≡ length rows + 1
    one_more = ap length after_is ∙ length-append rows (row ∷ [])

    pub full : most ≤ get_or out from 0 → (after : List ℕ) → PutAmong x after-rows y out most (Err ListFull) after
    full le after =
        record { taken = λ few. absurd (omega (arith, one_more, Rows-count are)); full = λ lt. refl }

    pub appended : get_or out from 0 < most → (mid after : List ℕ) → mid ≡ set out from (get_or out from 0 + 1)
        → Replaces row behind behind end mid after → PutAmong x after-rows y out most (Ok tt) after
    appended lt mid after is-mid moves =
        let n = length rows + 1 in
        let a = x ++ n ∷ joined rows in
        let long-mid : length mid ≡ length out = ap length is-mid ∙ length-set out from (get_or out from 0 + 1) in
        let counted : mid ≡ padded (length mid) (x ++ n ∷ (joined rows ++ y)) =
        is-mid
        ∙ rw (Rows-count are, long-mid)
        (ap (λ (l : List ℕ). set l from n) are.is ∙ padded-set (length out) from (length rows) n x (joined rows ++ y) (sym are.starts)) in
        let parts : x ++ n ∷ (joined rows ++ y) ≡ a ++ ([] ++ y) = sym (append_assoc x (n ∷ joined rows) y) in
        let long-a : behind ≡ length a =
        are.stops ∙ simp length-append (omega (arith, length-joined (length row) rows are.each, are.starts)) in
        let long-b : behind ≡ length (a ++ []) = long-a ∙ simp length-append (omega arith) in
        let long-c : end ≡ length (a ++ ([] ++ y)) = are.ends ∙ simp length-append (omega (arith, simp length-append at long-a)) in
        let content = moves a [] y (counted ∙ ap (padded (length mid)) parts) long-a long-b long-c in
        let laid : among x after-rows y ≡ a ++ (row ++ y) =
        ap (λ (r : List (List ℕ)). among x r y) after_is ∙ cut-last x y row rows n (sym (length-append rows (row ∷ []))) in
        record {
          taken = λ few. (refl, content ∙ rw long-mid (ap (padded (length out)) (sym laid)));
          full = λ more. absurd (omega (arith, one_more, Rows-count are));
        }
