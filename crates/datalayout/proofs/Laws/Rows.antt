-- Rows that a new one was put among keep to what `SoundRows` says, whatever their kind.
-- Assumes nothing.
use mathlib.Core.Path.{◌≡◌, refl, ap, ◌∙◌}
use mathlib.Core.Bool.{Bool, true, false, ◌&&◌, cond, not}
use mathlib.Core.List.{List, [], ◌∷◌, ◌++◌}
use Prim.Native.Nat.{ℕ, suc, ◌+◌, ◌-◌, ◌≤◌}
use native.Mathlib.Omega.{arith}
use lib.Dec.{T, eqb}
use lib.ListN.{length, take, drop, length-append, length-drop}
use lib.Seq.{length-take-le, take-append_seam}
use borrow.Author.Tests.{leb-true, eqb-true}
use Rattle.laws.proofs.Bools.{T_and}
use Rattle.layout.specs.Pointers.{same_space}
use Rattle.layout.specs.Rows.{placed, rows_after, count_after, fits}
use Rattle.layout.specs.Types.{rank_of, same_type}
use Rattle.datalayout.specs.Promises.{Each, Distinct, SoundRows}

-- rows with the same key as a third one, or not, together
abbrev pub Keyed : {A : Type 0} → (A → A → Bool) → Type 0
Keyed {A} same = (a b c : A) → same a b ≡ true → same c a ≡ same c b

pub same_space-keyed : Keyed same_space
same_space-keyed a b c e = ap (eqb c.address_space) (eqb-true a.address_space b.address_space e)

pub same_type-keyed : Keyed same_type
same_type-keyed a b c e = go (eqb (rank_of a.aligned_type) (rank_of b.aligned_type)) (eqb a.width b.width) refl refl e
  where
    go : (r w : Bool) → eqb (rank_of a.aligned_type) (rank_of b.aligned_type) ≡ r → eqb a.width b.width ≡ w → r && w ≡ true
        → same_type c a ≡ same_type c b
    go true true rank width h =
        rw (eqb-true (rank_of a.aligned_type) (rank_of b.aligned_type) rank, eqb-true a.width b.width width)
    go true false rank width h = let z : ◌≡◌ {A = ℕ} 0 1 = cc in absurd (omega arith)
    go false w rank width h = let z : ◌≡◌ {A = ℕ} 0 1 = cc in absurd (omega arith)

module _ {A : Type 0} (same : A → A → Bool) (new : A) where
  placed-each : (P : A → Type 0) (rows : List A) → P new → Each P rows → Each P (placed same new rows)
  unfolding placed
  placed-each P [] h k = (h, tt)
  placed-each P (row ∷ rows) h k = go (same new row) (placed-each P rows h k.1)
    where
      go : (t : Bool) → Each P (placed same new rows) → Each P (cond t (new ∷ rows) (row ∷ placed same new rows))
      go true ih = (h, k.1)
      go false ih = (k.0, ih)

  -- the rows differ from the row whose place the new one takes, so they differ from the new one
  each-keyed : Keyed same → (row : A) → same new row ≡ true → (rows : List A) → Each (λ other. same other row ≡ false) rows
      → Each (λ other. same other new ≡ false) rows
  each-keyed keyed row e [] h = tt
  each-keyed keyed row e (other ∷ rows) h = (keyed new row other e ∙ h.0, each-keyed keyed row e rows h.1)

  placed-distinct : Keyed same → (rows : List A) → Distinct same rows → Distinct same (placed same new rows)
  unfolding placed
  placed-distinct keyed [] h = (tt, tt)
  placed-distinct keyed (row ∷ rows) h = go (same new row) refl (placed-distinct keyed rows h.1)
    where
      go : (t : Bool) → same new row ≡ t → Distinct same (placed same new rows)
          → Distinct same (cond t (new ∷ rows) (row ∷ placed same new rows))
      go true e ih = (each-keyed keyed row e rows h.0, h.1)
      go false e ih = (placed-each (λ other. same other row ≡ false) rows e h.0, ih)

  placed-length : (rows : List A) → length rows ≤ length (placed same new rows)
  unfolding placed
  placed-length [] = omega arith
  placed-length (row ∷ rows) = go (same new row) (placed-length rows)
    where
      go : (t : Bool) → length rows ≤ length (placed same new rows)
          → suc (length rows) ≤ length (cond t (new ∷ rows) (row ∷ placed same new rows))
      go true h = omega arith
      go false h = omega arith

  pub SoundRows-placed : (P : A → Type 0) (limit n : ℕ) (l : List A) → Keyed same → P new → SoundRows same P limit n l
      → fits same new n l limit ≡ true → SoundRows same P limit (count_after same new n l) (rows_after same new n l)
  unfolding fits count_after rows_after
  SoundRows-placed P limit n l keyed h sound fit =
      let rows = placed same new (take n l) in
      let some : length rows ≤ limit = leb-true (length rows) limit fit in
      let kept : length (take n l) ≡ n = length-take-le n l (omega (arith, sound.room_length, sound.within)) in
      let more = placed-length (take n l) in
      let count : n + (length rows - length (take n l)) ≡ length rows = omega arith in
      let front : take (n + (length rows - length (take n l))) (rows ++ drop (length rows) l) ≡ rows =
      rw count (take-append_seam rows (drop (length rows) l)) in
      record {
        room_length =
            omega (arith, sound.room_length, length-append rows (drop (length rows) l), length-drop (length rows) l);
        within = omega arith;
        aligned = rw front (placed-each P (take n l) h sound.aligned);
        distinct = rw front (placed-distinct keyed (take n l) sound.distinct);
      }

-- a table's rows, by a test that antt computes
abbrev pub differs : {A : Type 0} → (A → A → Bool) → A → List A → Bool
differs same row [] = true
differs same row (other ∷ rows) = not (same other row) && differs same row rows

abbrev pub all_differ : {A : Type 0} → (A → A → Bool) → List A → Bool
all_differ same [] = true
all_differ same (row ∷ rows) = differs same row rows && all_differ same rows

T_not : (b : Bool) → T (not b) → b ≡ false
T_not true t = absurd t
T_not false t = refl

each-of-test : {A : Type 0} (same : A → A → Bool) (row : A) (rows : List A) → T (differs same row rows)
    → Each (λ other. same other row ≡ false) rows
each-of-test same row [] t = tt
each-of-test same row (other ∷ rows) t =
    let h = T_and (not (same other row)) (differs same row rows) t in
    (T_not (same other row) h.0, each-of-test same row rows h.1)

pub distinct-of-test : {A : Type 0} (same : A → A → Bool) (rows : List A) → T (all_differ same rows) → Distinct same rows
distinct-of-test same [] t = tt
distinct-of-test same (row ∷ rows) t =
    let h = T_and (differs same row rows) (all_differ same rows) t in
    (each-of-test same row rows h.0, distinct-of-test same rows h.1)
