-- The checker says yes exactly if the rows are well formed and the ranks pass in the words of the theory (ranks/specs/Table).
-- Assumes nothing.
use mathlib.Core.Path.{◌≡◌, refl}
use mathlib.Core.Bool.{Bool, true, false, not, cond, ◌&&◌, ◌||◌}
use mathlib.Core.List.{List, [], ◌∷◌, Memᴰ}
use Prim.Native.Nat.{ℕ, zero, suc, ◌+◌, ◌≤◌, ◌<◌}
use native.Mathlib.Omega.{arith}
use native.Mathlib.Decide.{ℕ_discrete}
use lib.Dec.{eqb, leb, ltb}
use lib.ListN.{length, get_or}
use borrow.Author.Tests.{leb-true, le-leb, ltb-true, lt-ltb}
use Rattle.laws.proofs.Conjunctions.{and-true}
use Rattle.kinds.specs.Kinds.{integer}
use Rattle.units.specs.Limits.{is_integer_width}
use Rattle.table.specs.Rows.{entry_room, row_at}
use Rattle.ranks.specs.Table.{kept, broken, Refers, Lawful, Passes}
use Rattle.rules.specs.declared.Place.{Place}
use Rattle.rules.specs.Places.{place_at, stands, suits}
use Rattle.rules.specs.Counts.{counted}
use Rattle.rules.specs.Lawful.{max_entries, refs_at, bad_width, barred, first_bad, rule_at, table_of}
use Rattle.std.specs.Prelude.{Option, Some, None}
use Rattle.formed.specs.Formed.{row_ok, formed_from, well_formed}
use Rattle.checker.specs.Checked.{every_from, refers, lawful, rows_from, checked}
use Rattle.resolve.specs.Formed.{table_formed}

-- a reference that may not stand in its place is refused
barred-told : (place : Option Place) (k r : ℕ) → stands place k ≡ false → barred place r ≡ kept → ⊥
barred-told None k r q h = cc
barred-told (Some p) k r q h = cc

-- references, from number i of entry e on
module _ (rows refs ranks : List ℕ) (n e : ℕ) where
  abbrev kind : ℕ
  kind = (row_at rows e).kind

  abbrev counts : ℕ → Bool
  counts r = counted (row_at rows e) (row_at rows r)

  pub record Good (i r : ℕ) : Type 0 where
    pub inside : r < n
    pub suited : suits kind i (row_at rows r).kind ≡ true
    pub falls : counts r ≡ true → get_or ranks r 0 < get_or ranks e 0

  good_of : (i r : ℕ) → refers rows ranks n e i r ≡ true → Good i r
  unfolding refers
  good_of i r h =
      let a = and-true (ltb r n) _ h in
      let b = and-true (suits kind i (row_at rows r).kind) _ a.1 in
      record { inside = ltb-true r n a.0; suited = b.0; falls = λ c. ltb-true _ _ (go (counts r) c b.1) }
    where
      go : (c : Bool) → c ≡ true → not c || ltb (get_or ranks r 0) (get_or ranks e 0) ≡ true → ltb (get_or ranks r 0) (get_or ranks e 0) ≡ true
      go true q h = h
      go false q h = let z : ◌≡◌ {A = ℕ} 0 1 = cc in absurd (omega arith)

  of-good : (i r : ℕ) → Good i r → refers rows ranks n e i r ≡ true
  unfolding refers
  of-good i r g = rw (lt-ltb r n g.inside, g.suited) (go (counts r) g.falls)
    where
      go : (c : Bool) → (c ≡ true → get_or ranks r 0 < get_or ranks e 0) → not c || ltb (get_or ranks r 0) (get_or ranks e 0) ≡ true
      go true f = lt-ltb (get_or ranks r 0) (get_or ranks e 0) (f refl)
      go false f = refl

  -- all of them: in range and falling, and none of a bad kind
  every-inside : (l : List ℕ) (i r : ℕ) → every_from (refers rows ranks n e) i l ≡ true → Memᴰ r l
      → (r < n) × (counts r ≡ true → get_or ranks r 0 < get_or ranks e 0)
  unfolding every_from
  every-inside [] i r h m = elim m [ ]
  every-inside (x ∷ xs) i r h (Memᴰ.head q) =
      let g = good_of i x (and-true (refers rows ranks n e i x) _ h).0 in
      rw q (g.inside, g.falls)
  every-inside (x ∷ xs) i r h (Memᴰ.tail m) = every-inside xs (suc i) r (and-true (refers rows ranks n e i x) _ h).1 m

  every-kept : (l : List ℕ) (i : ℕ) → every_from (refers rows ranks n e) i l ≡ true → first_bad rows kind i l ≡ kept
  unfolding every_from first_bad
  every-kept [] i h = refl
  every-kept (x ∷ xs) i h =
      let b = and-true (refers rows ranks n e i x) _ h in
      rw (good_of i x b.0).suited (every-kept xs (suc i) b.1)

  every_of : (l : List ℕ) (i : ℕ) → first_bad rows kind i l ≡ kept
      → ((r : ℕ) → Memᴰ r l → (r < n) × (counts r ≡ true → get_or ranks r 0 < get_or ranks e 0))
      → every_from (refers rows ranks n e) i l ≡ true
  unfolding every_from first_bad
  every_of [] i h f = refl
  every_of (x ∷ xs) i h f = go (suits kind i (row_at rows x).kind) refl h (λ k. every_of xs (suc i) k (λ r m. f r (Memᴰ.tail m)))
    where
      go : (s : Bool) → suits kind i (row_at rows x).kind ≡ s → cond s (first_bad rows kind (suc i) xs)
          (barred (place_at kind i) x) ≡ kept
          → (first_bad rows kind (suc i) xs ≡ kept → every_from (refers rows ranks n e) (suc i) xs ≡ true)
          → refers rows ranks n e i x && every_from (refers rows ranks n e) (suc i) xs ≡ true
      go true q h rest =
          let g = f x (Memᴰ.head refl) in
          rw (of-good i x (record { inside = g.0; suited = q; falls = g.1 })) (rest h)
      go false q h rest = absurd (barred-told (place_at kind i) _ x q h)

  abbrev wide : Bool
  wide = eqb kind integer && not (is_integer_width (row_at rows e).number)

  -- one entry
  pub lawful-passes : lawful rows refs ranks n e ≡ true
      → Lawful (table_of rows refs n) e × ((r : ℕ) → Refers (table_of rows refs n) e r → get_or ranks r 0 < get_or ranks e 0)
  unfolding rule_at
  lawful-passes h =
      let b = and-true (not wide) _ h in (
        record {
          inside = λ r m. (every-inside (refs_at rows refs e) 0 r b.1 m).0;
          fine = fine wide b.0
              (every-kept (refs_at rows refs e) 0 b.1);
        },
        λ r k. (every-inside (refs_at rows refs e) 0 r b.1 k.listed).1 k.counted,
      )
    where
      fine : (w : Bool) → not w ≡ true → first_bad rows kind 0 (refs_at rows refs e) ≡ kept
          → cond w (broken bad_width (row_at rows e).number) (first_bad rows kind 0 (refs_at rows refs e)) ≡ kept
      fine true q k = let z : ◌≡◌ {A = ℕ} 0 1 = cc in absurd (omega arith)
      fine false q k = k

  pub passes-lawful : Lawful (table_of rows refs n) e → ((r : ℕ) → Refers (table_of rows refs n) e r → get_or ranks r 0 < get_or ranks e 0)
      → lawful rows refs ranks n e ≡ true
  unfolding rule_at
  passes-lawful l f = go wide l.fine
    where
      go : (w : Bool) → cond w (broken bad_width (row_at rows e).number) (first_bad rows kind 0 (refs_at rows refs e)) ≡ kept
          → not w && every_from (refers rows ranks n e) 0 (refs_at rows refs e) ≡ true
      go true q = let z : ◌≡◌ {A = ℕ} 0 1 = cc in absurd (omega arith)
      go false q = every_of (refs_at rows refs e) 0 q (λ r m. (l.inside r m, λ c. f r (record { listed = m; counted = c })))

-- all entries
module _ (rows refs : List ℕ) (bytes : ℕ) (ranks : List ℕ) (n : ℕ) where
  rows_both : (left e r k : ℕ) → rows_from rows refs bytes ranks n left e r k ≡ true
      → (formed_from rows (length refs) bytes left e r k ≡ true) × ((i : ℕ) → e ≤ i → i < e + left → lawful rows refs ranks n i ≡ true)
  unfolding rows_from formed_from
  rows_both zero e r k h = (refl, λ i a b. absurd (omega arith))
  rows_both (suc left) e r k h =
      let p = and-true (row_ok rows (length refs) bytes e r k && lawful rows refs ranks n e) _ h in
      let q = and-true (row_ok rows (length refs) bytes e r k) _ p.0 in
      let ih = rows_both left (suc e) (r + (row_at rows e).count) (k + (row_at rows e).len) p.1 in
      (rw q.0 ih.0, λ i a b. at i a b (ℕ_discrete i e) q.1 ih.1)
    where
      at : (i : ℕ) → e ≤ i → i < e + suc left → Dec (i ≡ e) → lawful rows refs ranks n e ≡ true
          → ((i : ℕ) → suc e ≤ i → i < suc e + left → lawful rows refs ranks n i ≡ true) → lawful rows refs ranks n i ≡ true
      at i a b (yes s) here later = rw s here
      at i a b (no t) here later = later i (omega arith) (omega arith)

  both-rows : (left e r k : ℕ) → formed_from rows (length refs) bytes left e r k ≡ true
      → ((i : ℕ) → e ≤ i → i < e + left → lawful rows refs ranks n i ≡ true)
      → rows_from rows refs bytes ranks n left e r k ≡ true
  unfolding rows_from formed_from
  both-rows zero e r k h f = refl
  both-rows (suc left) e r k h f =
      let p = and-true (row_ok rows (length refs) bytes e r k) _ h in
      rw (p.0, f e (omega arith) (omega arith))
      (both-rows left (suc e) (r + (row_at rows e).count) (k + (row_at rows e).len) p.1 (λ i a b. f i (omega arith) (omega arith)))

module _ (rows refs names ranks : List ℕ) (n : ℕ) where
  pub checked-passes : checked rows refs names ranks n ≡ true → (table_formed rows refs names n ≡ true) × Passes (table_of rows refs n) ranks
  unfolding checked table_formed well_formed
  checked-passes h =
      let a = and-true (leb n max_entries) _ h in
      let b = and-true (leb n (entry_room (length rows))) _ a.1 in
      let c = and-true (leb n (length ranks)) _ b.1 in
      let d = rows_both rows refs (length names) ranks n n 0 0 0 c.1 in (
        rw (a.0, b.0) d.0,
        record {
          sized = leb-true n (length ranks) c.0;
          lawful = λ e lt. (lawful-passes rows refs ranks n e (d.1 e (omega arith) (omega arith))).0;
          falls = λ e r lt k. (lawful-passes rows refs ranks n e (d.1 e (omega arith) (omega arith))).1 r k;
        },
      )

  pub passes-checked : table_formed rows refs names n ≡ true → Passes (table_of rows refs n) ranks → checked rows refs names ranks n ≡ true
  unfolding checked table_formed well_formed
  passes-checked h p =
      let a = and-true (leb n max_entries) _ h in
      let b = and-true (leb n (entry_room (length rows))) _ a.1 in
      rw (a.0, b.0, le-leb n (length ranks) p.sized)
      (both-rows rows refs (length names) ranks n n 0 0 0 b.1 (λ e low high. passes-lawful rows refs ranks n e
      (p.lawful e (omega arith)) (λ r k. p.falls e r (omega arith) k)))
