-- Laws of specs/Utf8.antt: the rows by which a first byte is answered, the turn of a loop over the bytes, and that every word
-- of a well-formed text is a byte.
-- Assumes nothing.
use mathlib.Core.Path.{◌≡◌, refl, sym, ap, ◌∙◌}
use mathlib.Core.Bool.{Bool, true, false, cond, ◌&&◌}
use mathlib.Core.List.{List, [], ◌∷◌}
use Prim.Native.Nat.{ℕ, zero, suc, ◌+◌, ◌-◌, ◌≤◌, ◌<◌}
use native.Mathlib.Omega.{arith}
use lib.Dec.{T, eqb, leb, lit≤}
use lib.ListN.{get_or, replicate}
use borrow.Author.Tests.{eqb-true, leb-true, leb-false, ne_eqb}
use Rattle.laws.specs.Numbers.{within}
use Rattle.laws.proofs.Bools.{T_true, T_and}
use Rattle.laws.proofs.Numbers.{within-inside, within-above}
use Rattle.laws.proofs.Runs.{holds_from, holds-of-run}
use Rattle.laws.proofs.Bits.{le-or-left, le-or-right}
use Rattle.std.proofs.Common.{Option, Some, None, fold, bit_or}
use Rattle.utf8.specs.declared.Owed.{Owed}
use Rattle.utf8.specs.Utf8.{Range, range, follower, nowhere, Sequence, sequences, in_range, rest_of, pays, owing}

-- Named in docs/PROVING.md: lists of ranges compared, so that antt can compute a whole run of first bytes.

abbrev same : List Range → List Range → Bool
same [] [] = true
same [] (q ∷ qs) = false
same (r ∷ rs) [] = false
same (r ∷ rs) (q ∷ qs) = eqb r.first q.first && (eqb r.last q.last && same rs qs)

same→eq : (rs qs : List Range) → T (same rs qs) → rs ≡ qs
same→eq [] [] t = refl
same→eq [] (q ∷ qs) t = absurd t
same→eq (r ∷ rs) [] t = absurd t
same→eq (r ∷ rs) (q ∷ qs) t =
    let h = T_and (eqb r.first q.first) (eqb r.last q.last && same rs qs) t in
    let k = T_and (eqb r.last q.last) (same rs qs) h.1 in
    let a : r.first ≡ q.first = eqb-true r.first q.first (T_true _ h.0) in
    let b : r.last ≡ q.last = eqb-true r.last q.last (T_true _ k.0) in
    let e : r ≡ q = ap (λ (x : ℕ). range x r.last) a ∙ ap (range q.first) b in
    let rest = same→eq rs qs k.1 in
    cc

pub rest_of-of-run : (rs : List Range) (first count b : ℕ) → T (holds_from (λ (k : ℕ). same rs (rest_of sequences k)) first count)
    → first ≤ b → b < first + count → rs ≡ rest_of sequences b
rest_of-of-run rs first count b t low high =
    same→eq rs (rest_of sequences b) (holds-of-run (λ (k : ℕ). same rs (rest_of sequences k)) first count b t low high)

-- the first bytes of all rows are at most m
abbrev leads_within : List Sequence → ℕ → Bool
leads_within [] m = true
leads_within (s ∷ rows) m = leb s.lead.last m && leads_within rows m

rest_of-past : (rows : List Sequence) (m b : ℕ) → T (leads_within rows m) → m < b → rest_of rows b ≡ nowhere ∷ []
rest_of-past [] m b t lt = refl
rest_of-past (s ∷ rows) m b t lt =
    let h = T_and (leb s.lead.last m) (leads_within rows m) t in
    let le : s.lead.last ≤ m = leb-true s.lead.last m (T_true _ h.0) in
    rw (within-above s.lead.first s.lead.last b (omega arith)) (rest_of-past rows m b h.1 lt)

pub rest_of-high : (b : ℕ) → 244 < b → nowhere ∷ [] ≡ rest_of sequences b
rest_of-high b lt = sym (rest_of-past sequences 244 b tt lt)

-- the turn of the loop

none-nowhere : (b : ℕ) → in_range nowhere b ≡ false
none-nowhere zero = refl
none-nowhere (suc b) = within-above 1 0 (suc b) (omega arith)

pub pays-nowhere : (rs : List Range) (s : List ℕ) → pays (nowhere ∷ rs) s ≡ false
unfolding pays
pays-nowhere rs [] = refl
pays-nowhere rs (b ∷ s) = rw (none-nowhere b)

module _ (o : Owed) (b : ℕ) (s : List ℕ) where
  some : (n : ℕ) → (n ≡ 0 → ⊥) → n ≡ suc (n - 1)
  some zero h = absurd (h refl)
  some (suc n) h = ap suc (omega arith)

  pub pays-lead : (r : Option Owed) → o.left ≡ 0 → owing r ≡ rest_of sequences b → pays (owing r) s ≡ pays (owing (Some o)) (b ∷ s)
  unfolding pays
  pays-lead r e is = rw (e, is)

  pub pays-missed : (o.left ≡ 0 → ⊥) → in_range (range o.low o.high) b ≡ false → pays (owing None) s ≡ pays (owing (Some o)) (b ∷ s)
  unfolding pays
  pays-missed h out = rw (some o.left h, out) (pays-nowhere [] s)

  pub pays-next : {r : Option Owed} → (o.left ≡ 0 → ⊥) → o.low ≤ b → b ≤ o.high
      → r ≡ Some (record { left = o.left - 1; low = 128; high = 191 }) → pays (owing r) s ≡ pays (owing (Some o)) (b ∷ s)
  unfolding pays
  pays-next h low high is = rw is (by o.left h)
    where
      rest : (n : ℕ) → pays (owing (Some (record { left = n; low = 128; high = 191 }))) s ≡ pays (replicate n follower) s
      rest zero = refl
      rest (suc n) = refl

      by : (n : ℕ) → (n ≡ 0 → ⊥)
          → pays (owing (Some (record { left = n - 1; low = 128; high = 191 }))) s ≡ pays
          (owing (Some (record { left = n; low = o.low; high = o.high }))) (b ∷ s)
      by zero h = absurd (h refl)
      by (suc n) h = let e : suc n - 1 ≡ n = omega arith in rw (e, within-inside o.low o.high b low high) (rest n)

pub pays-done : (o : Owed) → eqb o.left 0 ≡ pays (owing (Some o)) []
unfolding pays
pays-done o = by o.left
  where
    by : (n : ℕ) → eqb n 0 ≡ pays (owing (Some (record { left = n; low = o.low; high = o.high }))) []
    by zero = refl
    by (suc n) = ne_eqb (suc n) 0 (λ e. omega arith)

-- every word of a well-formed text is a byte

abbrev byte_ranges : List Range → Bool
byte_ranges [] = true
byte_ranges (r ∷ rs) = leb r.last 255 && byte_ranges rs

abbrev byte_rows : List Sequence → Bool
byte_rows [] = true
byte_rows (s ∷ rows) = byte_ranges s.rest && byte_rows rows

byte_ranges-rest_of : (rows : List Sequence) (b : ℕ) → T (byte_rows rows) → T (byte_ranges (rest_of rows b))
byte_ranges-rest_of [] b t = tt
byte_ranges-rest_of (s ∷ rows) b t =
    let h = T_and (byte_ranges s.rest) (byte_rows rows) t in
    by (in_range s.lead b) h.0 (byte_ranges-rest_of rows b h.1)
  where
    by : (x : Bool) → T (byte_ranges s.rest) → T (byte_ranges (rest_of rows b)) → T (byte_ranges (cond x s.rest (rest_of rows b)))
    by true here later = here
    by false here later = later

within-le : (first last b : ℕ) → T (within first last b) → b ≤ last
within-le first last b t = leb-true b last (T_true _ (T_and (leb first b) (leb b last) t).1)

-- a first byte above 255 starts nothing
lead-byte : (b : ℕ) (s : List ℕ) → T (pays (rest_of sequences b) s) → b < 256
lead-byte b s t = by (leb 256 b) refl
  where
    by : (x : Bool) → leb 256 b ≡ x → b < 256
    by true e =
        let high = leb-true 256 b e in
        let no : T false = rw (← (rest_of-high b (omega arith)), pays-nowhere [] s) at t in
        absurd no
    by false e = leb-false 256 b e

pub bytes-of-pays : (rs : List Range) (s : List ℕ) → T (byte_ranges rs) → T (pays rs s) → (k : ℕ) → get_or s k 0 < 256
unfolding pays
bytes-of-pays rs [] small t k = lit≤ tt
bytes-of-pays [] (b ∷ s) small t zero = lead-byte b s t
bytes-of-pays [] (b ∷ s) small t (suc k) = bytes-of-pays (rest_of sequences b) s (byte_ranges-rest_of sequences b tt) t k
bytes-of-pays (r ∷ rs) (b ∷ s) small t zero =
    let le = leb-true r.last 255 (T_true _ (T_and (leb r.last 255) (byte_ranges rs) small).0) in
    let q = within-le r.first r.last b (T_and (in_range r b) (pays rs s) t).0 in
    omega arith
bytes-of-pays (r ∷ rs) (b ∷ s) small t (suc k) =
    bytes-of-pays rs s (T_and (leb r.last 255) (byte_ranges rs) small).1 (T_and (in_range r b) (pays rs s) t).1 k

-- an ASCII byte owes nothing
pub pays-ascii : (b : ℕ) (s : List ℕ) → b < 128 → pays [] (b ∷ s) ≡ pays [] s
unfolding pays
pays-ascii b s low = rw (pays, rest_of, within-inside 0 127 b (omega arith) (omega arith))

-- words that are ASCII when they are joined bit by bit, since `|` is no less than either side
pub joined-ascii : (all : ℕ) (s : List ℕ) → fold (λ a b. bit_or a b) all s < 128 → (all < 128) × (pays [] s ≡ true)
unfolding pays
joined-ascii all [] h = (h, refl)
joined-ascii all (b ∷ s) h =
    let w = joined-ascii (bit_or all b) s h in
    (omega (arith, w.0, le-or-left all b), pays-ascii b s (omega (arith, w.0, le-or-right all b)) ∙ w.1)
