-- Laws of specs/Puts.antt and of the runs of specs/Words.antt.
--     Behind-then, Behind-first     a run behind a run; a run behind nothing
--     Numbers-done                  numbers behind their count
--     Layout-done, Puts-unique      the five parts, one behind the other; no second answer fits
--     Filled                        the invariant of a loop over rows, of any kind and width: the first i lie behind their count
-- Assumes nothing.
use mathlib.Core.Path.{◌≡◌, refl, sym, ap, subst, ◌∙◌}
use mathlib.Core.List.{List, [], ◌∷◌, ◌++◌, append-nil, append_assoc}
use Prim.Native.Nat.{ℕ, ◌+◌, ◌*◌, ◌≤◌, ◌<◌, min}
use native.Mathlib.Nat.{add_comm, zero-mul, suc-mul}
use native.Mathlib.Numerals.{add-one}
use native.Mathlib.Omega.{arith}
use lib.ListN.{length, get_or, take, length-append}
use lib.Seq.{take-suc, take-nil, take_all, length-take-le}
use Rattle.std.proofs.lemmas.List.{take_min}
use Rattle.table.specs.Buffers.{over}
use Rattle.flat.specs.Words.{run_of}
use Rattle.flat.specs.Puts.{Behind, Part, Puts}

pub Behind-then : (ws vs : List ℕ) (at m : ℕ) (l₀ l₁ l₂ : List ℕ) → Behind ws at l₀ l₁ → m ≡ at + length ws → Behind vs m l₁ l₂
    → Behind (ws ++ vs) at l₀ l₂
Behind-then ws vs at m l₀ l₁ l₂ first is_m second xs b is-l is_at =
    let e : m ≡ length (xs ++ ws) = simp length-append (omega arith) in
    second (xs ++ ws) b (first xs b is-l is_at) e ∙ ap (λ (ys : List ℕ). over ys b) (append_assoc xs ws vs)

over_none : (l : List ℕ) → l ≡ over [] l
unfolding over
over_none l = rw (take-nil (length l))

pub Behind-first : (ws l₀ l₁ : List ℕ) → Behind ws 0 l₀ l₁ → l₁ ≡ over ws l₀
Behind-first ws l₀ l₁ h = h [] l₀ (over_none l₀) refl

-- the first n of a room, behind how many they are
pub Numbers-done : (items : List ℕ) (n m most at end : ℕ) (l₀ l₁ l₂ : List ℕ) → m ≡ min n (length items)
    → end ≡ at + 1 + length (take m items) → end ≤ at + most → Behind (length (take m items) ∷ []) at l₀ l₁
    → Behind (take m items) (at + 1) l₁ l₂ → Part (length (take n items) ∷ take n items) most at l₀ end l₂
Numbers-done items n m most at end l₀ l₁ l₂ clipped is-end bound first second =
    let same : take m items ≡ take n items = rw clipped (take_min n items) in
    rw (← same)
    (record {
      ends = omega arith;
      bounded = bound;
      content = Behind-then (length (take m items) ∷ []) (take m items) at (at + 1) l₀ l₁ l₂ first refl second;
    })

module _ {A : Type 0} (words : A → List ℕ) where
  run_of-snoc : (rows : List A) (row : A) → run_of words (rows ++ (row ∷ [])) ≡ run_of words rows ++ words row
  unfolding run_of
  run_of-snoc [] row = append-nil (words row)
  run_of-snoc (r ∷ rows) row = rw (run_of-snoc rows row) (sym (append_assoc (words r) (run_of words rows) (words row)))

  -- of any default d: the row at i is there
  run_of-more : (rows : List A) (i : ℕ) (d : A) → i < length rows
      → run_of words (take (i + 1) rows) ≡ run_of words (take i rows) ++ words (get_or rows i d)
  run_of-more rows i d lt = rw (add-one, take-suc rows i d lt) (run_of-snoc (take i rows) (get_or rows i d))

  module _ (wide : ℕ) (each : (row : A) → length (words row) ≡ wide) where
    pub length-run_of : (rows : List A) → length (run_of words rows) ≡ length rows * wide
    unfolding run_of
    length-run_of [] = sym (zero-mul wide)
    length-run_of (row ∷ rows) =
        rw (length-append (words row) (run_of words rows), each row, length-run_of rows, suc-mul) (add_comm wide (length rows * wide))

    -- rows that are written one behind the other, from `at` on
    module _ (rows : List A) (at : ℕ) (before : List ℕ) where
      pub record Filled (i : ℕ) (after : List ℕ) : Type 0 where
        pub in_rows : i ≤ length rows
        pub long : length after ≡ length before
        pub content : Behind (run_of words (take i rows)) at before after

      pub Filled-first : Filled 0 before
      unfolding run_of
      Filled-first = record {
        in_rows = omega arith;
        long = refl;
        content = λ xs b is-l is_at. is-l ∙ ap (λ (ys : List ℕ). over ys b) (sym (append-nil xs));
      }

      length-laid : (i : ℕ) → i ≤ length rows → length (run_of words (take i rows)) ≡ i * wide
      length-laid i le = length-run_of (take i rows) ∙ ap (λ (k : ℕ). k * wide) (length-take-le i rows le)

      pub Filled-more : (i m : ℕ) (d : A) (v l l' : List ℕ) → Filled i l → i < length rows → m ≡ at + i * wide
          → v ≡ words (get_or rows i d) → length l' ≡ length l → Behind v m l l' → Filled (i + 1) l'
      Filled-more i m d v l l' h lt is_m is-v long put =
          let e = length-laid i (omega arith) in
          let is : m ≡ at + length (run_of words (take i rows)) = is_m ∙ rw e in
          record {
            in_rows = omega arith;
            long = long ∙ h.long;
            content =
                rw (run_of-more rows i d lt, ← is-v)
                (Behind-then (run_of words (take i rows)) v at m before l l' h.content is put);
          }

      -- their count stands before them
      pub Filled-done : (i from end most : ℕ) (l₀ l : List ℕ) → at ≡ from + 1 → Behind (length rows ∷ []) from l₀ before → Filled i l
          → length rows ≤ i → end ≡ at + length rows * wide → end ≤ from + most → Part (length rows ∷ run_of words rows) most from l₀ end l
      Filled-done i from end most l₀ l is_at first h out is-end bound =
          let all : take i rows ≡ rows = take_all i rows out in
          record {
            ends = is-end ∙ rw (length-run_of rows) (omega arith);
            bounded = bound;
            content = Behind-then (length rows ∷ []) (run_of words rows) from at l₀ before l first is_at (rw all at h.content);
          }

-- head, widths, spaces, type rows and pointer rows, with the buffer between them; the head's words came by value, as v
pub Layout-done : (h v w s t p l₀ l₁ l₂ l₃ l₄ l₅ : List ℕ) (a b c d : ℕ) → v ≡ h → length h ≡ 9 → Behind v 0 l₀ l₁ → Part w 17 9 l₁ a l₂
    → Part s 17 a l₂ b l₃ → Part t 257 b l₃ c l₄ → Part p 161 c l₄ d l₅ → Puts (h ++ w ++ s ++ t ++ p) l₀ d l₅
Layout-done h v w s t p l₀ l₁ l₂ l₃ l₄ l₅ a b c d is-head nine head widths spaces types pointers =
    let first : Behind h 0 l₀ l₁ = subst (λ (ws : List ℕ). Behind ws 0 l₀ l₁) is-head head in
    let to-widths = Behind-then h w 0 9 l₀ l₁ l₂ first (omega arith) widths.content in
    let to-spaces = Behind-then (h ++ w) s 0 a l₀ l₂ l₃ to-widths (simp length-append (omega (arith, widths.ends))) spaces.content in
    let to-types = Behind-then (h ++ w ++ s) t 0 b l₀ l₃ l₄ to-spaces (simp length-append (omega (arith, widths.ends, spaces.ends)))
    types.content in
    let whole = Behind-then (h ++ w ++ s ++ t) p 0 c l₀ l₄ l₅ to-types
    (simp length-append (omega (arith, widths.ends, spaces.ends, types.ends))) pointers.content in
    record {
      counts = simp length-append (omega (arith, widths.ends, spaces.ends, types.ends, pointers.ends));
      bounded = omega (arith, widths.bounded, spaces.bounded, types.bounded, pointers.bounded);
      content = Behind-first (h ++ w ++ s ++ t ++ p) l₀ l₅ whole;
    }

-- no second answer fits
pub Puts-unique : (words b l k : List ℕ) (m n : ℕ) → Puts words b m l → Puts words b n k → (m ≡ n) × (l ≡ k)
Puts-unique words b l k m n h g = (h.counts ∙ sym g.counts, h.content ∙ sym g.content)
