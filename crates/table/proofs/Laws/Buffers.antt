-- Laws of specs/Buffers.antt: zeros; a run laid over a buffer step by step (words, bytes and zeros alike), and behind another run.
--     Laid run rest i l     l is rest with the first i of run laid over its front
--     stored_from i run l   l with run stored word by word from place i on
--     over-rest             a run laid behind another; over-again: in place of a shorter one; padded-rest: zeros behind it
-- Assumes nothing.
use mathlib.Core.Path.{◌≡◌, refl, sym, ap, ◌∙◌}
use mathlib.Core.Logic.{⊎_elim}
use mathlib.Core.List.{List, [], ◌∷◌, ◌++◌, append-nil, append_assoc}
use Prim.Native.Nat.{ℕ, zero, suc, ◌+◌, ◌-◌, ◌%◌, ◌≤◌, ◌<◌, min}
use native.Mathlib.Nat.{eq-or-lt_of_le}
use native.Mathlib.Numerals.{add-one}
use native.Mathlib.Omega.{arith}
use lib.ListN.{length, get_or, take, drop, set, length-append, length-drop, length-take, length-set, length-replicate, drop_of_length-le}
use lib.Seq.{drop-cons, take-suc, set_at, append_snoc, length-take-le, drop-drop, drop-length, take_all, take-append-add, drop-append-add}
use lib.Seq.{drop-append_seam, take-append_seam, take-append-le}
use Rattle.laws.proofs.Rests.{rest_part, rest-none}
use Rattle.table.specs.Buffers.{over, zeros, padded, low_bytes}

pub length-zeros : (n : ℕ) → length (zeros n) ≡ n
length-zeros n = length-replicate n 0

pub take-zeros : (k n : ℕ) → k ≤ n → take k (zeros n) ≡ zeros k
take-zeros zero n h = refl
take-zeros (suc k) zero h = absurd (omega arith)
take-zeros (suc k) (suc n) h = ap (λ (l : List ℕ). 0 ∷ l) (take-zeros k n (omega arith))

pub drop-zeros : (k n : ℕ) → drop k (zeros n) ≡ zeros (n - k)
drop-zeros zero n = let z : n - 0 ≡ n = omega arith in rw z
drop-zeros (suc k) zero = let z : 0 - suc k ≡ 0 = omega arith in rw z
drop-zeros (suc k) (suc n) = let z : suc n - suc k ≡ n - k = omega arith in rw z (drop-zeros k n)

pub padded-none : (room : ℕ) → padded room [] ≡ zeros room
unfolding padded
padded-none room = let z : room - 0 ≡ room = omega arith in rw z

pub record Laid (run rest : List ℕ) (i : ℕ) (l : List ℕ) : Type 0 where
  pub in_run : i ≤ length run
  pub in_rest : i ≤ length rest
  pub long : length l ≡ length rest
  pub content : l ≡ take i run ++ drop i rest

module _ (run rest : List ℕ) where
  stored : (i : ℕ) → i < length run → i < length rest
      → set (take i run ++ drop i rest) i (get_or run i 0) ≡ take (i + 1) run ++ drop (i + 1) rest
  stored i in_run in_rest =
      let len : length (take i run) ≡ i = length-take-le i run (omega arith) in
      rw (drop-cons rest i 0, set_at (take i run), add-one, take-suc run i 0)
      (sym (append_snoc (take i run) (get_or run i 0) (drop (suc i) rest)))

  pub Laid-more : (i v : ℕ) (l : List ℕ) → Laid run rest i l → i < length run → i < length rest → v ≡ get_or run i 0
      → Laid run rest (i + 1) (set l i v)
  Laid-more i v l h in_run in_rest is = record {
    in_run = omega arith;
    in_rest = omega arith;
    long = simp length-set h.long;
    content = rw (is, h.content) (stored i in_run in_rest);
  }

  pub Laid-done : (i : ℕ) (l : List ℕ) → Laid run rest i l → length run ≤ i → l ≡ over run rest
  unfolding over
  Laid-done i l h out =
      let e : i ≡ length run = omega arith in
      h.content ∙ rw (e, take_all (length run) run (omega arith), take_all (length rest) run (omega arith))

  pub Laid-clipped : (i : ℕ) (l : List ℕ) → Laid run rest i l → i ≡ length rest → l ≡ over run rest
  unfolding over
  Laid-clipped i l h e =
      h.content ∙ rw (drop_of_length-le rest {i = length run} (omega arith), e, drop-length rest)

  pub Laid-ended : (i : ℕ) (l : List ℕ) → Laid run rest i l → min (length run) (length rest) ≤ i → l ≡ over run rest
  Laid-ended i l h out =
      ⊎_elim (λ (e : i ≡ length run). Laid-done i l h (omega arith)) (λ (q : i < length run). Laid-clipped i l h (omega arith))
      (eq-or-lt_of_le h.in_run)

  -- as far as both reach
  pub over-front : (i : ℕ) → i ≡ min (length run) (length rest) → take i run ++ drop i rest ≡ over run rest
  over-front i is =
      Laid-ended i (take i run ++ drop i rest)
      (record {
        in_run = omega arith;
        in_rest = omega arith;
        long = simp (length-append, length-take, length-drop) (omega arith);
        content = refl;
      })
      (omega arith)

-- Named in docs/BENCHMARKS.md and PROVING.md: a run stored word by word, from place i on; past the end of l nothing is stored.
abbrev pub stored_from : ℕ → List ℕ → List ℕ → List ℕ
stored_from i [] l = l
stored_from i (v ∷ run) l = stored_from (suc i) run (set l i v)

stored_from-nil : (i : ℕ) (run : List ℕ) → stored_from i run [] ≡ []
stored_from-nil i [] = refl
stored_from-nil i (v ∷ run) = stored_from-nil (suc i) run

stored_from-cons : (x i : ℕ) (run l : List ℕ) → stored_from (suc i) run (x ∷ l) ≡ x ∷ stored_from i run l
stored_from-cons x i [] l = refl
stored_from-cons x i (v ∷ run) l = stored_from-cons x (suc i) run (set l i v)

pub stored-agrees-over : (run l : List ℕ) → stored_from 0 run l ≡ over run l
unfolding over
stored-agrees-over [] [] = refl
stored-agrees-over [] (x ∷ l) = refl
stored-agrees-over (v ∷ run) [] = stored_from-nil 1 run
stored-agrees-over (v ∷ run) (x ∷ l) = stored_from-cons v 0 run l ∙ ap (λ (k : List ℕ). v ∷ k) (stored-agrees-over run l)

pub length-low_bytes : (ws : List ℕ) → length (low_bytes ws) ≡ length ws
unfolding low_bytes
length-low_bytes [] = refl
length-low_bytes (w ∷ ws) = ap suc (length-low_bytes ws)

pub getD-low_bytes : (ws : List ℕ) (i : ℕ) → get_or (low_bytes ws) i 0 ≡ get_or ws i 0 % 256
unfolding low_bytes
getD-low_bytes [] i = refl
getD-low_bytes (w ∷ ws) zero = refl
getD-low_bytes (w ∷ ws) (suc i) = getD-low_bytes ws i

pub length_over : (xs l : List ℕ) → length (over xs l) ≡ length l
unfolding over
length_over xs l = simp (length-append, length-take, length-drop) (omega arith)

-- laid within the buffer
pub over-fits : (xs l : List ℕ) → length xs ≤ length l → over xs l ≡ xs ++ drop (length xs) l
unfolding over
over-fits xs l h = rw (take_all (length l) xs h)

-- past its end nothing is laid
pub over-full : (xs ys l : List ℕ) → length l ≤ length xs → over (xs ++ ys) l ≡ over xs l
unfolding over
over-full xs ys l h =
    rw (
      take-append-le (length l) xs ys h,
      drop_of_length-le l {i = length (xs ++ ys)} (simp length-append (omega arith)),
      drop_of_length-le
          l {i = length xs} h,
    )

over_add : (xs ys l : List ℕ) → length xs ≤ length l → xs ++ over ys (drop (length xs) l) ≡ over (xs ++ ys) l
unfolding over
over_add xs ys l h =
    let e : length l ≡ length xs + length (drop (length xs) l) = simp length-drop (omega arith) in
    rw (e, take-append-add, length-append, drop-drop, append_assoc)

-- xs stand in front of l, which is lent from behind them as `&mut l[a..]`; last is what the callee left there
module _ (xs b l last : List ℕ) (a : ℕ) (is-a : a ≡ length xs) (fits : length xs ≤ length b) where
  pub over-rest : (ys : List ℕ) → l ≡ over xs b → last ≡ over ys (take (length l - a) (drop a l))
      → take a l ++ (last ++ drop (length l - a) (drop a l)) ≡ over (xs ++ ys) b
  over-rest ys is-l is =
      rw (is, rest-none l a, rest_part l a, append-nil, is-l, over-fits xs b fits, is-a, take-append_seam, drop-append_seam)
      (over_add xs ys b fits)

  pub padded-rest : (ys : List ℕ) → l ≡ over (xs ++ ys) b → last ≡ zeros (length (take (length l - a) (drop a l)))
      → take a l ++ (last ++ drop (length l - a) (drop a l)) ≡ padded (length b) xs
  unfolding padded
  padded-rest ys is-l is =
      let n : length l ≡ length b = ap length is-l ∙ length_over (xs ++ ys) b in
      let m : length l - a ≡ length b - length xs = omega arith in
      rw (is, rest-none l a, rest_part l a, append-nil, length-drop, m, is-l, ← (over_add xs ys b fits), is-a, take-append_seam)

  pub over-again : (old ys : List ℕ) → l ≡ over (xs ++ old) b → length old ≤ length ys → length (xs ++ ys) ≤ length b
      → last ≡ over ys (take (length l - a) (drop a l)) → take a l ++ (last ++ drop (length l - a) (drop a l)) ≡ over (xs ++ ys) b
  over-again old ys is-l le h is =
      let rest = drop (length (xs ++ old)) b in
      let old-fits : length (xs ++ old) ≤ length b = simp length-append (omega (arith, length-append xs ys)) in
      let flat : over (xs ++ old) b ≡ xs ++ (old ++ rest) = over-fits (xs ++ old) b old-fits ∙ append_assoc xs old rest in
      let more = length ys - length old in
      let n : length ys ≡ length old + more = omega arith in
      let m : length (xs ++ old) + more ≡ length (xs ++ ys) = simp length-append (omega arith) in
      let behind : drop (length ys) (old ++ rest) ≡ drop (length (xs ++ ys)) b =
      rw (n, drop-append-add old rest more, drop-drop more (length (xs ++ old)) b, m) in
      let fits-old : length ys ≤ length (old ++ rest) = simp (length-append, length-drop) (omega (arith, length-append xs ys)) in
      let front : over ys (old ++ rest) ≡ ys ++ drop (length (xs ++ ys)) b = over-fits ys (old ++ rest) fits-old ∙ rw behind in
      rw (is, rest-none l a, rest_part l a, append-nil, is-l ∙ flat, is-a, take-append_seam, drop-append_seam)
      (ap (λ (k : List ℕ). xs ++ k) front ∙ sym (over-fits (xs ++ ys) b h ∙ append_assoc xs ys (drop (length (xs ++ ys)) b)))

-- bytes are their own low bytes
pub low_bytes-of-bytes : (ws : List ℕ) → ((k : ℕ) → get_or ws k 0 < 256) → low_bytes ws ≡ ws
unfolding low_bytes
low_bytes-of-bytes [] small = refl
low_bytes-of-bytes (w ∷ ws) small =
    let first = small 0 in
    let e : w % 256 ≡ w = omega arith in
    rw (e, low_bytes-of-bytes ws (λ k. small (suc k)))
