-- Laws of `Shifts` and `Replaces` of specs/Moves.antt: the end of words behind which all is 0 starts elsewhere.
--     Shifts-none, Shifts-up, Shifts-down     one for each way through `shift`
--     Replaces-done                           words laid before that end
-- Assumes nothing.
use mathlib.Core.Path.{◌≡◌, sym, ap, ◌∙◌}
use mathlib.Core.List.{List, ◌++◌, append-nil, append_assoc}
use Prim.Native.Nat.{ℕ, ◌+◌, ◌-◌, ◌≤◌}
use native.Mathlib.Omega.{arith}
use lib.ListN.{length, take, drop, length-append, length-drop, replicate-append-replicate}
use lib.Seq.{length-take-le, drop-append_seam, drop-append-add, drop-drop, drop_at, take-append_seam, take-append-le, take_at, take-take}
use Rattle.std.specs.List.{copy_within}
use Rattle.laws.proofs.Rests.{rest_part, rest-none}
use Rattle.table.specs.Buffers.{over, zeros, padded}
use Rattle.table.proofs.Laws.Buffers.{drop-zeros, over-fits}
use Rattle.flat.specs.Moves.{Shifts, Replaces}

-- a, then c, then zeros; c is to start at `to`
module _ (from end to : ℕ) (l a c : List ℕ) (is : l ≡ padded (length l) (a ++ c)) (is-from : from ≡ length a)
    (is-end : end ≡ length (a ++ c)) (fits : end ≤ length l) (room : to + (end - from) ≤ length l) where
  pad : List ℕ
  pad = zeros (length l - end)

  parts : l ≡ a ++ (c ++ pad)
  unfolding padded pad
  parts = is ∙ rw (← is-end) (append_assoc a c (zeros (length l - end)))

  ends : end ≡ from + length c
  ends = is-end ∙ rw (is-from) (length-append a c)

  -- zeros stand from `end` on
  behind : (k : ℕ) → drop (end + k) l ≡ zeros (length l - (end + k))
  unfolding padded
  behind k =
      let n : length l - length (a ++ c) - k ≡ length l - (length (a ++ c) + k) = omega arith in
      ap (λ (m : List ℕ). drop (end + k) m) is
      ∙ rw (is-end, drop-append-add (a ++ c) (zeros (length l - length (a ++ c))) k, drop-zeros, n)

  carried : copy_within l from end to ≡ take to l ++ (c ++ drop (to + length c) l)
  carried =
      let n : end - from ≡ length c = omega (arith, ends) in
      let e : take (length c) (drop from l) ≡ c =
      rw (is-from) (ap (λ (m : List ℕ). take (length c) (drop (length a) m)) parts ∙ rw (drop-append_seam, take-append_seam)) in
      rw (n, e) (append_assoc (take to l) c (drop (to + length c) l))

  long-front : length (take to l ++ c) ≡ to + length c
  long-front = length-append (take to l) c ∙ rw (length-take-le to l (omega arith))

  padding : (m : List ℕ) → m ≡ (take to l ++ c) ++ zeros (length l - (to + length c)) → m ≡ padded (length l) (take to l ++ c)
  unfolding padded
  padding m h = h ∙ rw long-front

  pub Shifts-none : from ≡ to → l ≡ padded (length l) (take to l ++ c)
  Shifts-none e =
      let front : take to l ≡ a = rw (← e, is-from) (ap (λ (m : List ℕ). take (length a) m) parts ∙ take-append_seam a (c ++ pad)) in
      rw front is

  -- up, or not at all
  pub Shifts-up : (m : List ℕ) → from ≤ to → m ≡ copy_within l from end to → m ≡ padded (length l) (take to l ++ c)
  Shifts-up m le h =
      let e : end + (to - from) ≡ to + length c = omega (arith, ends) in
      let zero-words = rw e at (behind (to - from)) in
      padding m (h ∙ carried ∙ rw (zero-words) (sym (append_assoc (take to l) c (zeros (length l - (to + length c))))))

  -- down, where the words from `freed` on are cleared
  pub Shifts-down : (m last : List ℕ) (freed : ℕ) → to ≤ from → freed ≡ to + (end - from) → m ≡ copy_within l from end to
      → last ≡ zeros (length (take (end - freed) (drop freed m)))
      → take freed m ++ (last ++ drop (end - freed) (drop freed m)) ≡ padded (length l) (take to l ++ c)
  Shifts-down m last freed le is-freed h is_last =
      let n : to + length c ≡ freed = omega (arith, ends) in
      let two : m ≡ (take to l ++ c) ++ drop freed l =
      h ∙ carried ∙ rw n (sym (append_assoc (take to l) c (drop freed l))) in
      let long : length (take to l ++ c) ≡ freed = long-front ∙ n in
      let gone : length (take (end - freed) (drop freed l)) ≡ end - freed =
      length-take-le (end - freed) (drop freed l) (simp length-drop (omega arith)) in
      let e : freed + (end - freed) ≡ end + 0 = omega (arith, ends) in
      let rest : drop (end - freed) (drop freed l) ≡ zeros (length l - (end + 0)) =
      rw (drop-drop (end - freed) freed l, e) (behind 0) in
      let all : end - freed + (length l - (end + 0)) ≡ length l - (to + length c) = omega arith in
      padding _
      (rw (
        is_last,
        two,
        take_at (take to l ++ c) (drop freed l) freed long,
        drop_at (take to l ++ c) (drop freed l) freed long,
        gone,
        rest,
        replicate-append-replicate,
        all,
      ))

-- src laid over what stands from `at` on, behind which c starts
pub Replaces-done : (at behind end : ℕ) (src l m last : List ℕ) → at + length src + (end - behind) ≤ length l
    → Shifts behind end (at + length src) l m → last ≡ over src (take (length m - at) (drop at m))
    → Replaces src at behind end l (take at m ++ (last ++ drop (length m - at) (drop at m)))
unfolding padded
Replaces-done at behind end src l m last room shifts is_last a b c is is_at is-behind is-end =
    let to = at + length src in
    let front = take to l in
    let n = length l - length (front ++ c) in
    let rest = c ++ zeros n in
    let regroup = append_assoc a b c in
    let two : m ≡ front ++ rest = shifts (a ++ b) c (rw regroup is) is-behind (rw regroup is-end) ∙ append_assoc front c (zeros n) in
    let long : length front ≡ to = length-take-le to l (omega arith) in
    let long-m : length m ≡ to + length rest = ap length two ∙ rw (length-append front rest, long) in
    let before : take at m ≡ a =
    ap (λ (k : List ℕ). take at k) two
    ∙ rw (take-append-le at front rest (omega arith), take-take at to l (omega arith), is_at)
    (ap (λ (k : List ℕ). take (length a) k) is ∙ rw (append_assoc a (b ++ c), take-append_seam)) in
    let behind-src : drop to m ≡ rest = ap (λ (k : List ℕ). drop to k) two ∙ drop_at front rest to long in
    let laid : over src (drop at m) ≡ src ++ rest =
    over-fits src (drop at m) (simp length-drop (omega arith)) ∙ rw (drop-drop (length src) at m, behind-src) in
    let count : n ≡ length l - length (a ++ (src ++ c)) =
    rw (length-append front c, long, length-append a (src ++ c), length-append src c, is_at) (omega arith) in
    rw (is_last, rest-none m at, rest_part m at, append-nil, before, laid, ← count, append_assoc a (src ++ c), append_assoc src c)
