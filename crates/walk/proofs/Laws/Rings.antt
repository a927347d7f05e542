-- Laws of a ring that is met and written (specs/Marks.antt: blank, RingShown).
-- Assumes nothing.
use mathlib.Core.Path.{◌≡◌, refl, sym, ap, ◌∙◌}
use mathlib.Core.List.{List, [], ◌∷◌, ◌++◌, append-nil, append_assoc}
use Prim.Native.Nat.{ℕ, zero, suc, ◌+◌, ◌-◌, ◌≤◌, ◌<◌}
use native.Mathlib.Omega.{arith}
use lib.ListN.{length, get_or, set, drop, length-append, length-drop, length-set, length-replicate, drop_of_length-le}
use lib.ListN.{replicate-append-replicate}
use lib.Seq.{drop-append-le, drop_at, get_or_at, get_or-drop}
use Rattle.table.specs.Buffers.{zeros, padded}
use Rattle.ranks.specs.Walk as ranks
use Rattle.walk.specs.Marks.{blank, RingShown}

blank-less : (l : List ℕ) (m : ℕ) → m < length l → set (blank (suc m) l) m (get_or l m 0) ≡ blank m l
blank-less [] m h = absurd (omega arith)
blank-less (x ∷ l) zero h = refl
blank-less (x ∷ l) (suc m) h = ap (λ (t : List ℕ). 0 ∷ t) (blank-less l m (omega arith))

-- a ring's own words are blank before its first entry writes itself
blank-ring : (n : ℕ) (ring : List ℕ) → length ring ≤ n → blank (length ring) (padded n ring) ≡ zeros n
unfolding padded
blank-ring n ring le =
    let s : length ring + (n - length ring) ≡ n = omega arith in
    rw (drop_at ring (zeros (n - length ring)) (length ring) refl, replicate-append-replicate {A = ℕ} (length ring) (n - length ring) 0, s)

-- an entry is met that was begun at that depth of the path
pub ring-met : (p l : List ℕ) (e from n d : ℕ) → length p ≡ d → from < d → d ≤ n → get_or p from 0 ≡ e → l ≡ zeros n
    → RingShown p l e from (d - from) (ranks.Ring (drop from p))
ring-met p l e from n d size lt le at is = record {
  more = [];
  is = rw append-nil;
  first = rw (append-nil, get_or-drop from p 0 0, sum) at;
  long = rw append-nil tall;
  content = rw (append-nil, size, is, length-replicate {A = ℕ} n 0, ← tall) (sym (blank-ring n (drop from p) (omega (arith, tall))));
}
  where
    sum : from + 0 ≡ from
    sum = omega arith

    tall : length (drop from p) ≡ d - from
    tall = simp length-drop (omega arith)

module _ (p l : List ℕ) (e k from n d : ℕ) (a : ranks.Answer) (size : length p ≡ d) (h : RingShown (p ++ e ∷ []) l k from n a) where
  longer : length (p ++ e ∷ []) ≡ d + 1
  longer = simp length-append (omega arith)

  -- an entry before the ring leaves the witness as it is
  pub ring-past : d < from → RingShown p l k from n a
  ring-past lt =
      let none : drop from (p ++ e ∷ []) ≡ [] = drop_of_length-le (p ++ e ∷ []) {i = from} (omega (arith, longer)) in
      let nil : drop from p ≡ [] = drop_of_length-le p {i = from} (omega arith) in
      let same : drop from (p ++ e ∷ []) ≡ drop from p = none ∙ sym nil in
      let zero-first : length (p ++ e ∷ []) - from ≡ length p - from = omega (arith, longer) in
      record {
        more = h.more;
        is = rw same at h.is;
        first = rw same at h.first;
        long = rw same at h.long;
        content = rw (same, zero-first) at h.content;
      }

  -- an entry of the ring writes itself
  module _ (le : from ≤ d) where
    rest : List ℕ
    rest = e ∷ h.more

    parts : drop from (p ++ e ∷ []) ++ h.more ≡ drop from p ++ rest
    unfolding rest
    parts = rw (drop-append-le from p (e ∷ []) (omega arith)) (append_assoc (drop from p) (e ∷ []) h.more)

    tall : length (drop from p) ≡ d - from
    tall = simp length-drop (omega arith)

    all : List ℕ
    all = padded (length l) (drop from p ++ rest)

    all-parts : all ≡ drop from p ++ (e ∷ (h.more ++ zeros (length l - length (drop from p ++ rest))))
    unfolding all padded rest
    all-parts = append_assoc (drop from p) (e ∷ h.more) _

    e-at : get_or all (d - from) 0 ≡ e
    e-at = rw all-parts (get_or_at (drop from p) e _ 0 (d - from) tall)

    e-in : d - from < length all
    e-in = rw all-parts (simp length-append (omega (arith, tall)))

    blanked : l ≡ blank (suc (d - from)) all
    unfolding all
    blanked =
        let m : length (p ++ e ∷ []) - from ≡ suc (d - from) = omega (arith, longer) in
        rw (parts, m) at h.content

    pub ring_in : RingShown p (set l (d - from) e) k from n a
    unfolding all rest
    ring_in =
        let put : set l (d - from) e ≡ blank (d - from) all =
        ap (λ (t : List ℕ). set t (d - from) e) blanked ∙ rw e-at at (blank-less all (d - from) e-in) in
        record {
          more = rest;
          is = rw parts at h.is;
          first = rw parts at h.first;
          long = rw parts at h.long;
          content = rw (length-set, size) put;
        }

-- at the top nothing is blank
pub ring-whole : (l : List ℕ) (k from n : ℕ) (a : ranks.Answer) → RingShown [] l k from n a
    → (ring : List ℕ) × (a ≡ ranks.Ring ring) × (get_or ring 0 0 ≡ k) × (length ring ≡ n) × (l ≡ padded (length l) ring)
ring-whole l k from n a h =
    let nil : drop from [] ≡ [] = drop_of_length-le {A = ℕ} [] {i = from} (omega arith) in
    let z : length {A = ℕ} [] - from ≡ 0 = omega arith in
    (h.more, rw nil at h.is, rw nil at h.first, rw nil at h.long, rw (nil, z) at h.content)
