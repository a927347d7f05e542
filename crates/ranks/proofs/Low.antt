-- What bounds the ranks: of n entries d are on the path, so no rank reaches the count of those finished. Each step keeps it
-- with no other fact about marks.
-- Assumes nothing.
use mathlib.Core.Path.{◌≡◌}
use mathlib.Core.Bool.{true, false}
use mathlib.Core.List.{List, [], ◌∷◌, ◌++◌}
use Prim.Native.Nat.{ℕ, suc, ◌+◌, ◌≤◌, ◌<◌, max}
use native.Mathlib.Omega.{arith}
use lib.ListN.{length, get_or, set, replicate, length-set, length-append, length-replicate}
use Rattle.ranks.specs.Table.{Table, kept, broken, out_of_range}
use Rattle.ranks.specs.Walk.{Answer, Ring, Bad, from, resolve, unstarted}
use Rattle.ranks.proofs.Marks.{Stored, here, away, stored, unstarted-begin, unstarted-finish, unstarted-le-length, getD-zeros}
use Rattle.ranks.proofs.Steps.{Answered, Method, resolve-holds}

pub record Low (n d : ℕ) (ms : List ℕ) : Type 0 where
  pub room : d + unstarted ms ≤ n
  pub roof : (x : ℕ) → 2 ≤ get_or ms x 0 → get_or ms x 0 + (d + unstarted ms) ≤ n + 1

pub Low-begin : {n d : ℕ} {ms : List ℕ} {e : ℕ} → Low n d ms → e < length ms → get_or ms e 0 ≡ 0 → Low n (d + 1) (set ms e 1)
Low-begin {n} {d} {ms} {e} h lt new =
    let u = unstarted-begin ms e lt new in
    record { room = omega (arith, h.room); roof = λ x. go x (stored ms e 1 x lt) }
  where
    go : (x : ℕ) → Stored ms e 1 x → 2 ≤ get_or (set ms e 1) x 0 → get_or (set ms e 1) x 0 + (d + 1 + unstarted (set ms e 1)) ≤ n + 1
    go x (here q v) two = absurd (omega arith)
    go x (away m v) two = let w = h.roof x (omega arith) in omega (arith, unstarted-begin ms e lt new)

pub Low-finish : {n d : ℕ} {l : List ℕ} {e : ℕ} (k : ℕ) → Low n (d + 1) l → e < length l → k + (d + 1 + unstarted l) ≤ n
    → Low n d (set l e (k + 2))
Low-finish {n} {d} {l} {e} k h lt low =
    let u = unstarted-finish l e k lt in
    record { room = omega arith; roof = λ x. go x (stored l e (k + 2) x lt) }
  where
    go : (x : ℕ) → Stored l e (k + 2) x → 2 ≤ get_or (set l e (k + 2)) x 0 → get_or (set l e (k + 2)) x 0 +
        (d + unstarted (set l e (k + 2))) ≤ n + 1
    go x (here q v) two = omega (arith, unstarted-finish l e k lt)
    go x (away m v) two = let w = h.roof x (omega arith) in omega (arith, unstarted-finish l e k lt)

abbrev pub Any : Answer → Type 0
Any a = Unit {0}

module _ (t : Table) where
  pub record LowAt (p ms : List ℕ) (e : ℕ) : Type 0 where
    pub sized : length ms ≡ t.count
    pub inside : e < t.count
    pub low : Low t.count (length p) ms

  pub record LowAfter (p ms : List ℕ) (e : ℕ) (l : List ℕ) (k : ℕ) : Type 0 where
    pub sized : length l ≡ t.count
    pub fewer : unstarted l ≤ unstarted ms
    pub low : Low t.count (length p) l
    pub rank : k + 1 + (length p + unstarted l) ≤ t.count

  pub record LowAmid (p ms : List ℕ) (e : ℕ) (rs l : List ℕ) (best : ℕ) : Type 0 where
    pub start : LowAt p ms e
    pub new : get_or ms e 0 ≡ 0
    pub sized : length l ≡ t.count
    pub fewer : unstarted l ≤ unstarted (set ms e 1)
    pub low : Low t.count (length p + 1) l
    pub rank : best + (length p + 1 + unstarted l) ≤ t.count

  fits : {p ms : List ℕ} {e : ℕ} → LowAt p ms e → e < length ms
  fits h = omega (arith, h.sized, h.inside)

  done : {p ms : List ℕ} {e k : ℕ} → LowAt p ms e → get_or ms e 0 ≡ k + 2 → LowAfter p ms e ms k
  done {e} h q = record { sized = h.sized; fewer = omega arith; low = h.low; rank = omega (arith, h.low.roof e (omega arith)) }

  ring : {p ms : List ℕ} {e : ℕ} → LowAt p ms e → get_or ms e 0 ≡ 1 → Any (Ring (from e p))
  ring h q = tt

  begin : {p ms : List ℕ} {e : ℕ} → LowAt p ms e → get_or ms e 0 ≡ 0 → LowAmid p ms e (t.refs e) (set ms e 1) 0
  begin {p} {ms} {e} h q =
      let low = Low-begin h.low (fits h) q in
      record { start = h; new = q; sized = simp length-set h.sized; fewer = omega arith; low = low; rank = omega (arith, low.room) }

  fewer : {p ms : List ℕ} {e : ℕ} {rs l : List ℕ} {best : ℕ} → LowAmid p ms e rs l best → unstarted l ≤ unstarted (set ms e 1)
  fewer h = h.fewer

  range : {p ms : List ℕ} {e r : ℕ} {rs l : List ℕ} {best : ℕ} → LowAmid p ms e (r ∷ rs) l best → t.count ≤ r → Any (Bad out_of_range e r)
  range h q = tt

  past : {p ms : List ℕ} {e r : ℕ} {rs l : List ℕ} {best : ℕ} → LowAmid p ms e (r ∷ rs) l best → r < t.count → t.counts e r ≡ false
      → LowAmid p ms e rs l best
  past h lt c = record { start = h.start; new = h.new; sized = h.sized; fewer = h.fewer; low = h.low; rank = h.rank }

  down : {p ms : List ℕ} {e r : ℕ} {rs l : List ℕ} {best : ℕ} → LowAmid p ms e (r ∷ rs) l best → r < t.count → t.counts e r ≡ true
      → LowAt (p ++ e ∷ []) l r
  down {p} {e} h lt c = record { sized = h.sized; inside = lt; low = rw (length-append p (e ∷ [])) h.low }

  up : {p ms : List ℕ} {e r : ℕ} {rs l : List ℕ} {best : ℕ} {l' : List ℕ} {k : ℕ} → LowAmid p ms e (r ∷ rs) l best → r < t.count
      → t.counts e r ≡ true
      → LowAfter (p ++ e ∷ []) l r l' k → LowAmid p ms e rs l' (max best (k + 1))
  up {p} {e} h lt c a =
      let len = length-append p (e ∷ []) in
      record {
        start = h.start;
        new = h.new;
        sized = a.sized;
        fewer = omega (arith, a.fewer, h.fewer);
        low = rw len at a.low;
        rank = omega (arith, a.rank, a.fewer, h.rank);
      }

  finishes : {p ms : List ℕ} {e : ℕ} {l : List ℕ} {k : ℕ} → LowAmid p ms e [] l k → t.rule e ≡ kept → LowAfter p ms e (set l e (k + 2)) k
  finishes {ms} {e} {l} {k} h q =
      let lt : e < length l = omega (arith, h.sized, h.start.inside) in
      let u = unstarted-finish l e k lt in
      let begun = unstarted-begin ms e (fits h.start) h.new in
      record {
        sized = simp length-set h.sized;
        fewer = omega (arith, h.fewer);
        low = Low-finish k h.low lt h.rank;
        rank = omega
            (arith, h.rank);
      }

  breaks : {p ms : List ℕ} {e : ℕ} {l : List ℕ} {k n r : ℕ} → LowAmid p ms e [] l k → t.rule e ≡ broken n r → Any (Bad n e r)
  breaks h q = tt

  method : Method t Any LowAt LowAmid LowAfter
  method = record {
    fits = fits;
    done = done;
    ring = ring;
    begin = begin;
    fewer = fewer;
    range = range;
    past = past;
    down = down;
    up = up;
    finishes = finishes;
    breaks = breaks;
  }

  pub record LowPass (i : ℕ) (ms : List ℕ) : Type 0 where
    pub sized : length ms ≡ t.count
    pub low : Low t.count 0 ms

  first : LowPass 0 (replicate t.count 0)
  first =
      let size : length {A = ℕ} (replicate t.count 0) ≡ t.count = length-replicate t.count 0 in
      record {
        sized = size;
        low = record { room = omega (arith, unstarted-le-length (replicate t.count 0)); roof = λ x two. absurd (none x two) };
      }
    where
      none : (x : ℕ) → 2 ≤ get_or (replicate t.count 0) x 0 → ⊥
      none x two = omega (arith, getD-zeros t.count x)

  sized : {i : ℕ} {ms : List ℕ} → LowPass i ms → length ms ≡ t.count
  sized h = h.sized

  next : {i : ℕ} {ms : List ℕ} → LowPass i ms → i < t.count → LowAt [] ms i
  next h lt = record { sized = h.sized; inside = lt; low = h.low }

  onward : {i : ℕ} {ms l : List ℕ} {k : ℕ} → LowPass i ms → LowAfter [] ms i l k → LowPass (suc i) l
  onward h a = record { sized = a.sized; low = a.low }

  pub resolve-low : Answered Any (λ l k. LowPass t.count l) (resolve t)
  resolve-low = resolve-holds t Any LowAt LowAmid LowAfter method LowPass
      (record { first = first; sized = sized; next = next; onward = onward })
