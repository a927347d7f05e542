-- The witness at the end (specs/Resolve.antt), by the answer; and behind the entries it is 0.
-- Assumes nothing.
use mathlib.Core.Path.{◌≡◌, refl, sym, ap, ◌∙◌}
use mathlib.Core.Bool.{Bool, true, false}
use mathlib.Core.List.{List, [], ◌∷◌, ◌++◌, map, append-nil, append_assoc}
use Prim.Native.Nat.{ℕ, ◌+◌, ◌-◌, ◌≤◌}
use native.Mathlib.Omega.{arith}
use lib.Dec.{ltb, leb}
use borrow.Author.Tests.{ltb-true, ltb-false, leb-true, leb-false}
use lib.ListN.{length, take, drop, length-map, length-append, replicate-append-replicate}
use Rattle.std.proofs.Common.{Result, Ok, Err}
use Rattle.table.specs.Buffers.{zeros, padded}
use Rattle.table.proofs.Laws.Buffers.{length-zeros, take-zeros, drop-zeros, padded-none}
use Rattle.ranks.specs.Walk.{resolve, ranks_of}
use Rattle.rules.specs.Lawful.{max_entries, table_of}
use Rattle.walk.specs.declared.Fault.{Fault}
use Rattle.walk.specs.declared.Error.{Error}
use Rattle.walk.specs.declared.Error.TheVariants.{Refused, Cycle}
use Rattle.walk.specs.declared.Stop.TheVariants as stop
use Rattle.walk.specs.Resolve.{entries_of, witness_in, Resolves}
use Rattle.walk.specs.Marks.{plain, plainly, ranked, Upward}
use Rattle.walk.proofs.Laws.Marks.{plain-new, plain-begun, plain-ranked}
use Rattle.walk.proofs.Laws.Rings.{ring-whole}

-- a rank reads the same in both kinds of marks
plain-rank : (m : ℕ) → plain m - 2 ≡ ranked m
plain-rank m = go (ltb 0 m) refl (leb m max_entries) refl
  where
    go : (some : Bool) → ltb 0 m ≡ some → (few : Bool) → leb m max_entries ≡ few → plain m - 2 ≡ ranked m
    go false s few f = let z : m ≡ 0 = omega (arith, ltb-false 0 m s) in rw (z, plain-new)
    go true s true f = let p = plain-begun m (λ z. omega (arith, ltb-true 0 m s)) (leb-true m max_entries f) in omega
        (arith, leb-true m max_entries f)
    go true s false f = let p = plain-ranked m (leb-false m max_entries f) in omega arith

pub ranks_of-plainly : (l : List ℕ) → ranks_of (plainly l) ≡ map ranked l
ranks_of-plainly [] = refl
ranks_of-plainly (m ∷ l) = rw (plain-rank m, ranks_of-plainly l)

padded-whole : (xs : List ℕ) (n : ℕ) → length xs ≡ n → padded n xs ≡ xs
unfolding padded
padded-whole xs n h = let z : n - length xs ≡ 0 = omega arith in rw (z, append-nil)

module _ (rows refs : List ℕ) (n : ℕ) (l : List ℕ) (len : length l ≡ n) where
  pub resolves-accepted : Upward l (Ok tt) (resolve (table_of rows refs n)) → (w : List ℕ) → w ≡ map ranked l
      → Resolves rows refs n n (Ok tt) w
  resolves-accepted h w is = record {
    answer = rw h;
    content = is ∙ rw (h, ranks_of-plainly l) (sym (padded-whole (map ranked l) n (length-map l ranked ∙ len)));
  }

  -- Named in docs/TRACE.md.
  pub resolves-cycle : (k from m : ℕ) → Upward l (Err (stop.Ring k from m)) (resolve (table_of rows refs n))
      → Resolves rows refs n n (Err (Cycle k m)) l
  resolves-cycle k from m h =
      let w = ring-whole l k from m (resolve (table_of rows refs n)).answer h in
      record {
        answer = rw (w.1, w.2, w.3);
        content = rw w.1 (rw len at w.4);
      }

  pub resolves-refused : (e : ℕ) (f : Fault) → Upward l (Err (stop.Refused e f)) (resolve (table_of rows refs n))
      → (w : List ℕ) → w ≡ zeros (length l) → Resolves rows refs n n (Err (Refused e f)) w
  resolves-refused e f h w is =
      record { answer = rw h; content = is ∙ rw (h, len) (sym (padded-none n)) }

-- a longer witness
padded-longer : (xs : List ℕ) (n room : ℕ) → length xs ≤ n → n ≤ room → padded n xs ++ zeros (room - n) ≡ padded room xs
unfolding padded
padded-longer xs n room short le =
    let s : n - length xs + (room - n) ≡ room - length xs = omega arith in
    rw (append_assoc xs (zeros (n - length xs)) (zeros (room - n)), replicate-append-replicate {A = ℕ} (n - length xs) (room - n) 0, s)

padded-short : (xs : List ℕ) (n : ℕ) → length (padded n xs) ≡ n → length xs ≤ n
unfolding padded
padded-short xs n h = let w = simp length-append at h in omega arith

pub resolves-longer : (rows refs : List ℕ) (n room : ℕ) (r : Result Unit Error) (last all : List ℕ) → Resolves rows refs n n r last
    → length last ≡ n → n ≤ room
    → all ≡ last ++ zeros (room - n) → Resolves rows refs n room r all
resolves-longer rows refs n room r last all h len le is =
    let xs = witness_in (resolve (table_of rows refs n)) in
    let short = padded-short xs n (sym (ap length h.content) ∙ len) in
    record {
      answer = h.answer;
      content = is ∙ (ap (λ (x : List ℕ). x ++ zeros (room - n)) h.content
          ∙ padded-longer xs n room short le);
    }

-- the part of the cleared witness z that is lent
module _ (count words room n : ℕ) (z : List ℕ) (asked : n ≡ entries_of count words (length z)) (cleared : z ≡ zeros room) where
  is : n ≡ entries_of count words room
  is = let long : length z ≡ room = rw cleared (length-zeros room) in rw long at asked

  part : take n z ≡ zeros n
  part = rw cleared (take-zeros n room (omega (arith, is)))

  pub lent_length : length (take n z) ≡ n
  lent_length = rw part (length-zeros n)

  pub lent-few : length (take n z) ≤ max_entries
  lent-few = omega (arith, lent_length, is)

  pub lent-fresh : take n z ≡ zeros (length (take n z))
  lent-fresh = rw lent_length part

  pub resolves-lent : (rows refs : List ℕ) (r : Result Unit Error) (last : List ℕ) → Resolves rows refs (length (take n z))
      (length (take n z)) r last → length last ≡ length (take n z)
      → Resolves rows refs (entries_of count words room) room r (last ++ drop n z)
  resolves-lent rows refs r last h len =
      let w = rw lent_length at h in
      let behind : last ++ drop n z ≡ last ++ zeros (room - n) = rw cleared (ap (λ (l : List ℕ). last ++ l) (drop-zeros n room)) in
      rw (← is) (resolves-longer rows refs n room r last (last ++ drop n z) w (len ∙ lent_length) (omega (arith, is)) behind)
