-- Laws of the walk's definitions in the code's own terms, one for each way through `finish`, `resolve_entry` and `resolve_stretch`.
-- Assumes nothing.
use mathlib.Core.Path.{◌≡◌, refl, sym, ap, ◌∙◌}
use mathlib.Core.Bool.{true, false}
use mathlib.Core.List.{List, [], ◌∷◌, ◌++◌}
use Prim.Native.Nat.{ℕ, zero, suc, ◌+◌, ◌-◌, ◌≤◌, ◌<◌, max}
use native.Mathlib.Omega.{arith}
use lib.ListN.{length, get_or, set, drop, drop_of_length-le}
use lib.Seq.{drop-cons}
use native.Mathlib.Numerals.{add-one}
use Rattle.std.proofs.Common.{Result, Ok, Err, is_ok}
use borrow.Author.Tests.{lt-ltb, le-ltb}
use Rattle.table.specs.Buffers.{zeros}
use Rattle.table.specs.declared.Rank.{Rank}
use Rattle.ranks.specs.Table.{Table, Verdict, kept, broken}
use Rattle.ranks.specs.Walk as ranks
use Rattle.ranks.specs.Walk.{Out, out, from, on_rank, and_then, by_mark, judged, finish, stretch, entry, unstarted}
use Rattle.rules.specs.Lawful.{max_entries}
use Rattle.walk.specs.declared.Fault.{Fault}
use Rattle.walk.specs.declared.Fault.TheVariants.{OutOfRange}
use Rattle.walk.specs.declared.Stop.{Stop}
use Rattle.walk.specs.declared.Stop.TheVariants.{Ring, Refused}
use Rattle.walk.specs.Answers.{number_in, detail_in, verdict_of}
use Rattle.walk.specs.Marks.{finished, plain, plainly, Path, RingShown, Stopped, Shows, Finished}
use Rattle.walk.proofs.Laws.Marks.{plain-new, plain-begun, plain-ranked, plain-finished, getD-plainly, set-plainly}
use Rattle.walk.proofs.Laws.Marks.{unstarted-begun, from-path}
use Rattle.walk.proofs.Laws.Rings.{ring-met}

-- the own rule
pub verdict_of-ok : (r : Result Unit Fault) → is_ok r ≡ true → verdict_of r ≡ kept
verdict_of-ok (Ok u) h = refl
verdict_of-ok (Err f) h = cc

pub finish-kept : (ms : List ℕ) (e : ℕ) (rank : Rank) (v : Verdict) → v ≡ kept
    → Finished ms (set ms e (rank.0 + finished)) e rank.0 (Ok rank) (judged v e (plainly ms) rank.0)
finish-kept ms e rank v fine = record {
  shows = λ p. rw (fine, set-plainly ms e (rank.0 + finished) (rank.0 + 2) (plain-finished rank.0));
  stored = λ r same. let s : rank ≡ r = cc in (ap (λ (x : Rank). x.0) (sym s), refl);
}

-- Named in docs/TRACE.md.
pub finish-broken : (ms : List ℕ) (e : ℕ) (rank : Rank) (v : Verdict) (j : Result Unit Fault) → verdict_of j ≡ v → (f : Fault) → j ≡ Err f
    → Finished ms ms e rank.0 (Err (Refused e f)) (judged v e (plainly ms) rank.0)
finish-broken ms e rank v j says f q =
    let bad : v ≡ broken (number_in f) (detail_in f) = sym says ∙ ap verdict_of q in
    record { shows = λ p. rw bad; stored = λ r same. absurd cc }

-- an answer that is no rank stops a walk
and_then-ring : (o : Out) (next : List ℕ → ℕ → Out) (ring : List ℕ) → o.answer ≡ ranks.Ring ring → (and_then o next).answer ≡ ranks.Ring ring
and_then-ring o next ring q = go o.marks o.answer q
  where
    go : (l : List ℕ) (a : ranks.Answer) → a ≡ ranks.Ring ring → (on_rank a (out l a) (next l)).answer ≡ ranks.Ring ring
    go l a q = rw q

and_then-bad : (o : Out) (next : List ℕ → ℕ → Out) (n e r : ℕ) → o.answer ≡ ranks.Bad n e r → (and_then o next).answer ≡ ranks.Bad n e r
and_then-bad o next n e r q = go o.marks o.answer q
  where
    go : (l : List ℕ) (a : ranks.Answer) → a ≡ ranks.Bad n e r → (on_rank a (out l a) (next l)).answer ≡ ranks.Bad n e r
    go l a q = rw q

ring-onward : (p l : List ℕ) (k from n : ℕ) (o : Out) (next : List ℕ → ℕ → Out) → RingShown p l k from n o.answer
    → RingShown p l k from n (and_then o next).answer
ring-onward p l k from n o next h = record {
  more = h.more;
  is = and_then-ring o next (drop from p ++ h.more) h.is;
  first = h.first;
  long = h.long;
  content = h.content;
}

pub stop-onward : (p l : List ℕ) (stop : Stop) (o : Out) (next : List ℕ → ℕ → Out) → Stopped p l stop o.answer
    → Stopped p l stop (and_then o next).answer
stop-onward p l (Ring k from n) o next h = ring-onward p l k from n o next h
stop-onward p l (Refused e f) o next h = and_then-bad o next (number_in f) e (detail_in f) h

by_ranked : (m : ℕ) (a b : Out) (done : ℕ → Out) → max_entries < m → by_mark (plain m) a b done ≡ done (m - finished)
by_ranked m a b done h = let s : plain m ≡ suc (suc (m - finished)) = omega (arith, plain-ranked m h) in rw s

by-begun : (m : ℕ) (a b : Out) (done : ℕ → Out) → (m ≡ 0 → ⊥) → m ≤ max_entries → by_mark (plain m) a b done ≡ b
by-begun m a b done n h = rw (plain-begun m n h)

module _ (t : Table) (p ms : List ℕ) (e : ℕ) where
  -- an entry that is finished
  pub entry-ranked : (r : Rank) → r.0 ≡ get_or ms e 0 - finished → max_entries < get_or ms e 0 → (f : ℕ)
      → Shows p ms (Ok r) (entry f t p (plainly ms) e)
  unfolding entry
  entry-ranked r q big zero = rw (getD-plainly ms e, q) (by_ranked (get_or ms e 0) _ _ (λ k. out (plainly ms) (ranks.Rank k)) big)
  entry-ranked r q big (suc f) = rw (getD-plainly ms e, q) (by_ranked (get_or ms e 0) _ _ (λ k. out (plainly ms) (ranks.Rank k)) big)

  -- an entry that is on the path
  pub entry-begun : (get_or ms e 0 ≡ 0 → ⊥) → get_or ms e 0 ≤ max_entries → (f : ℕ) → entry f t p (plainly ms) e ≡ out (plainly ms)
      (ranks.Ring (from e p))
  unfolding entry
  entry-begun n few zero = rw (getD-plainly ms e) (by-begun (get_or ms e 0) _ _ _ n few)
  entry-begun n few (suc f) = rw (getD-plainly ms e) (by-begun (get_or ms e 0) _ _ _ n few)

  pub entry-again : (d : ℕ) (l : List ℕ) (len : ℕ) → (get_or ms e 0 ≡ 0 → ⊥) → get_or ms e 0 ≤ max_entries → length p ≡ d → d ≤ length ms
      → Path p ms
      → l ≡ zeros (length ms) → len ≡ d - (get_or ms e 0 - 1) → (f : ℕ) → Shows p l (Err (Ring e (get_or ms e 0 - 1) len))
      (entry f t p (plainly ms) e)
  entry-again d l len n few size le path cleared long f =
      let some : 0 < get_or ms e 0 = positive (get_or ms e 0) n in
      let w = path.placed e some few in
      let met = ring-met p l e (get_or ms e 0 - 1) (length ms) d size (omega (arith, w.0)) le w.1 cleared in
      rw (entry-begun n few f, from-path p ms path e some few, long) met
    where
      positive : (m : ℕ) → (m ≡ 0 → ⊥) → 0 < m
      positive m n = omega arith

  -- an entry that is begun now
  pub entry-starts : (d : ℕ) → get_or ms e 0 ≡ 0 → e < length ms → d + 1 ≤ max_entries → (f : ℕ) → unstarted ms ≤ f
      → (g : ℕ) × (unstarted (set ms e (d + 1)) ≤ g)
      × (entry f t p (plainly ms) e ≡ and_then (stretch t (entry g t (p ++ e ∷ [])) e (plainly (set ms e (d + 1))) 0 (t.refs e))
      (finish t e))
  unfolding entry
  entry-starts d new lt few zero le = let b = unstarted-begun ms e d lt new in absurd (omega arith)
  entry-starts d new lt few (suc f) le =
      let b = unstarted-begun ms e d lt new in
      let at : get_or (plainly ms) e 0 ≡ 0 = getD-plainly ms e ∙ (ap plain new ∙ plain-new) in
      let put = set-plainly ms e (d + 1) 1 (plain-begun (d + 1) (λ z. omega arith) few) in
      (f, omega arith, rw (at, put))

module _ (t : Table) (g : List ℕ → ℕ → Out) (p ms : List ℕ) (e best : ℕ) (rs : List ℕ) (i : ℕ) where
  pub stretch-none : (r : Rank) → r.0 ≡ best → length rs ≤ i → Shows p ms (Ok r) (stretch t g e (plainly ms) best (drop i rs))
  unfolding stretch
  stretch-none r q h = rw (drop_of_length-le rs {i = i} h, q)

  module _ (lt : i < length rs) where
    cons : drop i rs ≡ get_or rs i 0 ∷ drop (i + 1) rs
    cons = rw add-one (drop-cons rs i 0 lt)

    pub stretch-range : t.count ≤ get_or rs i 0 → Shows p ms (Err (Refused e (OutOfRange (get_or rs i 0))))
        (stretch t g e (plainly ms) best (drop i rs))
    unfolding stretch
    stretch-range past = rw (cons, le-ltb _ _ past)

    module _ (inside : get_or rs i 0 < t.count) where
      pub stretch-past : t.counts e (get_or rs i 0) ≡ false
          → stretch t g e (plainly ms) best (drop i rs) ≡ stretch t g e (plainly ms) best (drop (i + 1) rs)
      unfolding stretch
      stretch-past c = rw (cons, lt-ltb _ _ inside, c)

      module _ (counted : t.counts e (get_or rs i 0) ≡ true) where
        more : List ℕ → ℕ → Out
        more l k = stretch t g e l (max best (k + 1)) (drop (i + 1) rs)

        first : stretch t g e (plainly ms) best (drop i rs) ≡ and_then (g (plainly ms) (get_or rs i 0)) more
        unfolding stretch more
        first = rw (cons, lt-ltb _ _ inside, counted)

        pub stretch-stops : (l : List ℕ) (stop : Stop) → Shows p l (Err stop) (g (plainly ms) (get_or rs i 0))
            → Shows p l (Err stop) (stretch t g e (plainly ms) best (drop i rs))
        stretch-stops l stop h = rw first (stop-onward p l stop (g (plainly ms) (get_or rs i 0)) more h)

        pub stretch-goes : (l : List ℕ) (r : Rank) (next : ℕ) → next ≡ max best (r.0 + 1)
            → Shows p l (Ok r) (g (plainly ms) (get_or rs i 0))
            → stretch t g e (plainly ms) best (drop i rs) ≡ stretch t g e (plainly l) next (drop (i + 1) rs)
        unfolding more
        stretch-goes l r next m h = first ∙ rw (h, m)
