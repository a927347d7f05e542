-- What `resolve_entry` leaves and answers, one law for each way through it, in the terms in which its calls give it.
-- Assumes nothing.
use mathlib.Core.Path.{◌≡◌, refl}
use mathlib.Core.Bool.{Bool, true, false, cond}
use mathlib.Core.List.{List, [], ◌∷◌, ◌++◌}
use Prim.Native.Nat.{ℕ, ◌+◌, ◌-◌, ◌≤◌, ◌<◌}
use native.Mathlib.Omega.{arith}
use lib.Dec.{leb}
use lib.ListN.{length, get_or, set, take, drop, length-append, length-set}
use borrow.Author.Tests.{leb-true, leb-false}
use Rattle.std.proofs.Common.{Result, Ok, Err}
use Rattle.table.specs.declared.Rank.{Rank}
use Rattle.table.specs.declared.row.Row.{Row}
use Rattle.table.specs.Rows.{row_at}
use Rattle.table.specs.Buffers.{zeros}
use Rattle.ranks.specs.Walk.{Out, and_then, judged, finish, stretch, entry, unstarted}
use Rattle.rules.specs.Lawful.{max_entries, refs_at, rule_at, table_of}
use Rattle.walk.specs.declared.Stop.{Stop}
use Rattle.walk.specs.declared.Stop.TheVariants.{Ring, Refused}
use Rattle.walk.specs.declared.Fault.{Fault}
use Rattle.walk.specs.Marks.{finished, plainly, Path, Ready, RingShown, Stopped, Shows, Finished}
use Rattle.walk.specs.Marks.{EntryWalked, StretchWalked}
use Rattle.walk.proofs.Laws.Judge.{refs_at-row}
use Rattle.walk.proofs.Laws.Marks.{Path-begun}
use Rattle.walk.proofs.Laws.Ready.{Fresh, depth-few, kept-ranked, kept-finished, kept-stored}
use Rattle.walk.proofs.Laws.Rings.{ring-past, ring_in}
use Rattle.walk.proofs.Laws.Walk.{stop-onward, entry-ranked, entry-again, entry-starts}

-- entry e is finished: its mark tells its rank, and nothing is walked
pub entry_known : {rows refs ms : List ℕ} {d e : ℕ} → Ready ms d d → max_entries < get_or ms e 0
    → EntryWalked rows refs ms d e ms (Ok (record { 0 = get_or ms e 0 - finished }))
entry_known {rows = rows} {refs = refs} {ms = ms} {d = d} {e = e} ready big = record {
  kept = kept-ranked ms e d ready big;
  shows = λ f p le size path.
      entry-ranked (table_of rows refs (length ms)) p ms e (record { 0 = get_or ms e 0 - finished }) refl big f;
}

-- entry e is on the path: the marks are cleared, and it is met again
pub entry-met : {rows refs ms : List ℕ} {d e : ℕ} → Ready ms d d → get_or ms e 0 < finished → (get_or ms e 0 ≡ 0 → ⊥) → {l : List ℕ} {n : ℕ}
    → l ≡ zeros (length ms) → n ≡ d - (get_or ms e 0 - 1) → EntryWalked rows refs ms d e l (Err (Ring e (get_or ms e 0 - 1) n))
entry-met {rows = rows} {refs = refs} {ms = ms} {d = d} {e = e} ready low begun {l = l} {n = n} cleared long = record {
  kept = tt;
  shows = λ f p le size path.
      entry-again (table_of rows refs (length ms)) p ms e d l n begun (omega arith) size (omega (arith, ready.room)) path cleared long f;
}

-- entry e is begun, and the call of its references has left l and answered a
pub record EntryCalled (rows refs ms : List ℕ) (d e : ℕ) (l : List ℕ) (a : Result Rank Stop) : Type 0 where
  pub fresh : Fresh ms d e
  pub len : length l ≡ length (set ms e (d + 1))
  pub walked : StretchWalked rows refs (set ms e (d + 1)) (d + 1) e (refs_at rows refs e) l a

pub called : {rows refs ms : List ℕ} {d e : ℕ} {l rs : List ℕ} {a : Result Rank Stop} {row : Row}
    → Fresh ms d e
    → row ≡ row_at rows e → rs ≡ take row.count (drop row.first refs) → length l ≡ length (set ms e (d + 1))
    → StretchWalked rows refs (set ms e (d + 1)) (d + 1) e rs l a
    → EntryCalled rows refs ms d e l a
called {rows = rows} {refs = refs} {e = e} fresh is cut len w = record {
  fresh = fresh;
  len = len;
  walked = rw (refs_at-row rows refs e is cut) at w;
}

module _ {rows refs ms : List ℕ} {d e : ℕ} {l : List ℕ} {a : Result Rank Stop} (h : EntryCalled rows refs ms d e l a) where
  pub same_length : length l ≡ length ms
  same_length = simp length-set at h.len

  below : (f : ℕ) (p : List ℕ) → unstarted ms ≤ f → length p ≡ d → Path p ms
      → (o : Out) × (Shows (p ++ e ∷ []) l a o) × (entry f (table_of rows refs (length ms)) p (plainly ms) e ≡ and_then o
      (finish (table_of rows refs (length ms)) e))
  below f p le size path =
      let s = entry-starts (table_of rows refs (length ms)) p ms e d h.fresh.new h.fresh.lt (depth-few h.fresh) f le in
      let w = h.walked.shows s.0 (p ++ e ∷ []) s.1 (simp length-append (omega arith))
      (Path-begun p ms e path h.fresh.lt h.fresh.new d size) in (
        stretch (table_of rows refs (length ms)) (entry s.0 (table_of rows refs (length ms)) (p ++ e ∷ [])) e
            (plainly (set ms e (d + 1))) 0 (refs_at rows refs e),
        rw length-set at w,
        s.2,
      )

-- they have a rank, and the own rule is judged
module _ {rows refs ms : List ℕ} {d e : ℕ} {l : List ℕ} {rank : Rank} (h : EntryCalled rows refs ms d e l (Ok rank)) where
  pub entry-finished : {l2 : List ℕ} {a2 : Result Rank Stop}
      → Finished l l2 e rank.0 a2 (judged (rule_at rows refs e) e (plainly l) rank.0) → EntryWalked rows refs ms d e l2 a2
  entry-finished {l2 = l2} {a2 = a2} done = record {
    kept = kept-stored a2 ms l l2 e d rank.0 (kept-finished h.fresh rank.0 (same_length h) h.walked.kept) done.stored;
    shows = λ f p le size path.
        let b = below h f p le size path in
        rw (b.2, b.1) (done.shows p);
  }

-- they meet a ring
module _ {rows refs ms : List ℕ} {d e : ℕ} {l : List ℕ} {k from n : ℕ} (h : EntryCalled rows refs ms d e l (Err (Ring k from n))) where
  pub entry-ring : {l2 : List ℕ} → l2 ≡ cond (leb from d) (set l (d - from) e) l → EntryWalked rows refs ms d e l2 (Err (Ring k from n))
  entry-ring {l2 = l2} is = record {
    kept = tt;
    shows = λ f p le size path.
        let b = below h f p le size path in
        let w : Stopped p l2 (Ring k from n) b.0.answer = rw is (go (leb from d) refl p size b.0 b.1) in
        rw b.2 (stop-onward p l2 (Ring k from n) b.0 (finish (table_of rows refs (length ms)) e) w);
  }
    where
      go : (y : Bool) → leb from d ≡ y → (p : List ℕ) → length p ≡ d → (o : Out) → RingShown (p ++ e ∷ []) l k from n o.answer
          → RingShown p (cond y (set l (d - from) e) l) k from n o.answer
      go true y p size o r = ring_in p l e k from n d o.answer size r (leb-true from d y)
      go false y p size o r = ring-past p l e k from n d o.answer size r (leb-false from d y)

-- they are refused
module _ {rows refs ms : List ℕ} {d e : ℕ} {l : List ℕ} {x : ℕ} {fault : Fault} (h : EntryCalled rows refs ms d e l (Err (Refused x fault)))
  where
    pub entry-refused : EntryWalked rows refs ms d e l (Err (Refused x fault))
    entry-refused = record {
      kept = tt;
      shows = λ f p le size path.
          let b = below h f p le size path in
          rw b.2 (stop-onward p l (Refused x fault) b.0 (finish (table_of rows refs (length ms)) e) b.1);
    }
