-- Laws of specs/Count.antt: the sweep that reads what the NumEntry records state and finds a record that is cut.
-- Assumes nothing.
use mathlib.Core.Path.{◌≡◌, refl, sym, ap, ◌∙◌}
use mathlib.Core.List.{List, [], ◌∷◌, ◌++◌, append_assoc}
use Prim.Native.Nat.{ℕ, ◌+◌}
use lib.ListN.{length}
use Rattle.std.proofs.Common.{None, Result, Ok, Err}
use Rattle.stream.specs.declared.Cut.{Cut}
use Rattle.stream.specs.Stream.{Stream, done, cut, rec, stream, Read, records_in, records_of, framed}
use Rattle.stream.specs.Count.{num_entry_in, num_entries, Stated, stated_by}

-- what the records of a stream state, and whether they are whole

abbrev entries : List (Result Read Cut) → List (List ℕ)
entries [] = []
entries (Ok r ∷ l) = num_entry_in r.code r.fields ++ entries l
entries (Err c ∷ l) = []

abbrev frame : List (Result Read Cut) → Result (Unit {0}) Cut
frame [] = Ok tt
frame (Ok r ∷ l) = frame l
frame (Err c ∷ l) = Err c

entries-in : (at : ℕ) (s : Stream) → num_entries s ≡ entries (records_in at s)
unfolding num_entries records_in
entries-in at done = refl
entries-in at cut = refl
entries-in at (rec c fs s) = ap (λ (l : List (List ℕ)). num_entry_in c fs ++ l) (entries-in (at + 2 + length fs) s)

frame-in : (at : ℕ) (s : Stream) → framed at s ≡ frame (records_in at s)
unfolding framed records_in
frame-in at done = refl
frame-in at cut = refl
frame-in at (rec c fs s) = frame-in (at + 2 + length fs) s

-- the sweep: the NumEntry records that were seen, and those that are left; a record that is cut is left
pub record Surveyed (ws : List ℕ) (left : List (Result Read Cut)) (stated : Stated) : Type 0 where
  pub seen : List (List ℕ)
  pub stated_is : stated ≡ stated_by seen
  pub whole : num_entries (stream ws) ≡ seen ++ entries left
  pub frame_is : framed 0 (stream ws) ≡ frame left

pub Surveyed-first : (ws : List ℕ) (l : List (Result Read Cut)) → l ≡ records_of ws → Surveyed ws l (Ok None)
Surveyed-first ws l e =
    record { seen = []; stated_is = refl; whole = rw e (entries-in 0 (stream ws)); frame_is = rw e (frame-in 0 (stream ws)) }

-- Named in docs/TRACE.md: a turn of the sweep, over a record that is whole.
pub Surveyed-more : (ws : List ℕ) (r : Read) (left : List (Result Read Cut)) (stated : Stated) → Surveyed ws (Ok r ∷ left) stated
    → (next : Stated) → ((seen : List (List ℕ)) → stated ≡ stated_by seen → next ≡ stated_by (seen ++ num_entry_in r.code r.fields))
    → Surveyed ws left next
Surveyed-more ws r left stated h next steps =
    record {
      seen = h.seen ++ num_entry_in r.code r.fields;
      stated_is = steps h.seen h.stated_is;
      whole = h.whole ∙ sym (append_assoc h.seen (num_entry_in r.code r.fields) (entries left));
      frame_is = h.frame_is;
    }
