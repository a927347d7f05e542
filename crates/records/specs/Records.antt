-- Document 01, "Refusal numbers": "records in order (within one: missing field, then its other faults by number, then 9)".
--     deed_on t fs s        what a record with the fields fs that says s does to the table t; deed_if  the same where it may be refused
--     after room t d       the table after the deed d, or its fault
--     step_of room t c fs   the same for a record with the code c and the fields fs
--     run room n t s       the records of s in order, the first of them number n
-- Assumes nothing.
use Rattle.std.specs.Prelude.{cond, List, [], ◌∷◌, ◌++◌, ℕ, ◌+◌, ltb, length, Result, Ok, Err}
use Rattle.table.specs.Entries.{Name, unnamed, called}
use Rattle.stream.specs.Stream.{Stream, done, cut, rec}
use Rattle.shapes.specs.declared.Fault.{Fault}
use Rattle.shapes.specs.declared.Fault.TheVariants.{NoRoom}
use Rattle.shapes.specs.declared.Shape.{Shape}
use Rattle.shapes.specs.declared.Shape.TheVariants as says
use Rattle.shapes.specs.Shapes.{shape_in}
use Rattle.records.specs.Table.{Table, Room, fits, Deed, passes, pends, puts, refuses, form_of, entry_of}
use Rattle.records.specs.Fill.{opaque_on, named_on}

abbrev pub deed_on : Table → List ℕ → Shape → Deed
deed_on t fs says.Nothing = passes
deed_on t fs says.Name = pends fs
deed_on t fs (says.Adds h from) = puts t.entries (entry_of (form_of t.pending fs h from))
deed_on t fs (says.Opaque h from) = opaque_on t.entries (form_of t.pending fs h from)
deed_on t fs (says.Named h from) = named_on t.entries (form_of t.pending fs h from)

abbrev pub deed_if : Table → List ℕ → Result Shape Fault → Deed
deed_if t fs (Ok shape) = deed_on t fs shape
deed_if t fs (Err fault) = refuses fault

pub data Outcome : Type 0 where
  go : Table → Outcome
  stop : Fault → Outcome

-- "Both clear the pending name."
abbrev pub pending_after : Name → List ℕ → List ℕ
pending_after unnamed p = p
pending_after (called bytes) p = []

-- StructName "appends to the pending name"; "Pending name bytes count when a struct takes them."
unfoldable pub after : Room → Table → Deed → Outcome
after room t passes = go t
after room t (pends bytes) = go (record { entries = t.entries; pending = t.pending ++ bytes })
after room t (puts front e) =
    cond (fits room (front ++ (e ∷ [])))
    (go (record { entries = front ++ (e ∷ []); pending = pending_after e.form.name t.pending }))
    (stop NoRoom)
after room t (refuses fault) = stop fault

abbrev pub step_of : Room → Table → ℕ → List ℕ → Outcome
step_of room t code fs = after room t (deed_if t fs (shape_in code fs (ltb 0 (length t.pending))))

pub data Ran : Type 0 where
  whole : Table → Ran
  bad : (number : ℕ) (fault : Fault) → Ran

abbrev pub onward : Outcome → ℕ → (Table → Ran) → Ran
onward (go t) n f = f t
onward (stop fault) n f = bad n fault

-- "Records and entries count from 0."
unfoldable pub run : Room → ℕ → Table → Stream → Ran
run room n t done = whole t
run room n t cut = whole t
run room n t (rec code fs s) = onward (step_of room t code fs) n (λ next. run room (n + 1) next s)
