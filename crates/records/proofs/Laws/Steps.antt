-- What a record does, from what the code found of it: the deed by value is the step on the table.
-- Assumes nothing.
use mathlib.Core.Path.{◌≡◌, sym, ap, ◌∙◌}
use mathlib.Core.List.{List, []}
use Prim.Native.Nat.{ℕ, ◌≤◌}
use lib.Dec.{ltb}
use lib.ListN.{length}
use Rattle.laws.proofs.Told.{T_of}
use Rattle.table.specs.Buffers.{low_bytes}
use Rattle.table.specs.Entries.{Entry}
use Rattle.table.proofs.Laws.Buffers.{low_bytes-of-bytes}
use Rattle.utf8.specs.Utf8.{is_utf8}
use Rattle.utf8.proofs.Laws.Utf8.{bytes-of-pays}
use Rattle.shapes.specs.declared.Fault.{Fault}
use Rattle.shapes.specs.declared.Shape.{Shape}
use Rattle.shapes.specs.declared.Shape.TheVariants as says
use native.Mathlib.Omega.{arith}
use Rattle.shapes.specs.Shapes.{shape_in}
use Rattle.shapes.proofs.Laws.Shapes.{last_field, shape_in-inside, shape_in-name}
use Rattle.records.specs.declared.Filled.{Filled}
use Rattle.records.specs.declared.Put as put
use Rattle.records.specs.declared.Deed.{Deed}
use Rattle.records.specs.declared.Deed.TheVariants.{Pass, Pend, Put}
use Rattle.std.proofs.Common.{Result, Ok, Err}
use Rattle.records.specs.Table.{Table, Room, passes, pends, puts, refuses}
use Rattle.records.specs.Records.{deed_on, after, step_of}
use Rattle.records.specs.Values.{filled_of, deed_by}
use Rattle.records.specs.Putting.{Fits, Puts}
use Rattle.records.proofs.Laws.Deeds.{FitsDeed, deed-fits, Does, deed-does}
use Rattle.records.proofs.Laws.Turn.{pending-is}

name-of-pend : (s : Shape) (f : Filled) → deed_by s f ≡ Ok Pend → s ≡ says.Name
name-of-pend s f e = grind arith

module _ (code : ℕ) (fs : List ℕ) (f : Filled) (r : Result Shape Fault) (is-r : r ≡ shape_in code fs (ltb f.taken f.mark)) where
  module _ (t : Table) (is : f ≡ filled_of t) where
    said : r ≡ shape_in code fs (ltb 0 (length t.pending))
    said = is-r ∙ ap (shape_in code fs) (pending-is f t is)

    pub step-refused : (room : Room) (fault : Fault) → r ≡ Err fault → step_of room t code fs ≡ after room t (refuses fault)
    step-refused room fault q = rw (sym said ∙ q)

  module _ (s : Shape) (ok : r ≡ Ok s) (d : Result Deed Fault) (is-d : d ≡ deed_by s f) where
    inside : last_field s ≤ length fs
    inside = let all = shape_in-inside code fs (ltb f.taken f.mark) in let e = sym is-r ∙ ok in rw e at all

    pub put-fits : (p : put.Put) → d ≡ Ok (Put p) → f.last.count ≤ f.refs → Fits p f (length fs)
    put-fits p q kept =
        let all : FitsDeed d f (length fs) = rw is-d (deed-fits s f (length fs) inside kept) in
        rw q at all

    pub pend-bytes : d ≡ Ok Pend → low_bytes fs ≡ fs
    pend-bytes q =
        let name : shape_in code fs (ltb f.taken f.mark) ≡ Ok says.Name = sym is-r ∙ ok ∙ ap Ok (name-of-pend s f (sym is-d ∙ q)) in
        low_bytes-of-bytes fs (bytes-of-pays [] fs tt (T_of (is_utf8 fs) (shape_in-name code fs (ltb f.taken f.mark) name)))

    module _ (t : Table) (is : f ≡ filled_of t) where
      does : Does t fs d (deed_on t fs s)
      does = rw (is-d, is) (deed-does t fs s inside)

      one : (room : Room) → step_of room t code fs ≡ after room t (deed_on t fs s)
      one room = rw (sym (said t is) ∙ ok)

      pub step-pass : (room : Room) → d ≡ Ok Pass → step_of room t code fs ≡ after room t passes
      step-pass room q = let h = rw q at does in one room ∙ ap (after room t) h

      pub step-pend : (room : Room) → d ≡ Ok Pend → step_of room t code fs ≡ after room t (pends fs)
      step-pend room q = let h = rw q at does in one room ∙ ap (after room t) h

      pub step-refuse : (room : Room) (fault : Fault) → d ≡ Err fault → step_of room t code fs ≡ after room t (refuses fault)
      step-refuse room fault q = let h = rw q at does in one room ∙ ap (after room t) h

      pub step-put : (room : Room) (p : put.Put) → d ≡ Ok (Put p)
          → (front : List Entry) × (e : Entry) × (step_of room t code fs ≡ after room t (puts front e)) × Puts t fs p front e
      step-put room p q = let h = rw q at does in (h.0, h.1, one room ∙ ap (after room t) h.2, h.3)
