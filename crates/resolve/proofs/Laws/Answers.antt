-- The paper's number, place and detail determine the case of the answer; and no other refusal has the number of a cycle.
-- Assumes nothing.
use mathlib.Core.Path.{◌≡◌, refl, sym, ap, ◌∙◌}
use mathlib.Core.Bool.{Bool, true, false, not, cond, ◌&&◌}
use mathlib.Core.List.{List, [], ◌∷◌}
use Prim.Native.Nat.{ℕ, suc, ◌-◌}
use native.Mathlib.Omega.{arith}
use lib.Dec.{eqb}
use lib.ListN.{get_or}
use Rattle.std.specs.Prelude.{Result, Ok, Err, Option, Some, None}
use Rattle.kinds.specs.Kinds.{integer}
use Rattle.units.specs.Limits.{is_integer_width}
use Rattle.table.specs.Rows.{row_at}
use Rattle.ranks.specs.Table.{Verdict, kept, broken, out_of_range}
use Rattle.rules.specs.declared.Place.{Place}
use Rattle.rules.specs.declared.Place.TheVariants.{Pointee, ArrayElement, StructElement, VectorElement, Return, Argument}
use Rattle.rules.specs.Places.{place_at, suits}
use Rattle.rules.specs.Lawful.{refs_at, bad_width, number_of, barred, first_bad, rule_at}
use Rattle.walk.specs.declared.Fault.{Fault}
use Rattle.walk.specs.declared.Fault.TheVariants.{OutOfRange, Width, Referent}
use Rattle.walk.specs.declared.Error.{Error}
use Rattle.walk.specs.declared.Error.TheVariants.{Refused, Cycle}
use Rattle.walk.specs.Answers.{Paper, accepted, refused, cycle, paper_of}

-- the places in the order of their numbers, and the case that the paper's answer came from
places : List Place
places = Pointee ∷ ArrayElement ∷ VectorElement ∷ StructElement ∷ Return ∷ Argument ∷ []

fault_of : ℕ → ℕ → Fault
fault_of n d =
    cond (eqb n out_of_range) (OutOfRange d)
    (cond (eqb n bad_width) (Width d) (Referent (get_or places (n - number_of Pointee) Argument) d))

case_of : Paper → Result Unit Error
case_of accepted = Ok tt
case_of (refused n e d) = Err (cond (eqb n cycle) (Cycle e d) (Refused e (fault_of n d)))

case-back : (r : Result Unit Error) → case_of (paper_of r) ≡ r
unfolding case_of fault_of places
case-back (Ok tt) = refl
case-back (Err (Refused e (OutOfRange r))) = refl
case-back (Err (Refused e (Width w))) = refl
case-back (Err (Refused e (Referent Pointee r))) = refl
case-back (Err (Refused e (Referent ArrayElement r))) = refl
case-back (Err (Refused e (Referent VectorElement r))) = refl
case-back (Err (Refused e (Referent StructElement r))) = refl
case-back (Err (Refused e (Referent Return r))) = refl
case-back (Err (Refused e (Referent Argument r))) = refl
case-back (Err (Cycle e n)) = refl

pub paper_of-unique : (r s : Result Unit Error) → paper_of r ≡ paper_of s → r ≡ s
paper_of-unique r s h = sym (case-back r) ∙ ap case_of h ∙ case-back s

number_of-no-cycle : (p : Place) → number_of p ≡ cycle → ⊥
number_of-no-cycle Pointee h = omega arith
number_of-no-cycle ArrayElement h = omega arith
number_of-no-cycle VectorElement h = omega arith
number_of-no-cycle StructElement h = omega arith
number_of-no-cycle Return h = omega arith
number_of-no-cycle Argument h = omega arith

-- what a verdict's number is not
NoCycle : Verdict → Type 0
NoCycle kept = Unit {0}
NoCycle (broken n d) = n ≡ cycle → ⊥

barred-no-cycle : (place : Option Place) (r : ℕ) → NoCycle (barred place r)
unfolding NoCycle
barred-no-cycle None r = tt
barred-no-cycle (Some p) r = number_of-no-cycle p

first_bad-no-cycle : (rows : List ℕ) (kind i : ℕ) (l : List ℕ) → NoCycle (first_bad rows kind i l)
unfolding first_bad NoCycle
first_bad-no-cycle rows kind i [] = tt
first_bad-no-cycle rows kind i (x ∷ xs) = go (suits kind i (row_at rows x).kind) (first_bad-no-cycle rows kind (suc i) xs)
  where
    go : (s : Bool) → NoCycle (first_bad rows kind (suc i) xs)
        → NoCycle (cond s (first_bad rows kind (suc i) xs) (barred (place_at kind i) x))
    go true h = h
    go false h = barred-no-cycle (place_at kind i) x

verdict-no-cycle : (rows refs : List ℕ) (e : ℕ) → NoCycle (rule_at rows refs e)
unfolding rule_at NoCycle
verdict-no-cycle rows refs e = go (eqb (row_at rows e).kind integer && not (is_integer_width (row_at rows e).number))
  where
    go : (w : Bool) → NoCycle (cond w (broken bad_width (row_at rows e).number) (first_bad rows (row_at rows e).kind 0 (refs_at rows refs e)))
    go true = λ h. omega arith
    go false = first_bad-no-cycle rows (row_at rows e).kind 0 (refs_at rows refs e)

pub rule_at-no-cycle : (rows refs : List ℕ) (e n d : ℕ) → rule_at rows refs e ≡ broken n d → n ≡ cycle → ⊥
unfolding NoCycle
rule_at-no-cycle rows refs e n d h = rw h at (verdict-no-cycle rows refs e)
