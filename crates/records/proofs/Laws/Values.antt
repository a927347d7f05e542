-- Laws of specs/Values.antt: what the code computes by value for an entry that is put.
-- Assumes nothing.
use mathlib.Core.Path.{◌≡◌}
use mathlib.Core.Bool.{true}
use Prim.Native.Nat.{ℕ, ◌+◌, ◌≤◌, ◌<◌}
use borrow.Author.Tests.{ltb-true, leb-true}
use Rattle.laws.proofs.Told.{and-told}
use Rattle.records.specs.declared.Filled.{Filled}
use Rattle.records.specs.declared.Put.{Put}
use Rattle.records.specs.Values.{end_of, has_room}

pub room-told : (p : Put) (f : Filled) (x y z : ℕ) → has_room p f x y z ≡ true → (p.row < x) × (f.refs + p.more ≤ y) × (end_of p f ≤ z)
room-told p f x y z e =
    let a = and-told _ _ e in
    let b = and-told _ _ a.1 in
    (ltb-true _ _ a.0, leb-true _ _ b.0, leb-true _ _ b.1)
