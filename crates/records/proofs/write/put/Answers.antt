-- `records::write::put` meets its contract: with room the row and the references lie behind what was there, else nothing is written.
-- Assumes nothing.
use mathlib.Core.Path.{◌≡◌, refl, sym, ap, ◌∙◌}
use Prim.Native.Nat.{ℕ, ◌+◌, ◌-◌}
use native.Mathlib.Omega.{arith}
use lib.ListN.{take, drop}
use Rattle.records.proofs.Laws.Turn.{After-full, After-put}
use Rattle.records.proofs.write.put.Goals as goal

pub returns-then-not-has_room-clause-after : goal.returns-then-not-has_room-clause-after
returns-then-not-has_room-clause-after c =
    let a = c.args in
    λ b t z front e held is nz P. After-full b t a.rows.now a.refs.now z held a.fields.now a.p front e P
    c.requires.1.inside a.entries a.f is _ _ refl nz (sym c.has_room.ensures ∙ c.if-not-has_room.true)

pub returns-clause-after : goal.returns-clause-after
returns-clause-after c =
    let a = c.args in
    let n : a.p.from + a.p.more - a.p.from ≡ a.p.more = omega arith in
    λ b t z front e held is nz P. After-put b t a.rows.now a.refs.now z held a.fields.now a.p front e P
    c.requires.1.inside a.entries a.f is _ _ refl nz (sym c.has_room.ensures ∙ c.if-not-has_room.false) c.requires.0.rows_hold _ _ _ _ _
    c.grow.ensures
    c.row_of.ensures
    (ap (λ (k : ℕ). take k (drop a.p.from a.fields.now)) n)
    c.put_row.ensures c.put_words.ensures
