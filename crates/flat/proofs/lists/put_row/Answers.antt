-- `flat::lists::put_row` meets its contract: in the place of a row, behind all rows, or no more room for one. Each is a law of
-- Laws/Among.antt.
-- Assumes nothing.
use mathlib.Core.Path.{refl, ◌∙◌}
use Prim.Native.Nat.{◌+◌}
use native.Mathlib.Omega.{arith}
use lib.ListN.{get_or, length-set}
use Rattle.flat.specs.Moves.{same_key}
use Rattle.flat.proofs.Laws.Among.{Rows-bounds, Rows-count, Rows-found}
use Rattle.flat.proofs.Laws.Among.{at-whole, replaced, full, appended}
use Rattle.flat.proofs.lists.put_row.Goals as goal

pub overflow_mul-at : goal.overflow_mul-at
overflow_mul-at g c =
    let are = c.requires.rows.are in
    let hit = Rows-found are (same_key c.args.both c.args.row.now) _ g.row.WIDE c.told-row (omega (arith, c.requires.wide)) c.find.ensures ∙ c.in-Some.is in
    let whole = at-whole c.args.row.now c.args.both are c.in-Some.i g.row.WIDE c.told-row hit in
    record { fits = omega (arith, whole) }

pub overflow_add-at : goal.overflow_add-at
overflow_add-at g c =
    let are = c.requires.rows.are in
    let hit =
    Rows-found are (same_key c.args.both c.args.row.now) _ g.row.WIDE c.told-row (omega (arith, c.requires.wide)) c.find.ensures
    ∙ c.in-Some.is in
    let whole = at-whole c.args.row.now c.args.both are c.in-Some.i g.row.WIDE c.told-row hit in
    omega (arith, whole)

pub overflow_add-at-in-Some : goal.overflow_add-at-in-Some
overflow_add-at-in-Some g c =
    let are = c.requires.rows.are in
    let hit = Rows-found are (same_key c.args.both c.args.row.now) _ g.row.WIDE c.told-row (omega (arith, c.requires.wide)) c.find.ensures ∙ c.in-Some.is in
    let whole = at-whole c.args.row.now c.args.both are c.in-Some.i g.row.WIDE c.told-row hit in
    omega (arith, whole)

pub replace-requires : goal.replace-requires
replace-requires g c =
    let are = c.requires.rows.are in
    let hit = Rows-found are (same_key c.args.both c.args.row.now) _ g.row.WIDE c.told-row (omega (arith, c.requires.wide)) c.find.ensures ∙ c.in-Some.is in
    let whole = at-whole c.args.row.now c.args.both are c.in-Some.i g.row.WIDE c.told-row hit in
    let bounds = Rows-bounds are in
    (omega arith, omega (arith, whole, bounds), omega (arith, bounds), omega (arith, whole, bounds, c.told-row))

pub returns-in-Some : goal.returns-in-Some
returns-in-Some g c =
    let row = c.args.row.now in
    λ x rows y are. replaced row c.args.both are c.in-Some.i g.row.WIDE c.told-row
    (Rows-found are (same_key c.args.both row) _ g.row.WIDE c.told-row (omega (arith, c.requires.wide)) c.find.ensures ∙ c.in-Some.is)
    _ c.replace.ensures

pub returns-then-most-out : goal.returns-then-most-out
returns-then-most-out g c =
    let row = c.args.row.now in
    λ x rows y are. full row c.args.both are
    (Rows-found are (same_key c.args.both row) _ g.row.WIDE c.told-row (omega (arith, c.requires.wide)) c.find.ensures ∙ c.in_default.is)
    (omega arith) _

pub replace-requires-2 : goal.replace-requires-2
replace-requires-2 g c =
    let are = c.requires.rows.are in
    let bounds = Rows-bounds are in
    let out = c.args.out.now in
    let long = length-set out c.args.from (get_or out c.args.from 0 + 1) in
    let more = bounds.3 (omega (arith, Rows-count are)) in
    (omega arith, omega (arith, bounds), omega (arith, bounds, long), omega (arith, bounds, long, more))

pub returns : goal.returns
returns g c =
    let row = c.args.row.now in
    λ x rows y are. appended row c.args.both are
    (Rows-found are (same_key c.args.both row) _ g.row.WIDE c.told-row (omega (arith, c.requires.wide)) c.find.ensures ∙ c.in_default.is)
    c.if-most-out.false _ _ refl c.replace-2.ensures
