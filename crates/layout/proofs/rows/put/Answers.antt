-- `layout::rows::put` meets its contract: the place is past the room, or the row is stored there.
-- Assumes nothing.
use mathlib.Core.Path.{refl}
use Rattle.layout.proofs.Laws.Rows.{stands, full, stored-fits, stored-rows, stored-count}
use Rattle.layout.proofs.rows.put.Goals as goal

pub returns-then-room-at : goal.returns-then-room-at
returns-then-room-at g c =
    let same = g.R.Row.same in
    let is = stands same c.args.new c.args.count _ _ _ c.args.room.now c.min.ensures c.find.ensures c.unwrap_or-at.ensures in
    rw (full same c.args.new c.args.count _ c.args.room.now is c.if-room-at.true) (record { count = refl; rows = refl })

pub returns : goal.returns
returns g c =
    let same = g.R.Row.same in
    let is = stands same c.args.new c.args.count _ _ _ c.args.room.now c.min.ensures c.find.ensures c.unwrap_or-at.ensures in
    let stored = c.if-room-at.false in
    rw (stored-fits same c.args.new c.args.count _ c.args.room.now is stored, stored-rows same c.args.new c.args.count _ c.args.room.now is stored, stored-count same c.args.new c.args.count _ c.args.room.now is stored, c.max.ensures) (record { count = refl; rows = refl })
