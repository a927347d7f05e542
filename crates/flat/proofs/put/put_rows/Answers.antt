-- `flat::put::put_rows` meets its contract: the count, kept to the room, then the words of so many rows behind it.
-- The invariant: those of the first i rows lie behind the count. Assumes nothing.
use mathlib.Core.Path.{◌≡◌, refl, ap, ◌∙◌}
use Prim.Native.Nat.{◌+◌, ◌≤◌}
use native.Mathlib.Nat.{mul-le-mul_right}
use native.Mathlib.Omega.{arith}
use lib.ListN.{length, take, length-take}
use Rattle.std.proofs.lemmas.List.{take_min}
use Rattle.flat.proofs.Laws.Puts.{Filled-first, Filled-more, Filled-done}
use Rattle.flat.proofs.put.put_rows.Goals as goal

pub loop-i-init : goal.loop-i-init
loop-i-init g c = Filled-first (g.R.Words.words_of) g.row.WIDE (g.met.R.Words.wide) _ (c.args.at + 1) _

pub loop-i-preserved : goal.loop-i-preserved
loop-i-preserved g c =
    Filled-more (g.R.Words.words_of) g.row.WIDE (g.met.R.Words.wide) _ (c.args.at + 1) _ c.loop-i.i _ c.index-rows-i.result
    _ _ _ c.loop-i.invariant c.loop-i-test.true refl (c.words.ensures ∙ ap (g.R.Words.words_of) c.index-rows-i.is)
    c.put_behind-in-loop-i.auto.out c.put_behind-in-loop-i.ensures

pub returns : goal.returns
returns g c =
    let room = c.args.room.now in
    let same : take c.min.result room ≡ take c.args.count room = rw c.min.ensures (take_min c.args.count room) in
    let fewer : length (take c.min.result room) ≤ length room = omega (arith, length-take c.min.result room) in
    let long = mul-le-mul_right g.row.WIDE fewer in
    rw (← same)
    (Filled-done (g.R.Words.words_of) g.row.WIDE (g.met.R.Words.wide) _ (c.args.at + 1) _ c.loop-i.i c.args.at _ _
    c.args.out.now c.loop-i.out refl c.put_behind.ensures c.loop-i.invariant c.loop-i-test.false refl (omega arith))
