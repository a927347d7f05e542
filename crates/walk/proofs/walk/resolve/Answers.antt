-- `walk::walk::resolve` meets its contract: the entries' part of the cleared witness is lent, and what is behind it stays 0.
-- Assumes nothing.
use lib.ListN.{length}
use Rattle.walk.proofs.Laws.Witness.{lent-few, lent-fresh, resolves-lent}
use Rattle.walk.proofs.walk.resolve.Goals as goal

pub returns : goal.returns
returns c =
    let s = c.args in
    let n = c.entries-n in
    let z = c.fill in
    let call = c.resolve_marks in
    resolves-lent s.count (length s.rows.now) (length s.witness.now) n.result z.new.self n.ensures (z.ensures.after (λ y e. e))
    s.rows.now s.refs.now call.result call.new.marks call.ensures call.auto.marks

pub resolve_marks-requires : goal.resolve_marks-requires
resolve_marks-requires c =
    let s = c.args in
    let n = c.entries-n in
    let z = c.fill in
    record {
      few = lent-few s.count (length s.rows.now) (length s.witness.now) n.result z.new.self n.ensures (z.ensures.after (λ y e. e));
      fresh = lent-fresh s.count (length s.rows.now) (length s.witness.now) n.result z.new.self n.ensures (z.ensures.after (λ y e. e));
    }
