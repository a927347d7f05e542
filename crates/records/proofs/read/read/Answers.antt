-- `records::read::read` meets its contract: what the first pass leaves, cleared behind what is kept, is what is shown.
-- Assumes nothing.
use mathlib.Core.Path.{◌≡◌, ap, ◌∙◌}
use Prim.Native.Nat.{ℕ, min}
use lib.ListN.{length}
use borrow.Author.Rules.{rules}
use Rattle.table.specs.Rows.{entry_room}
use Rattle.records.specs.Read.{reading, max_entries, shown}
use Rattle.records.specs.Held.{buffers_of, room_in}
use Rattle.records.proofs.Laws.Passing.{kept-by, answers-by, Left-shown}
use Rattle.records.proofs.read.read.Goals as goal

pub returns : goal.returns
returns c =
    let a = c.args in
    let k = c.first_pass-passed in
    let bs = buffers_of a.rows.now a.refs.now a.names.now in
    let room : c.min-entries.result ≡ min max_entries (min (entry_room (length a.rows.now)) a.witness) =
    c.min-entries.ensures ∙ ap (min max_entries) (c.min.ensures ∙ ap (λ (n : ℕ). min n a.witness) c.entry_room.ensures) in
    let kept = kept-by k.result c.unwrap_or_default-kept.result _ c.unwrap_or_default-kept.ensures (λ f d. (d.0, d.1.0, d.1.1.0)) in
    let answers = answers-by k.result c.map.result _ c.map.ensures.cases (λ f n h. search rules) in
    Left-shown bs k.result c.unwrap_or_default-kept.result kept c.map.result answers k.new.rows k.new.refs k.new.names _ _ _
    k.auto.rows k.auto.refs k.auto.names
    (c.fill.ensures.after (λ y e. e)) (c.fill-2.ensures.after (λ y e. e)) (c.fill-3.ensures.after (λ y e. e))
    (reading (room_in c.min-entries.result bs) a.words.now) k.ensures
    ∙ ap (λ (m : ℕ). shown (length a.rows.now) (length a.refs.now) (length a.names.now) (reading (room_in m bs) a.words.now))
    room
