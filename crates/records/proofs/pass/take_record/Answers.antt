-- `records::pass::take_record` meets its contract: the deed by value is the step on the table, and each writer leaves that table.
-- Assumes nothing.
use mathlib.Core.Path.{refl, sym, ap, ◌∙◌}
use mathlib.Core.List.{◌++◌}
use lib.ListN.{length-append}
use Rattle.std.proofs.Common.{Ok}
use Rattle.std.proofs.lemmas.Result.{err_from_is_err_and}
use Rattle.table.specs.Rows.{names_of}
use Rattle.records.specs.declared.Filled.{Filled}
use Rattle.records.specs.Held.{room_in}
use Rattle.records.proofs.Laws.Turn.{length-names, step_after, After-pass, After-refuse, After-pend}
use Rattle.records.proofs.Laws.Steps.{put-fits, pend-bytes, step-pass, step-pend, step-refused, step-refuse, step-put}
use Rattle.records.proofs.pass.take_record.Goals as goal

pub returns-in_err-shape-clause-after : goal.returns-in_err-shape-clause-after
returns-in_err-shape-clause-after c =
    let a = c.args in
    let shape = c.shape_in in
    let p = err_from_is_err_and c.from_residual.result c.from_residual.ensures.1 in
    λ b t held is.
    let room = room_in a.entries b in
    step_after b _ _ _ _ _ _ (step-refused a.r.code a.r.fields.now a.f shape.result shape.ensures t is room _ c.in_err-shape.was)
    (rw (p.1, p.2) (After-refuse b t _ _ _ held room c.in_err-shape.field-0.0))

pub returns-in_err-deed_on-clause-after : goal.returns-in_err-deed_on-clause-after
returns-in_err-deed_on-clause-after c =
    let a = c.args in
    let shape = c.shape_in in
    let call = c.deed_on in
    let p = err_from_is_err_and c.from_residual-in_err-deed_on.result c.from_residual-in_err-deed_on.ensures.1 in
    λ b t held is.
    let room = room_in a.entries b in
    step_after b _ _ _ _ _ _ (step-refuse a.r.code a.r.fields.now a.f shape.result shape.ensures _ c.in_ok-shape.was call.result
    call.ensures t is room _ c.in_err-deed_on.was)
    (rw (p.1, p.2) (After-refuse b t _ _ _ held room c.in_err-deed_on.field-0.0))

pub put-requires : goal.put-requires
put-requires c =
    let a = c.args in
    let shape = c.shape_in in (
      c.requires,
      put-fits a.r.code a.r.fields.now a.f shape.result shape.ensures _ c.in_ok-shape.was c.deed_on.result
          c.deed_on.ensures c.in-Put.p (c.in_ok-deed_on.was ∙ ap Ok c.in-Put.is) c.requires.last_le,
    )

pub returns-in-Pass-clause-after : goal.returns-in-Pass-clause-after
returns-in-Pass-clause-after c =
    let a = c.args in
    let call = c.deed_on in
    let shape = c.shape_in in
    λ b t held is. step_after b _ _ _ _ _ _ (step-pass a.r.code a.r.fields.now a.f shape.result shape.ensures _
    c.in_ok-shape.was call.result call.ensures t is (room_in a.entries b) (c.in_ok-deed_on.was ∙ ap Ok c.in-Pass.is))
    (After-pass b t _ _ _ held (room_in a.entries b) a.f is)

pub returns-in-Pend-clause-after : goal.returns-in-Pend-clause-after
returns-in-Pend-clause-after c =
    let a = c.args in
    let fs = a.r.fields.now in
    let call = c.deed_on in
    let shape = c.shape_in in
    let pends = c.in_ok-deed_on.was ∙ ap Ok c.in-Pend.is in
    let bytes = pend-bytes a.r.code fs a.f shape.result shape.ensures _ c.in_ok-shape.was call.result call.ensures pends in
    λ b t held is.
    let room = room_in a.entries b in
    let names = names_of t.entries ++ t.pending in
    let laid = c.stage.ensures names b.names held.names_are
    (ap (λ (x : Filled). x.mark) is ∙ sym (simp length-append)) in
    step_after b _ _ _ _ _ _ (step-pend a.r.code fs a.f shape.result shape.ensures _ c.in_ok-shape.was call.result
    call.ensures t is room pends) (After-pend b t _ _ _ held room a.f _ fs _ is refl (laid ∙ rw bytes))

pub returns-in-Put-clause-after : goal.returns-in-Put-clause-after
returns-in-Put-clause-after c =
    let a = c.args in
    let call = c.deed_on in
    let shape = c.shape_in in
    λ b t held is.
    let room = room_in a.entries b in
    let h = step-put a.r.code a.r.fields.now a.f shape.result shape.ensures _ c.in_ok-shape.was call.result
    call.ensures t is room c.in-Put.p (c.in_ok-deed_on.was ∙ ap Ok c.in-Put.is) in
    step_after b _ _ _ _ _ _ h.2 (c.put.ensures.after b t a.names.now h.0 h.1 held is
    (length-names b t _ _ _ held) h.3)
