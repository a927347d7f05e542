-- `records::read::first_pass` meets its contract, by a law for each way out. Assumes nothing.
use mathlib.Core.Path.{ap, ◌∙◌, refl}
use Rattle.std.proofs.Common.{Err}
use Rattle.std.proofs.lemmas.Result.{err_from_is_err_and}
use Rattle.records.proofs.Laws.Passing.{Left-opening, Left-record, Left-count, Left-agrees}
use Rattle.records.proofs.read.first_pass.Goals as goal

pub returns-in_err-stated : goal.returns-in_err-stated
returns-in_err-stated c =
    let p = err_from_is_err_and c.from_residual.result c.from_residual.ensures.1 in
    Left-opening _ _ _ _ _ _ _ c.opening_of.result c.opening_of.ensures _ c.in_err-stated.was (p.1 ∙ ap Err p.2)

pub returns-in_err-filled : goal.returns-in_err-filled
returns-in_err-filled c =
    let p = err_from_is_err_and c.from_residual-in_err-filled.result c.from_residual-in_err-filled.ensures.1 in
    Left-record _ _ _ _ _ _ _ c.opening_of.result c.opening_of.ensures _ c.in_ok-stated.was c.read_records.result
    c.read_records.ensures _ c.in_err-filled.was (p.1 ∙ ap Err p.2)

pub returns-then-stated-got : goal.returns-then-stated-got
returns-then-stated-got c =
    Left-count _ _ _ _ _ _ _ c.opening_of.result c.opening_of.ensures _ c.in_ok-stated.was c.read_records.result
    c.read_records.ensures _ c.in_ok-filled.was c.if-stated-got.true refl

pub returns : goal.returns
returns c =
    Left-agrees _ _ _ _ _ _ _ c.opening_of.result c.opening_of.ensures _ c.in_ok-stated.was c.read_records.result
    c.read_records.ensures _ c.in_ok-filled.was c.if-stated-got.false refl
