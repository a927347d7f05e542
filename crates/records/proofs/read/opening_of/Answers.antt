-- `records::read::opening_of` meets its contract: what was seen of the stream, by cases. Assumes nothing.
use mathlib.Core.Path.{◌≡◌, ap, ◌∙◌}
use native.Mathlib.Omega.{arith}
use Prim.Native.Nat.{ℕ}
use Rattle.std.proofs.Common.{Result}
use Rattle.std.proofs.lemmas.Result.{err_from_is_err_and}
use Rattle.stream.specs.declared.Survey.{Survey}
use Rattle.records.specs.declared.Error.{Error}
use Rattle.records.specs.Held.{opening_of}
use Rattle.records.proofs.read.opening_of.Goals as goal

abbrev opened : Survey → Result ℕ Error
opened s = opening_of s.frame s.stated

pub returns-in_err-survey : goal.returns-in_err-survey
returns-in_err-survey c =
    let call = c.survey_of-survey in
    let p = err_from_is_err_and c.from_residual.result c.from_residual.ensures.1 in
    let refuses : c.from_residual.result ≡ opened call.result = grind arith in
    refuses ∙ ap opened call.ensures

pub returns-in_err-survey-2 : goal.returns-in_err-survey-2
returns-in_err-survey-2 c =
    let call = c.survey_of-survey in
    let p = err_from_is_err_and c.from_residual-in_err-survey-2.result c.from_residual-in_err-survey-2.ensures.1 in
    let refuses : c.from_residual-in_err-survey-2.result ≡ opened call.result = grind arith in
    refuses ∙ ap opened call.ensures

pub returns : goal.returns
returns c =
    let call = c.survey_of-survey in
    let opens : c.ok_or.result ≡ opened call.result = grind arith in
    opens ∙ ap opened call.ensures
