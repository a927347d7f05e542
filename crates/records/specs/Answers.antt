-- Document 01, "Refusal numbers": number, place and detail of each answer of the first pass.
-- Assumes nothing.
use Rattle.std.specs.Prelude.{ℕ, Result, Ok, Err}
use Rattle.units.specs.declared.refusal.Refusal.{Refusal}
use Rattle.shapes.specs.Answers.{number_of, detail_of}
use Rattle.records.specs.declared.Error.{Error}
use Rattle.records.specs.declared.Error.TheVariants.{CutRecord, NoSingleCount, BadRecord, CountDiffers}

-- "| No. | Meaning | place, detail |"
abbrev pub refusal : (number place detail : ℕ) → Refusal
refusal number place detail = record { number = number; place = place; detail = detail }

abbrev pub verdict_of : Result ℕ Error → Result ℕ Refusal
verdict_of (Ok entries) = Ok entries
verdict_of (Err (CutRecord head)) = Err (refusal 1 head 0)
verdict_of (Err NoSingleCount) = Err (refusal 2 0 0)
verdict_of (Err (BadRecord number fault)) = Err (refusal (number_of fault) number (detail_of fault))
verdict_of (Err (CountDiffers stated got)) = Err (refusal 10 stated got)
