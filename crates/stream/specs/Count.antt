-- Document 01, "Refusal numbers": "2 | not exactly one NumEntry, or it is empty".
--     num_entry_in c fs     the record c with fields fs, if it is a NumEntry
--     num_entries s        the fields of each NumEntry of s
--     stated_by fss        what NumEntry records with these fields state: "Spare fields elsewhere are ignored"
--     survey_of ws         whether the words ws are whole records, and what their NumEntry records state
-- Assumes nothing.
use Rattle.std.specs.Prelude.{Bool, true, false, cond, List, [], ◌∷◌, ◌++◌, ℕ, Option, Some, None, Result, Ok, Err}
use Rattle.kinds.specs.declared.code.TypeCode.{TypeCode}
use Rattle.kinds.specs.declared.code.TypeCode.TheVariants.{NumEntry}
use Rattle.kinds.specs.declared.code.UnknownCode.{UnknownCode}
use Rattle.kinds.specs.Codes.{type_code}
use Rattle.stream.specs.declared.Faulty.{Faulty}
use Rattle.stream.specs.declared.Survey.{Survey}
use Rattle.stream.specs.Stream.{Stream, done, cut, rec, stream, framed}

abbrev pub is_num_entry : Result TypeCode UnknownCode → Bool
is_num_entry (Ok NumEntry) = true
is_num_entry _ = false

abbrev pub num_entry_in : ℕ → List ℕ → List (List ℕ)
num_entry_in code fields = cond (is_num_entry (type_code code)) (fields ∷ []) []

unfoldable pub num_entries : Stream → List (List ℕ)
num_entries done = []
num_entries cut = []
num_entries (rec code fields s) = num_entry_in code fields ++ num_entries s

abbrev pub Stated : Type 0
Stated = Result (Option ℕ) Faulty

abbrev pub faulty : Stated
faulty = Err (record {})

abbrev pub stated_by : List (List ℕ) → Stated
stated_by [] = Ok None
stated_by ([] ∷ []) = faulty
stated_by ((count ∷ spare) ∷ []) = Ok (Some count)
stated_by (one ∷ two ∷ more) = faulty

-- "Order: 1 over the whole stream; NumEntry; ..": both are seen before any record is judged
abbrev pub survey_of : List ℕ → Survey
survey_of ws = record { frame = framed 0 (stream ws); stated = stated_by (num_entries (stream ws)) }
