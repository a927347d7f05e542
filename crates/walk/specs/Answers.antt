-- Document 01, "Refusal numbers" 11 to 19: the number, place and detail of each answer.
--     number_in, detail_in     the number and the detail of a fault
--     verdict_of j            what an entry's own rule says, in these numbers
--     cycle                  the number of a cycle
--     Paper                  an answer as the document writes it: accepted, or number, place, detail
--     paper_of r              the paper's answer for the case r;  paper_in a  the paper's answer for the walk's outcome a
-- Assumes nothing.
use Rattle.std.specs.Prelude.{ℕ, length, get_or, Result, Ok, Err}
use Rattle.ranks.specs.Table.{Verdict, kept, broken, out_of_range}
use Rattle.ranks.specs.Walk.{Answer, Rank, Ring, Bad}
use Rattle.rules.specs.Lawful.{bad_width, number_of}
use Rattle.walk.specs.declared.Fault.{Fault}
use Rattle.walk.specs.declared.Fault.TheVariants.{OutOfRange, Width, Referent}
use Rattle.walk.specs.declared.Error.{Error}
use Rattle.walk.specs.declared.Error.TheVariants.{Refused, Cycle}

-- "11 | reference out of range"; "12 | width"; "13, 14, 15, 16 | pointee, array, vector, struct field"; "17, 18 | return, .. parameter"
abbrev pub number_in : Fault → ℕ
number_in (OutOfRange r) = out_of_range
number_in (Width w) = bad_width
number_in (Referent place r) = number_of place

-- "entry, reference"; "entry, width after the cut"; "entry, first bad referent"; "entry, referent"
abbrev pub detail_in : Fault → ℕ
detail_in (OutOfRange r) = r
detail_in (Width w) = w
detail_in (Referent place r) = r

abbrev pub verdict_of : Result Unit Fault → Verdict
verdict_of (Ok u) = kept
verdict_of (Err f) = broken (number_in f) (detail_in f)

-- "19 | cycle"
abbrev pub cycle : ℕ
cycle = 19

pub data Paper : Type 0 where
  accepted : Paper
  refused : ℕ → ℕ → ℕ → Paper

abbrev pub paper_of : Result Unit Error → Paper
paper_of (Ok u) = accepted
paper_of (Err (Refused e f)) = refused (number_in f) e (detail_in f)
paper_of (Err (Cycle e n)) = refused cycle e n

-- "19 | cycle | entry met again, ring length": the ring starts with the entry met again
abbrev pub paper_in : Answer → Paper
paper_in (Rank k) = accepted
paper_in (Ring ring) = refused cycle (get_or ring 0 0) (length ring)
paper_in (Bad n e r) = refused n e r
