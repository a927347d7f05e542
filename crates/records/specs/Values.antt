-- What the code decides by value: where an entry goes, whether there is room, and its row. No public contract cites this file.
--     head_of f                 a form without its references and its name's bytes
--     filled_of t               the marks for the table t: its pending name stands behind the names
--     deed_by s f               what a record that says s does where the marks are f
--     has_room, row_for, grown   of an entry p that is put where the marks are f: room, row, the marks afterwards
-- Assumes nothing.
use Rattle.std.specs.Prelude.{Bool, cond, ◌&&◌, ◌||◌, ℕ, ◌+◌, ◌-◌, eqb, leb, ltb, length, Result, Ok, Err}
use Rattle.kinds.specs.Kinds.{struct}
use Rattle.table.specs.declared.row.Row.{Row}
use Rattle.table.specs.Entries.{Form}
use Rattle.table.specs.Rows.{place_of, refs_of, names_of}
use Rattle.shapes.specs.declared.Fault.{Fault}
use Rattle.shapes.specs.declared.Fault.TheVariants.{AlreadyFilled}
use Rattle.shapes.specs.declared.Head.{Head}
use Rattle.shapes.specs.declared.Shape.{Shape}
use Rattle.shapes.specs.declared.Shape.TheVariants as says
use Rattle.records.specs.declared.Filled.{Filled}
use Rattle.records.specs.declared.Put.{Put}
use Rattle.records.specs.declared.Deed.{Deed}
use Rattle.records.specs.declared.Deed.TheVariants as deed
use Rattle.records.specs.Table.{Table}
use Rattle.records.specs.Fill.{is_named, last_form}

abbrev pub head_of : Form → Head
head_of f =
    record { kind = f.kind; number = f.number; flag = f.flag; count = length f.refs; named = is_named f.name }

abbrev pub filled_of : Table → Filled
filled_of t = record {
  entries = length t.entries;
  refs = length (refs_of t.entries);
  taken = length (names_of t.entries);
  mark = length (names_of t.entries) + length t.pending;
  last = head_of (last_form t.entries);
}

-- where an entry goes: behind the others, or in place of the last (2026-01 keeps the first alone)

abbrev pub behind : Head → ℕ → Filled → Put
behind h from f = record { head = h; row = f.entries; kept = 0; from = from; more = h.count }

abbrev pub in_last : Head → (count kept from more : ℕ) → Filled → Put
in_last h count kept from more f = record {
  head = record { kind = f.last.kind; number = f.last.number; flag = f.last.flag; count = count; named = h.named };
  row = f.entries - 1;
  kept = kept;
  from = from;
  more = more;
}

abbrev pub opaque_by : Head → ℕ → Filled → Result Deed Fault
opaque_by h from f =
    cond (eqb f.last.kind struct)
    (cond f.last.named (Err AlreadyFilled) (Ok (deed.Put (in_last h f.last.count f.last.count 0 0 f))))
    (Ok (deed.Put (behind h from f)))

abbrev pub named_by : Head → ℕ → Filled → Result Deed Fault
named_by h from f =
    cond (eqb f.last.kind struct)
    (cond (f.last.named || ltb 0 f.last.count) (Err AlreadyFilled) (Ok (deed.Put (in_last h h.count 0 from h.count f))))
    (Ok (deed.Put (behind h from f)))

abbrev pub deed_by : Shape → Filled → Result Deed Fault
deed_by says.Nothing f = Ok deed.Pass
deed_by says.Name f = Ok deed.Pend
deed_by (says.Adds h from) f = Ok (deed.Put (behind h from f))
deed_by (says.Opaque h from) f = opaque_by h from f
deed_by (says.Named h from) f = named_by h from f

-- where the names end once the entry has its own
abbrev pub end_of : Put → Filled → ℕ
end_of p f = cond p.head.named f.mark f.taken

abbrev pub has_room : Put → Filled → (entries refs names : ℕ) → Bool
has_room p f entries refs names = ltb p.row entries && (leb (f.refs + p.more) refs && leb (end_of p f) names)

abbrev pub row_for : Put → Filled → Row
row_for p f = record {
  kind = p.head.kind;
  number = p.head.number;
  flag = p.head.flag;
  first = place_of p.head.count (f.refs - p.kept);
  count = p.head.count;
  start = place_of (end_of p f - f.taken) f.taken;
  len = end_of p f - f.taken;
  named = cond p.head.named 1 0;
}

abbrev pub grown : Put → Filled → Filled
grown p f =
    record { entries = p.row + 1; refs = f.refs + p.more; taken = end_of p f; mark = f.mark; last = p.head }
