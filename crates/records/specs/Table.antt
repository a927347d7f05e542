-- Document 01, "Type stream and table": what was read so far, the room for it, and what a record does to it.
--     Table                  the entries, and the bytes of the pending name
--     Room                   how many entries, references and name bytes there is room for
--     fits room es           there is room for the entries es
--     Deed                   what a record does; `puts front e`: afterwards the entries are front and, last, e
--     form_of p fs h from     the entry that a record with the fields fs says, p being the pending name
-- Assumes nothing.
use Rattle.std.specs.Prelude.{Bool, true, false, ◌&&◌, List, [], ℕ, leb, length, take, drop}
use Rattle.table.specs.Entries.{Name, unnamed, called, Form, Entry}
use Rattle.table.specs.Rows.{refs_of, names_of}
use Rattle.shapes.specs.declared.Fault.{Fault}
use Rattle.shapes.specs.declared.Head.{Head}

pub record Table : Type 0 where
  pub entries : List Entry
  pub pending : List ℕ

abbrev pub empty : Table
empty = record { entries = []; pending = [] }

pub record Room : Type 0 where
  pub entries : ℕ
  pub refs : ℕ
  pub names : ℕ

-- "9 is given exactly if the record needs an entry beyond .., or more references or name bytes than the buffers hold."
unfoldable pub fits : Room → List Entry → Bool
fits room es =
    leb (length es) room.entries && (leb (length (refs_of es)) room.refs && leb (length (names_of es)) room.names)

pub data Deed : Type 0 where
  passes : Deed
  pends : List ℕ → Deed
  puts : (front : List Entry) (e : Entry) → Deed
  refuses : Fault → Deed

-- "Its name may be empty and still counts as a name."
abbrev pub name_if : Bool → List ℕ → Name
name_if true p = called p
name_if false p = unnamed

abbrev pub form_of : List ℕ → List ℕ → Head → ℕ → Form
form_of p fs h from = record {
  kind = h.kind;
  number = h.number;
  flag = h.flag;
  refs = take h.count (drop from fs);
  name = name_if h.named p;
}

-- an entry of that form (2026-07: with the number of the record that adds it)
abbrev pub entry_of : Form → Entry
entry_of f = record { form = f }
