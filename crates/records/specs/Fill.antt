-- Document 01, "Type stream and table": Opaque and StructNamed fill the last entry if that is a struct. 2026-01 replaces this file:
-- from then on both always add an entry, and 7 is retired.
--     last_form es, front_of es     the last entry's form, and the entries before it
--     opaque_on es f               what an Opaque does that says the form f
--     named_on es f                what a StructNamed does that says the form f
-- Assumes nothing.
use Rattle.std.specs.Prelude.{Bool, true, false, cond, ◌||◌, List, [], ◌∷◌, eqb, ltb, length}
use Rattle.kinds.specs.Kinds.{struct}
use Rattle.table.specs.Entries.{Name, unnamed, called, Form, Entry}
use Rattle.shapes.specs.declared.Fault.TheVariants.{AlreadyFilled}
use Rattle.records.specs.Table.{Deed, puts, refuses, entry_of}

-- where there is no entry, a form that is no struct
abbrev pub last_form : List Entry → Form
last_form [] = record { kind = 0; number = 0; flag = 0; refs = []; name = unnamed }
last_form (e ∷ []) = e.form
last_form (e ∷ f ∷ es) = last_form (f ∷ es)

abbrev pub front_of : List Entry → List Entry
front_of [] = []
front_of (e ∷ []) = []
front_of (e ∷ f ∷ es) = e ∷ front_of (f ∷ es)

abbrev pub is_named : Name → Bool
is_named unnamed = false
is_named (called bytes) = true

abbrev pub is_struct : Form → Bool
is_struct f = eqb f.kind struct

-- "If the last entry is a struct": 7 where that is barred, else it becomes what `filled` makes of it; if it is none, f is added
abbrev pub fills_last : List Entry → (Form → Bool) → (Form → Form) → Form → Deed
fills_last es barred filled f =
    cond (is_struct (last_form es))
    (cond (barred (last_form es)) (refuses AlreadyFilled) (puts (front_of es) (entry_of (filled (last_form es)))))
    (puts es (entry_of f))

-- "Opaque names it (7 if already named)": its fields and its packed flag stay
abbrev pub named : Name → Form → Form
named n last = record { kind = last.kind; number = last.number; flag = last.flag; refs = last.refs; name = n }

-- "sets name and fields and keeps the old packed flag"
abbrev pub refilled : Form → Form → Form
refilled f last = record { kind = last.kind; number = last.number; flag = last.flag; refs = f.refs; name = f.name }

-- "If the last entry is a struct, Opaque names it (7 if already named), else it adds an empty unpacked struct."
abbrev pub opaque_on : List Entry → Form → Deed
opaque_on es f = fills_last es (λ last. is_named last.name) (named f.name) f

-- "StructNamed fills the last entry if that is a struct: 7 if it has a name or fields, else it sets name and fields and keeps the
-- old packed flag; otherwise it adds an entry."
abbrev pub named_on : List Entry → Form → Deed
named_on es f = fills_last es (λ last. is_named last.name || ltb 0 (length last.refs)) (refilled f) f
