-- Document 01, "Resolution", the checker: "every row is well formed as above".
--     number_form, flag_form, count_form, named_form    what a kind says of a word of its row
--     formed row                                    the words of a row that do not say where a stretch starts
--     placed place count fill room                  where a stretch starts, and that it stays inside
-- Assumes nothing.
use Rattle.std.specs.Prelude.{Bool, true, ◌&&◌, ◌||◌, cond, [], ◌∷◌, ℕ, ◌-◌, eqb, leb}
use Rattle.laws.specs.Numbers.{within, listed}
use Rattle.units.specs.Limits.{is_address_space}
use Rattle.kinds.specs.Kinds.{integer, function, pointer, struct, array, scalable_vector, opaque_pointer}
use Rattle.table.specs.declared.row.Row.{Row}
use Rattle.table.specs.Rows.{place_of}

-- "Number is the width, address space or element count"; "Unused words are 0"; "every .. space .. rule holds". Widths: below
abbrev pub number_form : ℕ → ℕ → Bool
number_form kind number =
    cond (eqb kind integer) true
    (cond (listed (pointer ∷ opaque_pointer ∷ []) kind) (is_address_space number)
    (within array scalable_vector kind || eqb number 0))

-- "flag is vararg or packed"; "flag and eighth word 0 or 1"
abbrev pub flag_form : ℕ → ℕ → Bool
flag_form kind flag = cond (listed (function ∷ struct ∷ []) kind) (leb flag 1) (eqb flag 0)

-- "reference count 1 for kinds 15 and 17 to 19, at least 1 for 14, any for 16, else 0"
abbrev pub count_form : ℕ → ℕ → Bool
count_form kind count =
    cond (eqb kind function) (leb 1 count)
    (cond (eqb kind struct) true
    (cond (within pointer scalable_vector kind) (eqb count 1) (eqb count 0)))

-- "the eighth 1 only on structs"
abbrev pub named_form : ℕ → ℕ → Bool
named_form kind named = cond (eqb kind struct) (leb named 1) (eqb named 0)

-- "kind at most 20"; "name words 0 where the eighth is 0"
unfoldable pub formed : Row → Bool
formed row =
    leb row.kind opaque_pointer
    && (number_form row.kind row.number
    && (flag_form row.kind row.flag
    && (count_form row.kind row.count
    && (named_form row.kind row.named && (eqb row.len 0 || eqb row.named 1)))))

-- "a place is 0 where its count is 0"; "stretches inside their buffers and consecutive from 0 without gaps": behind fill of room
abbrev pub placed : ℕ → ℕ → ℕ → ℕ → Bool
placed place count fill room = eqb place (place_of count fill) && leb count (room - fill)
