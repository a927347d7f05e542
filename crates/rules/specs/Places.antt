-- Document 01, "Allowed kinds", at a reference of an entry.
--     place_at kind i        the place of reference number i of an entry of the kind, if the table has a line for it
--     not_allowed place      that place's cell of the column "Not allowed"; no kind, where the table has no line
--     stands place k         kind k may stand there
--     suits kind i k        kind k may stand as reference number i of an entry of the kind
-- Assumes nothing.
use Rattle.std.specs.Prelude.{Bool, cond, [], ℕ, eqb, Option, Some, None}
use Rattle.laws.specs.Numbers.{within}
use Rattle.kinds.specs.Kinds.{function, pointer, struct, array, fixed_vector, scalable_vector}
use Rattle.kinds.specs.Places.{NotAllowed, these, allowed, pointee, array_element, struct_element, vector_element, returned, argument}
use Rattle.rules.specs.declared.Place.{Place}
use Rattle.rules.specs.declared.Place.TheVariants.{Pointee, ArrayElement, StructElement, VectorElement, Return, Argument}

-- "A function's references are its return, then its parameters."
unfoldable pub place_at : ℕ → ℕ → Option Place
place_at kind i =
    cond (eqb kind function) (Some (cond (eqb i 0) Return Argument))
    (cond (eqb kind pointer) (Some Pointee)
    (cond (eqb kind struct) (Some StructElement)
    (cond (eqb kind array) (Some ArrayElement)
    (cond (within fixed_vector scalable_vector kind) (Some VectorElement) None))))

-- a kind that has no references is in no line of the table, so that nothing is barred there
abbrev pub not_allowed : Option Place → NotAllowed
not_allowed (Some Pointee) = pointee
not_allowed (Some ArrayElement) = array_element
not_allowed (Some StructElement) = struct_element
not_allowed (Some VectorElement) = vector_element
not_allowed (Some Return) = returned
not_allowed (Some Argument) = argument
not_allowed None = these []

abbrev pub stands : Option Place → ℕ → Bool
stands place k = allowed (not_allowed place) k

abbrev pub suits : ℕ → ℕ → ℕ → Bool
suits kind i k = stands (place_at kind i) k
