-- Document 01, "Layout string": "Non-ASCII anywhere: 21 first, place its first such byte. Split at `-`; specs in order; later ones
-- override." "Otherwise place is the byte offset of the spec; detail is 0; the layout returned with a refusal is the default one."
--     ascii_up_to s                        how many bytes stand before the first that is not ASCII
--     specs_from layout place specs       the answer from a layout on, where the first of the specs stands at `place`
--     handed result                       the answer and the layout, by how the specs end
--     mapped s                           the answer to the string s, and the layout
-- Assumes nothing.
use Rattle.std.specs.Prelude.{cond, Result, Ok, Err, List, [], ◌∷◌, ℕ, suc, ◌+◌, ltb, length}
use Rattle.layout.specs.declared.record.DataLayout.{DataLayout}
use Rattle.layout.specs.Defaults.{default_layout}
use Rattle.fields.specs.declared.numbers.Fault.{Fault}
use Rattle.spec.specs.Edition.{specs_of}
use Rattle.spec.specs.Specs.{spec_in}
use Rattle.datalayout.specs.declared.error.Error.{Error}
use Rattle.datalayout.specs.declared.error.Error.TheVariants.{BadEncoding, Refused}
use Rattle.datalayout.specs.declared.map.Mapped.{Mapped}
use Rattle.datalayout.specs.Apply.{applied}

unfoldable pub ascii_up_to : List ℕ → ℕ
ascii_up_to [] = 0
ascii_up_to (byte ∷ bytes) = cond (ltb byte 128) (suc (ascii_up_to bytes)) 0

abbrev pub taken_with : DataLayout → Mapped
taken_with layout = record { answer = Ok tt; layout = layout }

-- "the layout returned with a refusal is the default one"
abbrev pub refused_with : Error → Mapped
refused_with error = record { answer = Err error; layout = default_layout }

abbrev pub handed : Result DataLayout Error → Mapped
handed (Ok layout) = taken_with layout
handed (Err error) = refused_with error

-- a spec's fault at its place, or what follows
abbrev pub onward : Result (Unit {0}) Fault → ℕ → Mapped → Mapped
onward (Ok done) place next = next
onward (Err fault) place next = refused_with (Refused fault place)

-- "specs in order": the next one stands behind this one and a dash
unfoldable pub specs_from : DataLayout → ℕ → List (List ℕ) → Mapped
specs_from layout place [] = taken_with layout
specs_from layout place (spec ∷ specs) =
    onward (applied layout (spec_in spec)).outcome place
    (specs_from (applied layout (spec_in spec)).layout (place + length spec + 1) specs)

unfoldable pub mapped : List ℕ → Mapped
mapped s =
    cond (ltb (ascii_up_to s) (length s)) (refused_with (BadEncoding (ascii_up_to s))) (specs_from default_layout 0 (specs_of s))
