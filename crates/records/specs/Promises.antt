-- What the first pass promises besides its contract, of the definition that the contract cites.
--     Determined     no second answer and no other outputs fit the contract
--     ReadsBack      the outputs, read back, are the entries
--     RowsFormed     the rows are as the checker will ask for, but for widths, kinds and the range of references
--     InRoom         there are no more entries, references and name bytes than there was room for
--     MoreRoom       more room never changes an answer other than 9
--     EnoughRoom     what is refused with 9 is not refused so with room enough
-- Assumes nothing.
use Rattle.std.specs.Prelude.{◌≡◌, true, ◌⊎◌, List, ℕ, ◌≤◌, length, Result, Ok, Err}
use Rattle.table.specs.Entries.{Entry}
use Rattle.table.specs.Rows.{refs_of, names_of}
use Rattle.table.specs.Back.{entries_from}
use Rattle.shapes.specs.declared.Fault.TheVariants.{NoRoom}
use Rattle.formed.specs.Formed.{well_formed}
use Rattle.records.specs.declared.Error.{Error}
use Rattle.records.specs.declared.Error.TheVariants.{BadRecord}
use Rattle.records.specs.Table.{Room}
use Rattle.records.specs.Read.{reading, output, shown, read_into}

pub record Larger (a b : Room) : Type 0 where
  pub entries : a.entries ≤ b.entries
  pub refs : a.refs ≤ b.refs
  pub names : a.names ≤ b.names

-- a refusal with 9, at some record
abbrev pub NineIn : Room → List ℕ → Type 0
NineIn room ws = (number : ℕ) × (reading room ws ≡ Err (BadRecord number NoRoom))

-- "Each public answer, with every output after it, is determined for all inputs"
abbrev pub Determined : Type 0
Determined =
    (words rows refs names : List ℕ) (witness : ℕ) (a b : Result ℕ Error) (r s f g m n : List ℕ)
    → output a r f m ≡ read_into words rows refs names witness → output b s g n ≡ read_into words rows refs names witness
    → (a ≡ b) × (r ≡ s) × (f ≡ g) × (m ≡ n)

-- "reading back the flat form gives the entries again"
abbrev pub ReadsBack : Type 0
ReadsBack =
    (room : Room) (ws : List ℕ) (es : List Entry) (r f n : ℕ) → reading room ws ≡ Ok es
    → entries_from (shown r f n (Ok es)).rows (shown r f n (Ok es)).refs (shown r f n (Ok es)).names 0 (length es) ≡ es

abbrev pub RowsFormed : Type 0
RowsFormed =
    (room : Room) (ws : List ℕ) (es : List Entry) (r f n : ℕ) → reading room ws ≡ Ok es
    → well_formed (shown r f n (Ok es)).rows (shown r f n (Ok es)).refs (shown r f n (Ok es)).names (length es) ≡ true

abbrev pub InRoom : Type 0
InRoom =
    (room : Room) (ws : List ℕ) (es : List Entry) → reading room ws ≡ Ok es
    → (length es ≤ room.entries) × (length (refs_of es) ≤ room.refs) × (length (names_of es) ≤ room.names)

abbrev pub MoreRoom : Type 0
MoreRoom = (a b : Room) (ws : List ℕ) → Larger a b → (reading a ws ≡ reading b ws) ⊎ NineIn a ws

abbrev pub EnoughRoom : Type 0
EnoughRoom = (ws : List ℕ) → (room : Room) × ((b : Room) → Larger room b → NineIn b ws → ⊥)
