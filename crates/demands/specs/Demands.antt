-- The three demands for the whole reader. `Reads words lent a rows refs names w` is the contract of `ferry::read::read_table`, which
-- answers a and leaves the outputs rows, refs, names and the witness w.
--     Zeroed         demand 1: what a refusal leaves
--     Tied           demand 2: what acceptance hands back is the flat form of what the records say
--     Reader3        once the records have passed as es: what demand 3 says of the answer and of the witness;  Demanded  it does
--     OneAnswer      no second answer and no other outputs fit the contract of any public function
-- Assumes nothing.
use Rattle.std.specs.Prelude.{◌≡◌, List, ℕ, length, Ok, Err}
use Rattle.units.specs.declared.refusal.Refusal.{Refusal}
use Rattle.table.specs.Buffers.{zeros, padded}
use Rattle.table.specs.Entries.{Entry}
use Rattle.table.specs.Rows.{rows_of, refs_of, names_of}
use Rattle.lookup.specs.Names.{IsName}
use Rattle.records.specs.Promises as records
use Rattle.records.specs.Read.{reading, room_of}
use Rattle.walk.specs.Answers.{Paper, cycle}
use Rattle.resolve.specs.Promises as resolve
use Rattle.resolve.specs.Promises.{Demand3}
use Rattle.ferry.specs.Answers.{Answer, on_paper}
use Rattle.ferry.specs.Reader.{Lent, Reads}

-- demand 1: "A refusal .. zeroes every lent output but a shown ring."
abbrev pub Zeroed : Type 0
Zeroed =
    (words : List ℕ) (lent : Lent) (refusal : Refusal) (rows refs names w : List ℕ)
    → Reads words lent (Err refusal) rows refs names w
    → (rows ≡ zeros lent.rows) × (refs ≡ zeros lent.refs) × (names ≡ zeros lent.names)
    × ((refusal.number ≡ cycle → ⊥) → w ≡ zeros lent.witness)

-- the records say the entries es, n of them, and the outputs hold their flat form with zeros behind it
pub record Flattened (words : List ℕ) (lent : Lent) (n : ℕ) (rows refs names : List ℕ) : Type 0 where
  pub entries : List Entry
  pub passed : reading (room_of lent.rows lent.refs lent.names lent.witness) words ≡ Ok entries
  pub counted : n ≡ length entries
  pub rows_are : rows ≡ padded lent.rows (rows_of entries)
  pub refs_are : refs ≡ padded lent.refs (refs_of entries)
  pub names_are : names ≡ padded lent.names (names_of entries)

-- demand 2: "Ranks alone don't tie rows to records; demand 2 does."
abbrev pub Tied : Type 0
Tied =
    (words : List ℕ) (lent : Lent) (n : ℕ) (rows refs names w : List ℕ) → Reads words lent (Ok n) rows refs names w
    → Flattened words lent n rows refs names

-- the answer a is a verdict on the flat form of es, and demand 3 holds of the verdict and of the witness w
pub record Reader3 (lent : Lent) (es : List Entry) (a : Answer) (w : List ℕ) : Type 0 where
  pub verdict : Paper
  pub answers : a ≡ on_paper (length es) verdict
  pub demand-3 : Demand3 (padded lent.rows (rows_of es)) (padded lent.refs (refs_of es)) (padded lent.names (names_of es)) (length es)
      lent.witness verdict w

-- "Once the records have passed and their count agrees, the table is accepted exactly if some list of ranks passes a separate checker"
abbrev pub Demanded : Type 0
Demanded =
    (words : List ℕ) (lent : Lent) (es : List Entry) (a : Answer) (rows refs names w : List ℕ)
    → reading (room_of lent.rows lent.refs lent.names lent.witness) words ≡ Ok es → Reads words lent a rows refs names w
    → Reader3 lent es a w

-- `lookup::name`: its bytes and its place
abbrev pub NameDetermined : Type 0
NameDetermined =
    (rows : List ℕ) (e : ℕ) (names : List ℕ) (at : ℕ × ℕ) (part other : List ℕ) (place elsewhere : ℕ × ℕ)
    → IsName rows e names at part place → IsName rows e names at other elsewhere
    → (part ≡ other) × (place.0 ≡ elsewhere.0) × (place.1 ≡ elsewhere.1)

-- `ferry::read::read_table`: its answer and its four outputs
abbrev pub TableDetermined : Type 0
TableDetermined =
    (words : List ℕ) (lent : Lent) (a b : Answer) (r s f g m n w v : List ℕ) → Reads words lent a r f m w → Reads words lent b s g n v
    → (a ≡ b) × (r ≡ s) × (f ≡ g) × (m ≡ n) × (w ≡ v)

-- "Each public answer, with every output after it, is determined for all inputs; show that no second answer fits"
pub record OneAnswer : Type 1 where
  pub read_table : TableDetermined
  -- `records::read::read`
  pub read : records.Determined
  -- `walk::walk::resolve`
  pub resolve : (rows refs : List ℕ) (n room : ℕ) → resolve.Determined rows refs n room
  pub name : NameDetermined
  -- every other public function: its contract is one equation, of the answer or of the output, with a definition d of its inputs
  pub equation : {A : Type 0} (d a b : A) → a ≡ d → b ≡ d → a ≡ b
