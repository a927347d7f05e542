-- Document 01, "Samples (starred ones are proved)": the starred rows, in their order.
--     samples             words, the lengths of the lent outputs, the answer, and every word of every output
--     Right samples       each of them comes out so
-- Assumes nothing.
use Rattle.std.specs.Prelude.{◌≡◌, List, [], ◌∷◌, ℕ, Ok, Err}
use Rattle.table.specs.Buffers.{zeros}
use Rattle.records.specs.Answers.{refusal}
use Rattle.ferry.specs.Reader.{Lent, Outcome, outcome, whole_of}

pub record Sample : Type 0 where
  pub words : List ℕ
  pub lent : Lent
  pub result : Outcome

abbrev pub Right : List Sample → Type 0
Right [] = Unit {0}
Right (s ∷ ss) = (whole_of s.lent s.words ≡ s.result) × Right ss

abbrev lends : (rows refs names witness : ℕ) → Lent
lends rows refs names witness = record { rows = rows; refs = refs; names = names; witness = witness }

abbrev accepts : List ℕ → Lent → ℕ → (rows refs names ranks : List ℕ) → Sample
accepts ws lent entries rows refs names ranks = record { words = ws; lent = lent; result = outcome (Ok entries) rows refs names ranks }

-- a refusal: all outputs zero but the ring that it shows
abbrev refuses : List ℕ → Lent → (number place detail : ℕ) → (witness : List ℕ) → Sample
refuses ws lent number place detail witness =
    record {
      words = ws;
      lent = lent;
      result = outcome (Err (refusal number place detail)) (zeros lent.rows) (zeros lent.refs) (zeros lent.names) witness;
    }

abbrev pub samples : List Sample
samples =
    -- "(none)": "2, 0, 0"
    refuses [] (lends 8 1 1 1) 2 0 0 (0 ∷ [])
    -- "accepted, empty"
    ∷ accepts (1 ∷ 1 ∷ 0 ∷ []) (lends 0 0 0 0) 0 [] [] [] []
    -- "row 13 8 0 0 0 0 0 0, rank 0"; of two rows lent, the second stays 0
    ∷ accepts (1 ∷ 1 ∷ 1 ∷ 7 ∷ 1 ∷ 8 ∷ []) (lends 16 1 1 2) 1
    (13 ∷ 8 ∷ 0 ∷ 0 ∷ 0 ∷ 0 ∷ 0 ∷ 0 ∷ 0 ∷ 0 ∷ 0 ∷ 0 ∷ 0 ∷ 0 ∷ 0 ∷ 0 ∷ []) (0 ∷ []) (0 ∷ []) (0 ∷ 0 ∷ [])
    -- "accepted; 16777216 gives 12, 0, 16777216"
    ∷ accepts (1 ∷ 1 ∷ 1 ∷ 7 ∷ 1 ∷ 16777215 ∷ []) (lends 8 0 0 1) 1
    (13 ∷ 16777215 ∷ 0 ∷ 0 ∷ 0 ∷ 0 ∷ 0 ∷ 0 ∷ []) [] [] (0 ∷ [])
    ∷ refuses (1 ∷ 1 ∷ 1 ∷ 7 ∷ 1 ∷ 16777216 ∷ []) (lends 8 0 0 1) 12 0 16777216 (0 ∷ [])
    -- "references 1; ranks 1, 0"
    ∷ accepts (1 ∷ 1 ∷ 2 ∷ 8 ∷ 2 ∷ 1 ∷ 0 ∷ 7 ∷ 1 ∷ 32 ∷ []) (lends 16 1 0 2) 2
    (15 ∷ 0 ∷ 0 ∷ 0 ∷ 1 ∷ 0 ∷ 0 ∷ 0 ∷ 13 ∷ 32 ∷ 0 ∷ 0 ∷ 0 ∷ 0 ∷ 0 ∷ 0 ∷ []) (1 ∷ []) [] (1 ∷ 0 ∷ [])
    -- "19, 0, 1; ring 0"
    ∷ refuses (1 ∷ 1 ∷ 1 ∷ 8 ∷ 2 ∷ 0 ∷ 0 ∷ []) (lends 8 1 0 1) 19 0 1 (0 ∷ [])
    -- "13, 1, 0"
    ∷ refuses (1 ∷ 1 ∷ 2 ∷ 2 ∷ 0 ∷ 8 ∷ 2 ∷ 0 ∷ 0 ∷ []) (lends 16 1 0 2) 13 1 0 (0 ∷ 0 ∷ [])
    -- "row 16 0 1 0 1 0 2 1; names AB; ranks 1, 0"
    ∷ accepts (1 ∷ 1 ∷ 2 ∷ 18 ∷ 1 ∷ 1 ∷ 19 ∷ 1 ∷ 65 ∷ 19 ∷ 1 ∷ 66 ∷ 20 ∷ 2 ∷ 0 ∷ 1 ∷ 7 ∷ 1 ∷ 8 ∷ []) (lends 16 1 2 2) 2
    (16 ∷ 0 ∷ 1 ∷ 0 ∷ 1 ∷ 0 ∷ 2 ∷ 1 ∷ 13 ∷ 8 ∷ 0 ∷ 0 ∷ 0 ∷ 0 ∷ 0 ∷ 0 ∷ []) (1 ∷ []) (65 ∷ 66 ∷ []) (1 ∷ 0 ∷ [])
    -- "7, 2, 0"
    ∷ refuses (1 ∷ 1 ∷ 2 ∷ 20 ∷ 1 ∷ 0 ∷ 20 ∷ 1 ∷ 0 ∷ []) (lends 16 0 0 2) 7 2 0 (0 ∷ 0 ∷ [])
    -- "8, 1, 8388608"
    ∷ refuses (1 ∷ 1 ∷ 1 ∷ 25 ∷ 1 ∷ 8388608 ∷ []) (lends 8 0 0 1) 8 1 8388608 (0 ∷ [])
    ∷ []
