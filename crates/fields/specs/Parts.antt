-- Document 01, "Layout string": "Split at `-`"; "split at `:`".
--     parts_of b s       the parts of s between its b, one more than it has b
--     parts_left b rest  the parts behind the first
--     up_to b s          how many bytes stand before the first b
--     end_of b s from    where the part that starts at `from` ends
-- Assumes nothing.
use Rattle.std.specs.Prelude.{cond, List, [], ◌∷◌, ℕ, suc, ◌+◌, eqb, drop, Option, Some, None}

-- "-" and ":"
abbrev pub dash : ℕ
dash = 45

abbrev pub colon : ℕ
colon = 58

-- a byte before the first of some parts
abbrev pub before : ℕ → List (List ℕ) → List (List ℕ)
before byte [] = (byte ∷ []) ∷ []
before byte (part ∷ parts) = (byte ∷ part) ∷ parts

unfoldable pub parts_of : ℕ → List ℕ → List (List ℕ)
parts_of b [] = [] ∷ []
parts_of b (byte ∷ bytes) = cond (eqb byte b) ([] ∷ parts_of b bytes) (before byte (parts_of b bytes))

-- the parts of what is left behind a separator; none where no separator stands
abbrev pub parts_left : ℕ → Option (List ℕ) → List (List ℕ)
parts_left b None = []
parts_left b (Some rest) = parts_of b rest

unfoldable pub up_to : ℕ → List ℕ → ℕ
up_to b [] = 0
up_to b (byte ∷ bytes) = cond (eqb byte b) 0 (suc (up_to b bytes))

abbrev pub end_of : ℕ → List ℕ → ℕ → ℕ
end_of b s from = from + up_to b (drop from s)
