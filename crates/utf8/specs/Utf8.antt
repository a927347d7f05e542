-- The Unicode Standard, table 3-7, "Well-Formed UTF-8 Byte Sequences".
--     Range             the bytes from first to last;  follower: 80..BF, which stand behind a first byte;  nowhere: none
--     Sequence          a row of the table: the range of its first byte, and those of the bytes behind it
--     rest_of rows b     the ranges of the bytes behind the first byte b; where b starts no row, a byte that is nowhere
--     pays rs s         s has bytes in the ranges rs, and then whole sequences to its end
--     is_utf8 s          s is a run of whole sequences
--     owing o           what o says is owed, as ranges; where it says that nothing can follow, a byte that is nowhere
-- Assumes nothing.
use Rattle.std.specs.Prelude.{Bool, true, false, cond, ◌&&◌, List, [], ◌∷◌, ℕ, zero, suc, replicate, Option, None, Some}
use Rattle.laws.specs.Numbers.{within}
use Rattle.utf8.specs.declared.Owed.{Owed}

pub record Range : Type 0 where
  pub first : ℕ
  pub last : ℕ

abbrev pub range : ℕ → ℕ → Range
range a b = record { first = a; last = b }

abbrev pub follower : Range
follower = range 128 191

abbrev pub nowhere : Range
nowhere = range 1 0

pub record Sequence : Type 0 where
  pub lead : Range
  pub rest : List Range

abbrev row : Range → List Range → Sequence
row r rs = record { lead = r; rest = rs }

abbrev pub sequences : List Sequence
sequences =
    row (range 0 127) []  -- 00..7F
    ∷ row (range 194 223) (follower ∷ [])  -- C2..DF  80..BF
    ∷ row (range 224 224) (range 160 191 ∷ follower ∷ [])  -- E0  A0..BF  80..BF
    ∷ row (range 225 236) (follower ∷ follower ∷ [])  -- E1..EC  80..BF  80..BF
    ∷ row (range 237 237) (range 128 159 ∷ follower ∷ [])  -- ED  80..9F  80..BF
    ∷ row (range 238 239) (follower ∷ follower ∷ [])  -- EE..EF  80..BF  80..BF
    ∷ row (range 240 240) (range 144 191 ∷ follower ∷ follower ∷ [])  -- F0  90..BF  80..BF  80..BF
    ∷ row (range 241 243) (follower ∷ follower ∷ follower ∷ [])  -- F1..F3  80..BF  80..BF  80..BF
    ∷ row (range 244 244) (range 128 143 ∷ follower ∷ follower ∷ [])  -- F4  80..8F  80..BF  80..BF
    ∷ []

abbrev pub in_range : Range → ℕ → Bool
in_range r b = within r.first r.last b

abbrev pub rest_of : List Sequence → ℕ → List Range
rest_of [] b = nowhere ∷ []
rest_of (s ∷ rows) b = cond (in_range s.lead b) s.rest (rest_of rows b)

unfoldable pub pays : List Range → List ℕ → Bool
pays [] [] = true
pays (r ∷ rs) [] = false
pays [] (b ∷ s) = pays (rest_of sequences b) s
pays (r ∷ rs) (b ∷ s) = in_range r b && pays rs s

abbrev pub is_utf8 : List ℕ → Bool
is_utf8 s = pays [] s

abbrev ranges : ℕ → Range → List Range
ranges zero r = []
ranges (suc n) r = r ∷ replicate n follower

abbrev pub owing : Option Owed → List Range
owing None = nowhere ∷ []
owing (Some o) = ranges o.left (range o.low o.high)
