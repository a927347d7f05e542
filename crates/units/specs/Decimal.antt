-- Document 01, "Layout string": "Integers follow Rust's `parse`: one optional `+`, one or more digits, no overflow: u32 for
-- spaces and widths, u64 for sizes and alignments."
--     decimal most s     the bytes s as a number that is at most `most`
-- Assumes nothing.
use Rattle.std.specs.Prelude.{Bool, true, ◌&&◌, cond, List, [], ◌∷◌, ℕ, ◌+◌, ◌*◌, ◌-◌, eqb, leb, Option, Some, None}
use Rattle.laws.specs.Numbers.{within}

-- a digit is a byte from `0` (48) to `9` (57)
abbrev pub is_digit : ℕ → Bool
is_digit b = within 48 57 b

unfoldable pub all_digits : List ℕ → Bool
all_digits [] = true
all_digits (b ∷ bs) = is_digit b && all_digits bs

-- the number that digits write behind a number that stands already
unfoldable pub value_from : ℕ → List ℕ → ℕ
value_from value [] = value
value_from value (b ∷ bs) = value_from (value * 10 + (b - 48)) bs

-- "no overflow"
abbrev pub number_from : ℕ → ℕ → List ℕ → Option ℕ
number_from most value s = cond (all_digits s && leb (value_from value s) most) (Some (value_from value s)) None

-- "one or more digits"
unfoldable pub digits : ℕ → List ℕ → Option ℕ
digits most [] = None
digits most (b ∷ bs) = number_from most 0 (b ∷ bs)

-- "one optional `+`" (43)
unfoldable pub decimal : ℕ → List ℕ → Option ℕ
decimal most [] = None
decimal most (b ∷ bs) = cond (eqb b 43) (digits most bs) (digits most (b ∷ bs))

-- "u32 for spaces and widths, u64 for sizes and alignments"
abbrev pub u32_most : ℕ
u32_most = 4294967295

abbrev pub u64_most : ℕ
u64_most = 18446744073709551615
