-- Document 01: the limits of widths and address spaces.
-- Assumes nothing.
use Rattle.std.specs.Prelude.{Bool, ℕ}
use Rattle.laws.specs.Numbers.{within}

-- "Integer width: 1 to 16,777,215." ("Allowed kinds")
abbrev pub max_int_bits : ℕ
max_int_bits = 16777215

abbrev pub is_integer_width : ℕ → Bool
is_integer_width width = within 1 max_int_bits width

-- the largest number of 23 bits, which limits the next two
abbrev pub max23_bits : ℕ
max23_bits = 8388607

-- "Address space: at most 8,388,607." ("Allowed kinds")
abbrev pub is_address_space : ℕ → Bool
is_address_space space = within 0 max23_bits space

-- "28 type width not in 1 to 8,388,607" ("Layout string")
abbrev pub is_type_width : ℕ → Bool
is_type_width width = within 1 max23_bits width
