-- Document 01, "Layout string": "At most .. 16 widths, 16 non-integral spaces".
--     no_numbers         the empty list
--     pushed list n     the list with n behind it, where there is room
-- Assumes nothing.
use Rattle.std.specs.Prelude.{cond, ℕ, ◌+◌, ltb, set, replicate}
use Rattle.layout.specs.declared.numbers.Numbers.{Numbers}

abbrev pub max_numbers : ℕ
max_numbers = 16

abbrev pub no_numbers : Numbers
no_numbers = record { items = replicate max_numbers 0; count = 0 }

abbrev pub pushed : Numbers → ℕ → Numbers
pushed list n =
    cond (ltb list.count max_numbers)
    (record { items = set list.items list.count n; count = list.count + 1 })
    list
