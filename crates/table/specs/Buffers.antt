-- Lent buffers as lists.
--     over xs l       l with xs laid over its front; what of xs goes past the end of l is lost
--     zeros n         n times 0
--     padded n xs     xs, then 0 up to n
--     low_bytes ws     the low byte of each word
-- Assumes nothing.
use Rattle.std.specs.Prelude.{List, [], ◌∷◌, ◌++◌, ℕ, ◌-◌, ◌%◌, length, take, drop, replicate}

unfoldable pub over : List ℕ → List ℕ → List ℕ
over xs l = take (length l) xs ++ drop (length xs) l

abbrev pub zeros : ℕ → List ℕ
zeros n = replicate n 0

unfoldable pub padded : ℕ → List ℕ → List ℕ
padded n xs = xs ++ zeros (n - length xs)

unfoldable pub low_bytes : List ℕ → List ℕ
low_bytes [] = []
low_bytes (w ∷ ws) = w % 256 ∷ low_bytes ws
