-- Document 01, "Resolution": "rows .. hold that many, every row is well formed as above", but for widths and kinds, which the second
-- pass judges.
--     row_ok rows words bytes e r k     the row of entry e is well formed behind r references and k name bytes
--     well_formed rows refs names n     so are the first n rows, their stretches consecutive from 0 without gaps
-- Assumes nothing.
use Rattle.std.specs.Prelude.{Bool, true, ◌&&◌, List, ℕ, zero, suc, ◌+◌, leb, length}
use Rattle.table.specs.Rows.{entry_room, row_at}
use Rattle.formed.specs.Form.{formed, placed}

-- 2026-07: and the ninth words rise
abbrev pub row_ok : List ℕ → ℕ → ℕ → ℕ → ℕ → ℕ → Bool
row_ok rows words bytes e r k =
    formed (row_at rows e)
    && (placed (row_at rows e).first (row_at rows e).count r words && placed (row_at rows e).start (row_at rows e).len k bytes)

unfoldable pub formed_from : List ℕ → ℕ → ℕ → ℕ → ℕ → ℕ → ℕ → Bool
formed_from rows words bytes zero e r k = true
formed_from rows words bytes (suc left) e r k =
    row_ok rows words bytes e r k && formed_from rows words bytes left (suc e) (r + (row_at rows e).count) (k + (row_at rows e).len)

unfoldable pub well_formed : List ℕ → List ℕ → List ℕ → ℕ → Bool
well_formed rows refs names n = leb n (entry_room (length rows)) && formed_from rows (length refs) (length names) n 0 0 0
