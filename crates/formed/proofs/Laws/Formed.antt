-- Laws of specs/Formed.antt: the flat form of entries whose rows are formed is well formed.
--     FormedEntry x, Every es     the row of x is formed; so are those of es
-- Assumes nothing.
use mathlib.Core.Path.{◌≡◌, refl, ap}
use mathlib.Core.Bool.{true, ◌&&◌}
use mathlib.Core.List.{List, [], ◌∷◌, ◌++◌}
use Prim.Native.Nat.{ℕ, suc, ◌+◌, ◌≤◌}
use native.Mathlib.Omega.{arith}
use Rattle.std.proofs.lemmas.Bool.Decides.{nat_tests}
use lib.ListN.{length, length-append}
use borrow.Author.Tests.{le-leb}
use Rattle.laws.proofs.Told.{and_both}
use Rattle.table.specs.declared.row.Row.{Row}
use Rattle.table.specs.Entries.{Entry, bytes_of}
use Rattle.table.specs.Rows.{entry_room, row_at, place_of, row_of, rows_of, refs_of, names_of}
use Rattle.table.proofs.Laws.Rows.{length-rows_of}
use Rattle.table.proofs.Laws.Back.{Flat, Flat-row, Flat-next, Flat-whole}
use Rattle.formed.specs.Form.{formed, placed}
use Rattle.formed.specs.Formed.{formed_from, well_formed}

abbrev pub FormedEntry : Entry → Type 0
FormedEntry x = formed (row_of 0 0 x) ≡ true

abbrev pub Every : List Entry → Type 0
Every [] = Unit {0}
Every (x ∷ es) = FormedEntry x × Every es

placed-right : (count fill room : ℕ) → fill + count ≤ room → placed (place_of count fill) count fill room ≡ true
placed-right count fill room le = grind (arith, nat_tests)

-- the places of a row do not decide whether it is formed
row-right : (r n words bytes : ℕ) (x : Entry) (y : Row) → y ≡ row_of r n x → FormedEntry x → r + length x.form.refs ≤ words
    → n + length (bytes_of x.form.name) ≤ bytes
    → formed y && (placed y.first y.count r words && placed y.start y.len n bytes) ≡ true
unfolding formed
row-right r n words bytes x y is all in_refs in_names =
    rw (is, all, placed-right _ r words in_refs, placed-right _ n bytes in_names)

pub formed_from-flat : (es : List Entry) (e : ℕ) (p r n rows refs names : List ℕ) → Every es → Flat es e p r n rows refs names
    → (words bytes : ℕ)
    → length r + length (refs_of es) ≤ words → length n + length (names_of es) ≤ bytes
    → formed_from rows words bytes (length es) e (length r) (length n) ≡ true
unfolding formed_from refs_of names_of
formed_from-flat [] e p r n rows refs names all F words bytes in_refs in_names = refl
formed_from-flat (x ∷ es) e p r n rows refs names all F words bytes in_refs in_names =
    let rs = x.form.refs in
    let bs = bytes_of x.form.name in
    let row = Flat-row x es e p r n rows refs names F in
    let counted : (row_at rows e).count ≡ length rs = ap (λ (y : Row). y.count) row in
    let long : (row_at rows e).len ≡ length bs = ap (λ (y : Row). y.len) row in
    let a = length-append rs (refs_of es) in
    let b = length-append bs (names_of es) in
    let c = length-append r rs in
    let d = length-append n bs in
    let later = formed_from-flat es (suc e) _ (r ++ rs) (n ++ bs) rows refs names all.1 (Flat-next x es e p r n rows refs names F) words
    bytes (omega arith) (omega arith) in
    and_both _ _ (row-right (length r) (length n) words bytes x (row_at rows e) row all.0 (omega arith) (omega arith))
    (rw (counted, long, ← c, ← d) later)

pub well_formed-flat : (es : List Entry) (a b c : List ℕ) → Every es
    → well_formed (rows_of es ++ a) (refs_of es ++ b) (names_of es ++ c) (length es) ≡ true
unfolding well_formed
well_formed-flat es a b c all =
    let rows = rows_of es ++ a in
    let n = length-append (rows_of es) a in
    let m = length-rows_of es in
    let i = length-append (refs_of es) b in
    let j = length-append (names_of es) c in
    rw (le-leb (length es) (entry_room (length rows)) (omega arith))
    (formed_from-flat es 0 [] [] [] rows (refs_of es ++ b) (names_of es ++ c) all (Flat-whole es a b c) (length (refs_of es ++ b))
    (length (names_of es ++ c)) (omega arith) (omega arith))
