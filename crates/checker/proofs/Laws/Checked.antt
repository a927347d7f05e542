-- Laws of specs/Checked.antt.
-- Assumes nothing.
use Rattle.std.proofs.Common.{◌≡◌, ◌≤◌, ◌+◌, ◌-◌, ◌&&◌, true, length, refl, ℕ, suc, Bool, List, [], ◌∷◌, add-one, arith}
use borrow.Author.Tests.{le-leb}
use Rattle.std.proofs.lemmas.Bool.Decides.{nat_tests}
use Rattle.std.specs.List.{list_all, enumerate_from}
use Rattle.table.specs.declared.row.Row.{Row}
use Rattle.table.specs.Rows.{entry_room, row_at}
use Rattle.rules.specs.Lawful.{max_entries}
use Rattle.formed.specs.Form.{formed, placed}
use Rattle.formed.specs.Formed.{row_ok}
use Rattle.checker.specs.Checked.{every_from, entry_ok, rows_from, checked}

-- the test of each element with its number, as `enumerate` and `all` ask it
pub every_from-enumerate : (test : ℕ → ℕ → Bool) (i : ℕ) (xs : List ℕ)
    → list_all (λ (p : ℕ × ℕ). test p.0 p.1) (enumerate_from i xs) ≡ every_from test i xs
unfolding every_from
every_from-enumerate test i [] = refl
every_from-enumerate test i (x ∷ xs) = rw (add-one, every_from-enumerate test (suc i) xs)

-- the loop: what is left of the rows answers what all of them answer, and the stretches passed lie in their buffers
pub record Checking (rows refs : List ℕ) (name_room : ℕ) (ranks : List ℕ) (n e r k : ℕ) : Type 0 where
  pub refs_used : r ≤ length refs
  pub names_used : k ≤ name_room
  pub rest : rows_from rows refs name_room ranks n n 0 0 0 ≡ rows_from rows refs name_room ranks n (n - e) e r k

-- a good row's stretches end in their buffers
pub entry_ok-fits : (rows refs : List ℕ) (name_room : ℕ) (ranks : List ℕ) (n e r k : ℕ) → Checking rows refs name_room ranks n e r k
    → entry_ok rows refs name_room ranks n e r k ≡ true
    → (r + (row_at rows e).count ≤ length refs) × (k + (row_at rows e).len ≤ name_room)
entry_ok-fits rows refs name_room ranks n e r k h ok = (grind (arith, nat_tests), grind (arith, nat_tests))

-- Named in docs/TRACE.md: what a good row says of its stretches, the row read word by word, and the answer where the counts are in order.
pub record Fits (rows : List ℕ) (words bytes e r k : ℕ) : Type 0 where
  pub inside : (row_at rows e).first + (row_at rows e).count ≤ words
  pub refs : r + (row_at rows e).count ≤ words
  pub names : k + (row_at rows e).len ≤ bytes

pub row_ok-fits : (rows : List ℕ) (words bytes e r k : ℕ) → r ≤ words → k ≤ bytes → row_ok rows words bytes e r k ≡ true
    → Fits rows words bytes e r k
row_ok-fits rows words bytes e r k u v h =
    record { inside = grind (arith, nat_tests); refs = grind (arith, nat_tests); names = grind (arith, nat_tests) }

pub row_ok-is : (rows : List ℕ) (e : ℕ) (row : Row) → row ≡ row_at rows e → (words bytes r k : ℕ) (f p q : Bool) → f ≡ formed row
    → p ≡ placed row.first row.count r words → q ≡ placed row.start row.len k bytes → f && (p && q) ≡ row_ok rows words bytes e r k
row_ok-is rows e row is_row words bytes r k f p q is_f is-p is-q = rw (is_f, is-p, is-q, is_row)

pub checked-rows : (rows refs names ranks : List ℕ) (n : ℕ) → n ≤ max_entries → n ≤ entry_room (length rows) → n ≤ length ranks
    → checked rows refs names ranks n ≡ rows_from rows refs (length names) ranks n n 0 0 0
unfolding checked
checked-rows rows refs names ranks n a b c = rw (le-leb n max_entries a, le-leb n (entry_room (length rows)) b, le-leb n (length ranks) c)
