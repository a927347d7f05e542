-- Words with zeros behind them: a word of them, a change of it, and that they are words laid over zeros.
-- Assumes nothing.
use mathlib.Core.Path.{◌≡◌, ◌∙◌}
use mathlib.Core.List.{List, ◌∷◌, ◌++◌, append_assoc}
use Prim.Native.Nat.{ℕ, ◌-◌, ◌≤◌}
use native.Mathlib.Omega.{arith}
use lib.ListN.{length, get_or, set, length-append}
use lib.Seq.{get_or_at, set_at}
use Rattle.table.specs.Buffers.{over, zeros, padded}
use Rattle.table.proofs.Laws.Buffers.{length-zeros, drop-zeros, over-fits}

pub padded-getD : (n k x : ℕ) (a c : List ℕ) → length a ≡ k → get_or (padded n (a ++ x ∷ c)) k 0 ≡ x
unfolding padded
padded-getD n k x a c e =
    rw (append_assoc a (x ∷ c) (zeros (n - length (a ++ x ∷ c)))) (get_or_at a x (c ++ zeros (n - length (a ++ x ∷ c))) 0 k e)

pub padded-set : (n k x y : ℕ) (a c : List ℕ) → length a ≡ k → set (padded n (a ++ x ∷ c)) k y ≡ padded n (a ++ y ∷ c)
unfolding padded
padded-set n k x y a c e =
    let long : length (a ++ x ∷ c) ≡ length (a ++ y ∷ c) = simp length-append in
    rw (long, append_assoc a (x ∷ c) (zeros (n - length (a ++ y ∷ c))), append_assoc a (y ∷ c) (zeros (n - length (a ++ y ∷ c))))
    (set_at a x (c ++ zeros (n - length (a ++ y ∷ c))) y k e)

pub over-zeros-padded : (n : ℕ) (ws : List ℕ) → length ws ≤ n → over ws (zeros n) ≡ padded n ws
unfolding padded
over-zeros-padded n ws h = over-fits ws (zeros n) (omega (arith, length-zeros n)) ∙ rw (drop-zeros (length ws) n)
