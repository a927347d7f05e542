-- The rest of a slice that is lent as `&s[a..]`, as a list: what the callee gets, and what stands behind it, which is nothing.
-- Assumes nothing.
use mathlib.Core.Path.{◌≡◌}
use mathlib.Core.List.{List, []}
use Prim.Native.Nat.{ℕ, ◌-◌}
use native.Mathlib.Omega.{arith}
use lib.ListN.{length, take, drop, length-drop}
use lib.Seq.{take_all, drop-length}

pub rest_part : (l : List ℕ) (a : ℕ) → take (length l - a) (drop a l) ≡ drop a l
rest_part l a = take_all (length l - a) (drop a l) (simp length-drop (omega arith))

pub rest-none : (l : List ℕ) (a : ℕ) → drop (length l - a) (drop a l) ≡ []
rest-none l a = let e = length-drop a l in rw (← e) (drop-length (drop a l))
