-- Laws of `ascii_up_to`: each goes down the string byte by byte, by whether a byte is ASCII.
--     first_of_both, first_from         the library's search for a byte that is the separator or not ASCII
--     ascii_up_to-le, -before, -at       where it ends, and what stands before and there
--     ascii_up_to-past                   behind bytes that are ASCII it goes on
--     ascii_up_to-le-up_to                it ends no later than a search for a byte that is not ASCII
-- Assumes nothing.
use mathlib.Core.Path.{◌≡◌, refl}
use mathlib.Core.Bool.{Bool, true, false, cond}
use mathlib.Core.List.{List, [], ◌∷◌}
use Prim.Native.Nat.{ℕ, zero, suc, ◌+◌, ◌≤◌, ◌<◌}
use native.Mathlib.Omega.{arith}
use lib.Dec.{eqb, ltb}
use lib.ListN.{length, get_or, take, drop}
use borrow.Author.Tests.{ltb-true, ltb-false, eqb-true}
use Rattle.std.proofs.Common.{◌||◌, not, min, position, unwrap_or, Option, ◌-◌, ◌∙◌}
use Rattle.std.proofs.lemmas.List.Recursion.{is_position_or_len}
use Rattle.std.specs.Char.{is_ascii}
use Rattle.std.proofs.lemmas.List.{drop_min}
use Rattle.laws.proofs.Rests.{rest_part}
use Rattle.fields.specs.Parts.{up_to, end_of}
use Rattle.datalayout.specs.Strings.{ascii_up_to}

pub ascii_up_to-le : (s : List ℕ) → ascii_up_to s ≤ length s
unfolding ascii_up_to
ascii_up_to-le [] = omega arith
ascii_up_to-le (byte ∷ bytes) = go (ltb byte 128) (ascii_up_to-le bytes)
  where
    go : (t : Bool) → ascii_up_to bytes ≤ length bytes → cond t (suc (ascii_up_to bytes)) 0 ≤ suc (length bytes)
    go true h = omega arith
    go false h = omega arith

-- the library's search for whichever comes first
pub first_of_both : (b : ℕ) (s : List ℕ)
    → unwrap_or (position (λ byte. eqb byte b || not (is_ascii byte)) s) (length s) ≡ min (up_to b s) (ascii_up_to s)
unfolding up_to ascii_up_to
first_of_both b s =
    let first = is_position_or_len (λ l. min (up_to b l) (ascii_up_to l)) (λ byte. eqb byte b || not (is_ascii byte)) refl step s in
    let within = ascii_up_to-le s in
    grind (arith, first, within)
  where
    step : (byte : ℕ) (bytes : List ℕ) → min (up_to b (byte ∷ bytes)) (ascii_up_to (byte ∷ bytes))
        ≡ cond (eqb byte b || not (is_ascii byte)) 0 (1 + min (up_to b bytes) (ascii_up_to bytes))
    step byte bytes = go (eqb byte b) (ltb byte 128)
      where
        go : (t u : Bool) → min (cond t 0 (suc (up_to b bytes))) (cond u (suc (ascii_up_to bytes)) 0)
            ≡ cond (t || not u) 0 (1 + min (up_to b bytes) (ascii_up_to bytes))
        go true u = omega arith
        go false true = omega arith
        go false false = omega arith

-- that search, in what is left of the string from `from` on
pub first_from : (b from m part : ℕ) (found : Option ℕ) (s : List ℕ) → m ≡ min from (length s)
    → found ≡ position (λ byte. eqb byte b || not (is_ascii byte)) (take (length s - m) (drop m s))
    → part ≡ unwrap_or found (length (take (length s - m) (drop m s)))
    → from + part ≡ min (end_of b s from) (from + ascii_up_to (drop from s))
first_from b from m part found s least search is =
    let rest : take (length s - m) (drop m s) ≡ drop from s = rest_part s m ∙ rw least (drop_min from s) in
    let first : part ≡ min (up_to b (drop from s)) (ascii_up_to (drop from s)) =
    is ∙ rw (search, rest) (first_of_both b (drop from s)) in
    omega arith

pub ascii_up_to-before : (s : List ℕ) (i : ℕ) → i < ascii_up_to s → get_or s i 0 < 128
unfolding ascii_up_to
ascii_up_to-before [] i lt = absurd (omega arith)
ascii_up_to-before (byte ∷ bytes) i lt = go (ltb byte 128) refl i lt (λ j h. ascii_up_to-before bytes j h)
  where
    go : (t : Bool) → ltb byte 128 ≡ t → (i : ℕ) → i < cond t (suc (ascii_up_to bytes)) 0
        → ((j : ℕ) → j < ascii_up_to bytes → get_or bytes j 0 < 128)
        → get_or (byte ∷ bytes) i 0 < 128
    go true e zero lt later = ltb-true byte 128 e
    go true e (suc j) lt later = later j (omega arith)
    go false e i lt later = absurd (omega arith)

pub ascii_up_to-at : (s : List ℕ) → ascii_up_to s < length s → 128 ≤ get_or s (ascii_up_to s) 0
unfolding ascii_up_to
ascii_up_to-at [] lt = absurd (omega arith)
ascii_up_to-at (byte ∷ bytes) lt = go (ltb byte 128) refl lt (λ h. ascii_up_to-at bytes h)
  where
    go : (t : Bool) → ltb byte 128 ≡ t → cond t (suc (ascii_up_to bytes)) 0 < suc (length bytes)
        → (ascii_up_to bytes < length bytes → 128 ≤ get_or bytes (ascii_up_to bytes) 0)
        → 128 ≤ get_or (byte ∷ bytes) (cond t (suc (ascii_up_to bytes)) 0) 0
    go true e h later = later (omega arith)
    go false e h later = ltb-false byte 128 e

pub ascii_up_to-past : (s : List ℕ) (n : ℕ) → n ≤ ascii_up_to s → ascii_up_to s ≡ n + ascii_up_to (drop n s)
unfolding ascii_up_to
ascii_up_to-past s zero h = omega arith
ascii_up_to-past [] (suc n) h = absurd (omega arith)
ascii_up_to-past (byte ∷ bytes) (suc n) h = go (ltb byte 128) h (λ k. ascii_up_to-past bytes n k)
  where
    go : (t : Bool) → suc n ≤ cond t (suc (ascii_up_to bytes)) 0
        → (n ≤ ascii_up_to bytes → ascii_up_to bytes ≡ n + ascii_up_to (drop n bytes))
        → cond t (suc (ascii_up_to bytes)) 0 ≡ suc n + ascii_up_to (drop n bytes)
    go true k later = omega (arith, later (omega arith))
    go false k later = absurd (omega arith)

pub ascii_up_to-le-up_to : (b : ℕ) (s : List ℕ) → 128 ≤ b → ascii_up_to s ≤ up_to b s
unfolding ascii_up_to up_to
ascii_up_to-le-up_to b [] h = omega arith
ascii_up_to-le-up_to b (byte ∷ bytes) h = go (ltb byte 128) (eqb byte b) refl refl (ascii_up_to-le-up_to b bytes h)
  where
    go : (t u : Bool) → ltb byte 128 ≡ t → eqb byte b ≡ u → ascii_up_to bytes ≤ up_to b bytes
        → cond t (suc (ascii_up_to bytes)) 0 ≤ cond u 0 (suc (up_to b bytes))
    go false u e f later = omega arith
    go true false e f later = omega arith
    go true true e f later = absurd (omega (arith, ltb-true byte 128 e, eqb-true byte b f))
