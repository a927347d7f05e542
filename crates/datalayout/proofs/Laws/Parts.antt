-- Laws of the parts of a string: they join to the string, and the one behind some others stands at their offset.
-- Assumes nothing.
use mathlib.Core.Path.{◌≡◌, refl, ap, ◌∙◌}
use mathlib.Core.Bool.{Bool, true, false, cond}
use mathlib.Core.List.{List, [], ◌∷◌, ◌++◌}
use Prim.Native.Nat.{ℕ, suc, ◌+◌}
use native.Mathlib.Omega.{arith}
use lib.Dec.{eqb}
use lib.ListN.{length, take, drop}
use lib.Seq.{drop-append-add, take-append_seam, take-length}
use borrow.Author.Tests.{eqb-true}
use Rattle.fields.specs.Parts.{before, parts_of}
use Rattle.datalayout.specs.Promises.{joined, offset, Each}

-- what a byte does to the first part, it does to the string
joined-before : (b byte : ℕ) (part : List ℕ) (parts : List (List ℕ)) → joined b (before byte (part ∷ parts))
    ≡ byte ∷ joined b (part ∷ parts)
joined-before b byte part [] = refl
joined-before b byte part (next ∷ parts) = refl

-- there is a first part
parts_of-cons : (P : List (List ℕ) → Type 0) → ((part : List ℕ) (parts : List (List ℕ)) → P (part ∷ parts)) → (b : ℕ) (s : List ℕ)
    → P (parts_of b s)
unfolding parts_of
parts_of-cons P h b [] = h [] []
parts_of-cons P h b (byte ∷ bytes) =
    go (eqb byte b) (parts_of-cons (λ ps. P (before byte ps)) (λ part parts. h (byte ∷ part) parts) b bytes)
  where
    go : (t : Bool) → P (before byte (parts_of b bytes)) → P (cond t ([] ∷ parts_of b bytes) (before byte (parts_of b bytes)))
    go true k = h [] (parts_of b bytes)
    go false k = k

pub joined-parts_of : (b : ℕ) (s : List ℕ) → joined b (parts_of b s) ≡ s
unfolding parts_of
joined-parts_of b [] = refl
joined-parts_of b (byte ∷ bytes) = go (eqb byte b) refl (joined-parts_of b bytes)
  where
    go : (t : Bool) → eqb byte b ≡ t → joined b (parts_of b bytes) ≡ bytes
        → joined b (cond t ([] ∷ parts_of b bytes) (before byte (parts_of b bytes))) ≡ byte ∷ bytes
    go true e ih =
        rw (eqb-true byte b e)
        (parts_of-cons (λ ps. joined b ps ≡ bytes → joined b ([] ∷ ps) ≡ b ∷ bytes)
        (λ part parts h. ap (λ (l : List ℕ). b ∷ l) h) b bytes ih)
    go false e ih =
        parts_of-cons (λ ps. joined b ps ≡ bytes → joined b (before byte ps) ≡ byte ∷ bytes)
        (λ part parts h. joined-before b byte part parts ∙ ap (λ (l : List ℕ). byte ∷ l) h) b bytes ih

-- no part has the separator
pub parts_of-clean : (b : ℕ) (s : List ℕ) → Each (λ part. Each (λ byte. eqb byte b ≡ false) part) (parts_of b s)
unfolding parts_of
parts_of-clean b [] = (tt, tt)
parts_of-clean b (byte ∷ bytes) = go (eqb byte b) refl (parts_of-clean b bytes)
  where
    go : (t : Bool) → eqb byte b ≡ t → Each (λ part. Each (λ byte. eqb byte b ≡ false) part) (parts_of b bytes)
        → Each (λ part. Each (λ byte. eqb byte b ≡ false) part) (cond t ([] ∷ parts_of b bytes) (before byte (parts_of b bytes)))
    go true e ih = (tt, ih)
    go false e ih =
        parts_of-cons
        (λ ps. Each (λ part. Each (λ byte. eqb byte b ≡ false) part) ps
        → Each (λ part. Each (λ byte. eqb byte b ≡ false) part) (before byte ps))
        (λ part parts h. ((e, h.0), h.1))
        b bytes ih

-- past a part and the separator behind it
past : (b : ℕ) (xs ys : List ℕ) (n : ℕ) → drop (length xs + 1 + n) (xs ++ b ∷ ys) ≡ drop n ys
past b xs ys n = let e : length xs + 1 + n ≡ length xs + suc n = omega arith in rw e (drop-append-add xs (b ∷ ys) (suc n))

-- the part behind `earlier` stands at their offset
pub joined_at : (b : ℕ) (earlier : List (List ℕ)) (part : List ℕ) (later : List (List ℕ))
    → take (length part) (drop (offset earlier) (joined b (earlier ++ part ∷ later))) ≡ part
joined_at b [] part [] = take-length part
joined_at b [] part (next ∷ later) = take-append_seam part (b ∷ joined b (next ∷ later))
joined_at b (first ∷ []) part later = rw (past b first (joined b (part ∷ later)) 0) (joined_at b [] part later)
joined_at b (first ∷ second ∷ earlier) part later =
    rw (past b first (joined b (second ∷ earlier ++ part ∷ later)) (offset (second ∷ earlier)))
    (joined_at b (second ∷ earlier) part later)

-- in the terms of the string
pub parts_of-stands : (b : ℕ) (s : List ℕ) (earlier : List (List ℕ)) (part : List ℕ) (later : List (List ℕ)) (place : ℕ)
    → parts_of b s ≡ earlier ++ part ∷ later → place ≡ offset earlier → take (length part) (drop place s) ≡ part
parts_of-stands b s earlier part later place split at =
    let whole : joined b (earlier ++ part ∷ later) ≡ s = rw (← split) (joined-parts_of b s) in
    rw at (rw whole at (joined_at b earlier part later))
