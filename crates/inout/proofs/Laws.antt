-- What reads in a row have given, and where it lies in the buffer.
--     Consumes-first, Consumes-then    nothing was read; one read behind another
--     placed-within, Consumes-placed   what was read behind a front lies behind it
-- Assumes nothing.
use Rattle.std.proofs.Common.{◌≡◌, ℕ, ◌+◌, ◌≤◌, List, [], ◌++◌, Option, None, Some, length, take, refl, sym, ap, subst, ◌∙◌, arith, length-append}
use Rattle.std.proofs.lemmas.List.{append_assoc, take-append-le}
use Rattle.std.proofs.Math.Seq.{take-append-add}
use Rattle.std.specs.Io.KnownBytes.{Consumes}

pub Consumes-first : (a : Option (List ℕ)) → Consumes a a []
Consumes-first None = tt
Consumes-first (Some xs) = refl

pub Consumes-then : (a b c : Option (List ℕ)) (bs cs : List ℕ) → Consumes a b bs → Consumes b c cs → Consumes a c (bs ++ cs)
Consumes-then None b c bs cs h k = tt
Consumes-then (Some xs) None c bs cs h k = absurd h
Consumes-then (Some xs) (Some ys) None bs cs h k = k
Consumes-then (Some xs) (Some ys) (Some zs) bs cs h k = h ∙ ap (λ (l : List ℕ). bs ++ l) k ∙ sym (append_assoc bs cs zs)

pub placed-within : (front part rest : List ℕ) (f n : ℕ) → length front ≡ f → n ≤ length part → f + n ≤ length (front ++ (part ++ rest))
placed-within front part rest f n long fits =
    omega (arith, length-append front (part ++ rest), length-append part rest)

pub Consumes-placed : (a b c : Option (List ℕ)) (front part rest : List ℕ) (f n m : ℕ) → length front ≡ f → n ≤ length part → m ≡ f + n
    → Consumes a b front → Consumes b c (take n part) → Consumes a c (take m (front ++ (part ++ rest)))
Consumes-placed a b c front part rest f n m long fits e h k =
    let all = front ++ (part ++ rest) in
    let is : take m all ≡ front ++ take n part =
    ap (λ (i : ℕ). take i all) (e ∙ ap (λ (i : ℕ). i + n) (sym long)) ∙ take-append-add front (part ++ rest) n
    ∙ ap (λ (l : List ℕ). front ++ l) (take-append-le n part rest fits) in
    subst (Consumes a c) (sym is) (Consumes-then a b c front (take n part) h k)
