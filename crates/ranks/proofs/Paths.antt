-- Paths and rings of a table: a path grows at its end, a ring is what follows an entry met again, and no ranks fall around it.
-- Assumes nothing.
use mathlib.Core.Path.{◌≡◌, refl, sym, ◌∙◌}
use mathlib.Core.Logic.{◌⊎◌, inl, inr}
use mathlib.Core.Bool.{Bool, true, false, cond}
use mathlib.Core.List.Memᴰ
use mathlib.Core.List.{List, [], ◌∷◌, ◌++◌, Memᴰ}
use Prim.Native.Nat.{ℕ, ◌≤◌, ◌<◌}
use native.Mathlib.Omega.{arith}
use lib.Dec.{eqb}
use lib.ListN.{length, get_or, set, replicate, length-set, length-replicate}
use lib.Seq.{get_or-set_other}
use borrow.Author.Tests.{eqb-true, eqb-false}
use Rattle.ranks.specs.Table.{Table, Each, Refers, Passes, Leads, Apart, IsRing, Fault}
use Rattle.ranks.specs.Walk.{from, unstarted}
use Rattle.ranks.proofs.Marks.{unstarted-begin, unstarted-le-length, getD-zeros}

pub each-of-mem : (P : ℕ → Type 0) (xs : List ℕ) → ((x : ℕ) → Memᴰ x xs → P x) → Each P xs
each-of-mem P [] h = tt
each-of-mem P (x ∷ xs) h = (h x (Memᴰ.head refl), each-of-mem P xs (λ y m. h y (Memᴰ.tail m)))

pub each_at : (P : ℕ → Type 0) {x : ℕ} {xs : List ℕ} → Memᴰ x xs → Each P xs → P x
each_at P (Memᴰ.head q) e = rw q e.0
each_at P (Memᴰ.tail m) e = each_at P m e.1

pub each_map : (P Q : ℕ → Type 0) (xs : List ℕ) → ((x : ℕ) → P x → Q x) → Each P xs → Each Q xs
each_map P Q [] f e = tt
each_map P Q (x ∷ xs) f e = (f x e.0, each_map P Q xs f e.1)

pub each_snoc : (P : ℕ → Type 0) (xs : List ℕ) {x : ℕ} → Each P xs → P x → Each P (xs ++ x ∷ [])
each_snoc P [] e h = (h, tt)
each_snoc P (y ∷ ys) e h = (e.0, each_snoc P ys e.1 h)

-- what the end of a path refers to; a path of no entries leads anywhere
abbrev pub Led : Table → List ℕ → ℕ → Type 0
Led t [] y = Unit {0}
Led t (x ∷ xs) y = Leads t x xs y

Leads-snoc : {t : Table} (x : ℕ) (xs : List ℕ) {e r : ℕ} → Leads t x xs e → Refers t e r → Leads t x (xs ++ e ∷ []) r
Leads-snoc x [] h k = (h, k)
Leads-snoc x (z ∷ zs) h k = (h.0, Leads-snoc z zs h.1 k)

pub Led-snoc : {t : Table} (p : List ℕ) {e r : ℕ} → Led t p e → Refers t e r → Led t (p ++ e ∷ []) r
Led-snoc [] h k = k
Led-snoc (x ∷ xs) h k = Leads-snoc x xs h k

Led-tail : (t : Table) (x : ℕ) (xs : List ℕ) (y : ℕ) → Leads t x xs y → Led t xs y
Led-tail t x [] y h = tt
Led-tail t x (z ∷ zs) y h = h.1

pub Apart-snoc : (p : List ℕ) {e : ℕ} → Apart p → (Memᴰ e p → ⊥) → Apart (p ++ e ∷ [])
Apart-snoc [] a h = (Memᴰ.not-nil, tt)
Apart-snoc (x ∷ xs) {e} a h = (λ m. apart (Memᴰ.append_cases xs m), Apart-snoc xs a.1 (λ m. h (Memᴰ.tail m)))
  where
    apart : Memᴰ x xs ⊎ Memᴰ x (e ∷ []) → ⊥
    apart (inl m) = a.0 m
    apart (inr m) = h (Memᴰ.head (sym (Memᴰ.eq_of_singleton m)))

pub ring-of-path : (t : Table) (e : ℕ) (p : List ℕ) → Memᴰ e p → Led t p e → Apart p → Each (λ x. x < t.count) p → IsRing t (from e p)
ring-of-path t e [] m h a i = absurd (Memᴰ.not-nil m)
ring-of-path t e (x ∷ xs) m h a i = go (eqb x e) refl (Memᴰ.cases_cons m) (λ n. ring-of-path t e xs n (Led-tail t x xs e h) a.1
    i.1)
  where
    go : (b : Bool) → eqb x e ≡ b → (e ≡ x) ⊎ Memᴰ e xs → (Memᴰ e xs → IsRing t (from e xs))
        → IsRing t (cond b (x ∷ xs) (from e xs))
    go true q c below = record { turns = rw (← eqb-true x e q) at h; apart = a; inside = i }
    go false q (inl c) below = absurd (eqb-false x e q (sym c))
    go false q (inr c) below = below c

-- different entries below n are at most n: begin them one after the other
apart-le-unstarted : (xs ms : List ℕ) → Apart xs → Each (λ x. x < length ms) xs → Each (λ x. get_or ms x 0 ≡ 0) xs → length xs ≤ unstarted ms
apart-le-unstarted [] ms a i z = omega arith
apart-le-unstarted (x ∷ xs) ms a i z =
    let begun = unstarted-begin ms x i.0 z.0 in
    let rest = apart-le-unstarted xs (set ms x 1) a.1 (simp length-set i.1)
    (each-of-mem (λ y. get_or (set ms x 1) y 0 ≡ 0) xs (λ y m. get_or-set_other ms x y 1 0 (λ q. a.0 (Memᴰ.cast (sym q) m)) ∙ each_at
    (λ y. get_or ms y 0 ≡ 0) m z.1)) in
    omega arith

pub ring-fits : (t : Table) (ring : List ℕ) → IsRing t ring → length ring ≤ t.count
ring-fits t ring r =
    let n : ℕ = t.count in
    let ms : List ℕ = replicate n 0 in
    let h = apart-le-unstarted ring ms r.apart (rw length-replicate r.inside) (each-of-mem (λ x. get_or ms x 0 ≡ 0) ring
    (λ x m. getD-zeros n x)) in
    omega (arith, h, unstarted-le-length ms, length-replicate {A = ℕ} n 0)

module _ {t : Table} {ranks : List ℕ} (ok : Passes t ranks) where
  Leads-falls : (x : ℕ) (xs : List ℕ) (y : ℕ) → x < t.count → Leads t x xs y → get_or ranks y 0 < get_or ranks x 0
  Leads-falls x [] y i h = ok.falls x y i h
  Leads-falls x (z ∷ zs) y i h =
      let f = ok.falls x z i h.0 in
      let g = Leads-falls z zs y ((ok.lawful x i).inside z h.0.listed) h.1 in
      omega arith

  pub ring-refutes-ranks : (ring : List ℕ) → IsRing t ring → ⊥
  ring-refutes-ranks [] r = r.turns
  ring-refutes-ranks (x ∷ xs) r = let f = Leads-falls x xs x r.inside.0 r.turns in omega arith

  pub fault-refutes-ranks : (n e r : ℕ) → Fault t n e r → ⊥
  fault-refutes-ranks n e r (inl h) = let i = (ok.lawful e h.entry).inside r h.listed in omega (arith, h.past)
  fault-refutes-ranks n e r (inr h) = let q = sym h.breaks ∙ (ok.lawful e h.entry).fine in let z : ◌≡◌ {A = ℕ} 0 1 = cc in omega arith
