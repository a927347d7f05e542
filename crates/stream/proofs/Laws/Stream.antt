-- Laws of specs/Stream.antt: what `record_at` finds at a place is the head of the stream there, so that a loop over the records of
-- the words goes down the stream.
-- Assumes nothing.
use mathlib.Core.Path.{◌≡◌, refl, sym, ap, ◌∙◌}
use mathlib.Core.Bool.{Bool, true, false, cond}
use mathlib.Core.List.{List, [], ◌∷◌, ◌++◌}
use Prim.Native.Nat.{ℕ, zero, suc, ◌+◌, ◌-◌, ◌≤◌, ◌<◌}
use native.Mathlib.Omega.{arith}
use lib.Dec.{leb}
use lib.ListN.{length, get_or, take, drop, length-append, length-drop, drop_of_length-le}
use lib.Seq.{drop-drop, length-take-le, take-append_seam, drop-append_seam}
use borrow.Author.Tests.{le-leb, lt-leb, leb-true}
use Rattle.std.proofs.Common.{Option, Some, None, Result, Ok, Err, option_map}
use Rattle.std.specs.List.{slice_range}
use Rattle.laws.proofs.Rests.{rest_part}
use Rattle.stream.specs.declared.Cut.{Cut}
use Rattle.stream.specs.declared.Record.{Record}
use Rattle.stream.specs.declared.Records.{Records}
use Rattle.stream.specs.Stream.{Stream, cut, rec, first, stream_in, stream, Read, whole, cut_at, found_in, record_at, records_in}
use Rattle.stream.specs.Stream.{records_of, read_of, LiesAt, Finds, left, framed}

-- more turns than words change nothing

first-same : (g h : List ℕ → Stream) (ws : List ℕ) → ((v : List ℕ) → length v < length ws → g v ≡ h v) → first g ws ≡ first h ws
first-same g h [] same = refl
first-same g h (c ∷ []) same = refl
first-same g h (c ∷ n ∷ ws) same = rw (same (drop n ws) (simp length-drop (omega arith)))

stream_in-same : (f g : ℕ) (ws : List ℕ) → length ws < f → length ws < g → stream_in f ws ≡ stream_in g ws
unfolding stream_in
stream_in-same zero g ws p q = absurd (omega arith)
stream_in-same (suc f) zero ws p q = absurd (omega arith)
stream_in-same (suc f) (suc g) ws p q =
    first-same (stream_in f) (stream_in g) ws (λ v lt. stream_in-same f g v (omega arith) (omega arith))

pub stream-first : (ws : List ℕ) → stream ws ≡ first stream ws
unfolding stream stream_in
stream-first ws =
    first-same (stream_in (length ws)) stream ws (λ v lt. stream_in-same (length ws) (suc (length v)) v lt (omega arith))

-- a whole record in front of whatever follows: what a reader of portions stands on (2026-04)
pub stream-record : (c n : ℕ) (fs vs : List ℕ) → length fs ≡ n → stream (c ∷ n ∷ (fs ++ vs)) ≡ rec c fs (stream vs)
stream-record c n fs vs e =
    stream-first (c ∷ n ∷ (fs ++ vs))
    ∙ rw (le-leb n (length (fs ++ vs)) (simp length-append (omega arith)), ← e, take-append_seam, drop-append_seam)

-- what stands at a place, by the words that are left there
module _ (ws : List ℕ) (at : ℕ) where
  pub record_at-past : length ws ≤ at → record_at ws at ≡ None
  unfolding record_at
  record_at-past past = rw (drop_of_length-le ws {i = at} past)

  module _ (vs : List ℕ) (is : vs ≡ slice_range ws at (length ws)) where
    found : record_at ws at ≡ found_in at vs
    unfolding record_at
    found = rw (is, rest_part ws at)

    pub record_at-end : length vs < 1 → record_at ws at ≡ None
    record_at-end h = found ∙ by vs h
      where
        by : (l : List ℕ) → length l < 1 → found_in at l ≡ None
        by [] h = refl
        by (c ∷ l) h = absurd (omega arith)

    pub record_at-lone : 1 ≤ length vs → length vs < 2 → record_at ws at ≡ Some (cut_at at)
    record_at-lone low high = found ∙ by vs low high
      where
        by : (l : List ℕ) → 1 ≤ length l → length l < 2 → found_in at l ≡ Some (cut_at at)
        by [] low high = absurd (omega arith)
        by (c ∷ []) low high = refl
        by (c ∷ n ∷ l) low high = absurd (omega arith)

    -- the words behind a record's code and count, as the code sees them
    abbrev behind : List ℕ
    behind = take (length vs - 2) (drop 2 vs)

    more : 2 ≤ length vs
        → record_at ws at ≡ Some (cond (leb (get_or vs 1 0) (length behind)) (whole (get_or vs 0 0) (take (get_or vs 1 0) behind)) (cut_at at))
    more h = found ∙ rw (rest_part vs 2) (by vs h)
      where
        by : (l : List ℕ) → 2 ≤ length l
            → found_in at l ≡ Some (cond (leb (get_or l 1 0) (length (drop 2 l))) (whole (get_or l 0 0) (take (get_or l 1 0) (drop 2 l))) (cut_at at))
        by [] h = absurd (omega arith)
        by (c ∷ []) h = absurd (omega arith)
        by (c ∷ n ∷ l) h = refl

    pub record_at-whole : 2 ≤ length vs → get_or vs 1 0 ≤ length behind → (fs : List ℕ) → fs ≡ slice_range behind 0 (get_or vs 1 0)
        → record_at ws at ≡ Some (whole (get_or vs 0 0) fs)
    record_at-whole h le fs e =
        let from : get_or vs 1 0 - 0 ≡ get_or vs 1 0 = omega arith in
        let all = e ∙ ap (λ (n : ℕ). take n behind) from in
        more h ∙ rw (le-leb (get_or vs 1 0) (length behind) le, all)

    pub fields-behind : (n : ℕ) → take (at + 2 + n - (at + 2)) (drop (at + 2) ws) ≡ slice_range behind 0 n
    fields-behind n =
        let count : at + 2 + n - (at + 2) ≡ n = omega arith in
        let from : n - 0 ≡ n = omega arith in
        rw (count, from, rest_part vs 2, is, rest_part ws at, drop-drop 2 at ws)

    pub record_at-cut : 2 ≤ length vs → length behind < get_or vs 1 0 → record_at ws at ≡ Some (cut_at at)
    record_at-cut h lt = more h ∙ rw (lt-leb (get_or vs 1 0) (length behind) lt)

-- the words and their place leave one answer, of an empty record too
pub Finds-one : (ws : List ℕ) (place : ℕ × ℕ) (at : ℕ) (x y : Option (Result Record Cut)) → Finds ws place at x → Finds ws place at y → x ≡ y
Finds-one ws place at x y f g = by x y (f.says ∙ sym g.says) f.lies g.lies
  where
    by : (x y : Option (Result Record Cut)) → option_map read_of x ≡ option_map read_of y → LiesAt place at x → LiesAt place at y → x ≡ y
    by None None e l m = refl
    by None (Some (Ok r)) e l m = absurd cc
    by None (Some (Err c)) e l m = absurd cc
    by (Some (Ok r)) None e l m = absurd cc
    by (Some (Err c)) None e l m = absurd cc
    by (Some (Ok r)) (Some (Err c)) e l m = absurd cc
    by (Some (Err c)) (Some (Ok r)) e l m = absurd cc
    by (Some (Err c)) (Some (Err d)) e l m = cc
    by (Some (Ok r)) (Some (Ok s)) e l m =
        let same : ◌≡◌ {A = Read} (record { code = r.code; fields = r.fields.now }) (record { code = s.code; fields = s.fields.now }) = cc in
        let code : r.code ≡ s.code = ap (λ (x : Read). x.code) same in
        let now : r.fields.now ≡ s.fields.now = ap (λ (x : Read). x.fields) same in
        let at_one : r.fields.ref_ptr ≡ s.fields.ref_ptr = l ∙ sym m in
        ap Some (ap Ok (rw (code, now, at_one)))

-- what is found at a place, and what is left there
module _ (ws : List ℕ) (at : ℕ) where
  abbrev after : ℕ → List (Result Read Cut)
  after place = records_in place (stream (drop place ws))

  abbrev Leads : Stream → Option (Result Read Cut) → Type 0
  Leads s None = records_in at s ≡ []
  Leads s (Some (Err c)) = (records_in at s ≡ Err c ∷ []) × (at < length ws)
  Leads s (Some (Ok r)) =
      (records_in at s ≡ Ok r ∷ after (at + 2 + length r.fields)) × (at + 2 + length r.fields ≤ length ws)

  within : (c n : ℕ) (vs : List ℕ) → c ∷ n ∷ vs ≡ drop at ws → (b : Bool) → leb n (length vs) ≡ b
      → Leads (cond b (rec c (take n vs) (stream (drop n vs))) cut) (Some (cond b (whole c (take n vs)) (cut_at at)))
  unfolding records_in
  within c n vs is true e =
      let le = leb-true n (length vs) e in
      let len : length (take n vs) ≡ n = length-take-le n vs le in
      let all : suc (suc (length vs)) ≡ length ws - at = ap length is ∙ length-drop at ws in
      let behind : vs ≡ drop (at + 2) ws = ap (drop 2) is ∙ drop-drop 2 at ws in
      let rest : drop n vs ≡ drop (at + 2 + n) ws = ap (drop n) behind ∙ drop-drop n (at + 2) ws in
      (rw (len, rest), omega arith)
  within c n vs is false e =
      let all : suc (suc (length vs)) ≡ length ws - at = ap length is ∙ length-drop at ws in
      (refl, omega arith)

  leads : (vs : List ℕ) → vs ≡ drop at ws → Leads (first stream vs) (found_in at vs)
  unfolding records_in
  leads [] is = refl
  leads (c ∷ []) is =
      let all : 1 ≡ length ws - at = ap length is ∙ length-drop at ws in
      (refl, omega arith)
  leads (c ∷ n ∷ vs) is = within c n vs is (leb n (length vs)) refl

  record_at-leads : Leads (stream (drop at ws)) (record_at ws at)
  unfolding record_at
  record_at-leads = rw (stream-first (drop at ws)) (leads (drop at ws) refl)

  abbrev lefts : List (Result Read Cut)
  lefts = records_in at (stream (drop at ws))

  pub left-none : record_at ws at ≡ None → records_in at (stream (drop at ws)) ≡ []
  left-none e = rw e at record_at-leads

-- a call of `next` that gives x
module _ (s : Records) (x : Result Record Cut) (is : record_at s.words.now s.at ≡ Some (read_of x)) where
  module _ (r : Record) (ok : x ≡ Ok r) where
    whole_leads : (left s ≡ read_of x ∷ after s.words.now s.at (s.at + 2 + length r.fields.now)) × (s.at + 2 + length r.fields.now ≤ length s.words.now)
    whole_leads = let l = record_at-leads s.words.now s.at in let e : record_at s.words.now s.at ≡ Some (whole r.code r.fields.now) = is ∙ rw ok in rw (ok) (rw e at l)

    pub next-within : s.at + (2 + length r.fields.now) ≤ length s.words.now
    next-within = let l = whole_leads.1 in omega arith

    pub next-whole : (t : Records) → t ≡ record { words = s.words; at = s.at + (2 + length r.fields.now) } → left s ≡ read_of x ∷ left t
    next-whole t e =
        let sum : s.at + (2 + length r.fields.now) ≡ s.at + 2 + length r.fields.now = omega arith in
        rw (e, sum) whole_leads.0

  module _ (c : Cut) (err : x ≡ Err c) where
    cut_leads : (left s ≡ read_of x ∷ []) × (s.at < length s.words.now)
    cut_leads = let l = record_at-leads s.words.now s.at in let e : record_at s.words.now s.at ≡ Some (Err c) = is ∙ rw err in rw (err) (rw e at l)

    pub next-before : s.at < length s.words.now
    next-before = cut_leads.1

    pub next-cut : (t : Records) → t ≡ record { words = s.words; at = length s.words.now } → left s ≡ read_of x ∷ left t
    unfolding records_in stream stream_in
    next-cut t e = rw (e, drop_of_length-le s.words.now {i = length s.words.now} (omega arith)) cut_leads.0

-- how many words the records take
abbrev pub words_in : List (Result Read Cut) → ℕ
words_in [] = 0
words_in (Ok r ∷ l) = 2 + length r.fields + words_in l
words_in (Err c ∷ l) = 0

words_in-fuel : (f at : ℕ) (ws : List ℕ) → words_in (records_in at (stream_in f ws)) ≤ length ws
unfolding records_in stream_in
words_in-fuel zero at ws = omega arith
words_in-fuel (suc f) at [] = omega arith
words_in-fuel (suc f) at (c ∷ []) = omega arith
words_in-fuel (suc f) at (c ∷ n ∷ ws) =
    by (leb n (length ws)) refl (words_in-fuel f (at + 2 + length (take n ws)) (drop n ws))
  where
    by : (b : Bool) → leb n (length ws) ≡ b
        → words_in (records_in (at + 2 + length (take n ws)) (stream_in f (drop n ws))) ≤ length (drop n ws)
        → words_in (records_in at (cond b (rec c (take n ws) (stream_in f (drop n ws))) cut)) ≤ suc (suc (length ws))
    by true e later =
        let le = leb-true n (length ws) e in
        omega (arith, length-take-le n ws le, length-drop n ws)
    by false e later = omega arith

pub words_in-le : (ws : List ℕ) → words_in (records_of ws) ≤ length ws
unfolding stream
words_in-le ws = words_in-fuel (suc (length ws)) 0 ws

-- Named in docs/TRACE.md: a record that is found at a place is the head of the stream there, and its fields lie behind its count.
module _ (ws : List ℕ) (at c : ℕ) (fs : List ℕ) where
  abbrev Heads : List ℕ → Type 0
  Heads vs =
      (first stream vs ≡ rec c fs (stream (drop (at + 2 + length fs) ws))) × (fs ≡ take (length fs) (drop (at + 2) ws))

  heads-by : (k n : ℕ) (vs : List ℕ) → k ∷ n ∷ vs ≡ drop at ws → (b : Bool) → leb n (length vs) ≡ b
      → Some (cond b (whole k (take n vs)) (cut_at at)) ≡ Some (whole c fs) → Heads (k ∷ n ∷ vs)
  heads-by k n vs is true e q =
      let same : ◌≡◌ {A = Read} (record { code = k; fields = take n vs }) (record { code = c; fields = fs }) = cc in
      let code : k ≡ c = ap (λ (x : Read). x.code) same in
      let fields : take n vs ≡ fs = ap (λ (x : Read). x.fields) same in
      let len : length fs ≡ n = rw fields at (length-take-le n vs (leb-true n (length vs) e)) in
      let behind : vs ≡ drop (at + 2) ws = ap (drop 2) is ∙ drop-drop 2 at ws in
      let rest : drop n vs ≡ drop (at + 2 + n) ws = ap (drop n) behind ∙ drop-drop n (at + 2) ws in
      (rw (e, len, fields, code, rest), rw (len, ← behind, fields))
  heads-by k n vs is false e q = absurd cc

  heads : (vs : List ℕ) → vs ≡ drop at ws → found_in at vs ≡ Some (whole c fs) → Heads vs
  heads [] is q = absurd cc
  heads (k ∷ []) is q = absurd cc
  heads (k ∷ n ∷ vs) is q = heads-by k n vs is (leb n (length vs)) refl q

  module _ (r : Option (Result Read Cut)) (is : r ≡ record_at ws at) (q : r ≡ Some (whole c fs)) where
    headed : Heads (drop at ws)
    unfolding record_at
    headed = heads (drop at ws) refl cc

    pub is-record : stream (drop at ws) ≡ rec c fs (stream (drop (at + 2 + length fs) ws))
    is-record = stream-first (drop at ws) ∙ headed.0

    pub lies : (fs ≡ take (length fs) (drop (at + 2) ws)) × (at + 2 + length fs ≤ length ws)
    lies = let found : record_at ws at ≡ Some (whole c fs) = sym is ∙ q in let l = record_at-leads ws at in (headed.1, (rw found at l).1)

    pub framed-next : framed at (stream (drop at ws)) ≡ framed (at + 2 + length fs) (stream (drop (at + 2 + length fs) ws))
    unfolding framed
    framed-next = rw is-record
