-- Laws of specs/Fill.antt against specs/Values.antt: the deed that is decided by value is the deed on the entries.
--     FitsDeed d f n        what d puts fits
--     Does t fs d deed      the code's deed d is the deed, where the table is t and the record has the fields fs; a refusal is one
-- Assumes nothing.
use mathlib.Core.Path.{◌≡◌, refl, sym, ap, ◌∙◌}
use mathlib.Core.Bool.{Bool, true, false, cond, ◌||◌}
use mathlib.Core.List.{List, [], ◌∷◌, ◌++◌, append-nil}
use Prim.Native.Nat.{ℕ, suc, ◌+◌, ◌-◌, ◌≤◌}
use native.Mathlib.Omega.{arith}
use lib.Dec.{ltb}
use lib.ListN.{length, take, drop, length-append, length-drop}
use lib.Seq.{length-take-le}
use borrow.Author.Tests.{ltb-false}
use Rattle.laws.proofs.Told.{no, or-told}
use Rattle.table.specs.Entries.{Name, unnamed, called, Form, Entry, bytes_of}
use Rattle.table.specs.Rows.{words_of, row_of, rows_of, refs_of, names_of}
use Rattle.table.proofs.Laws.Rows.{rows_of-snoc, refs_of-snoc, names_of-snoc}
use Rattle.shapes.specs.declared.Head.{Head}
use Rattle.std.proofs.Common.{Result, Ok, Err}
use Rattle.shapes.specs.declared.Fault.{Fault}
use Rattle.shapes.specs.declared.Fault.TheVariants.{AlreadyFilled}
use Rattle.shapes.specs.declared.Shape.{Shape}
use Rattle.shapes.specs.declared.Shape.TheVariants as says
use Rattle.shapes.proofs.Laws.Shapes.{last_field}
use Rattle.records.specs.declared.Filled.{Filled}
use Rattle.records.specs.declared.Put.{Put}
use Rattle.records.specs.declared.Deed.{Deed}
use Rattle.records.specs.declared.Deed.TheVariants as deed
use Rattle.records.specs.Table as table
use Rattle.records.specs.Table.{Table, form_of, entry_of, name_if}
use Rattle.records.specs.Fill.{last_form, front_of, is_named, is_struct, named, refilled}
use Rattle.records.specs.Records.{deed_on}
use Rattle.records.specs.Values.{head_of, filled_of, behind, in_last, deed_by}
use Rattle.records.specs.Putting.{Fits, Puts}

abbrev pub FitsDeed : Result Deed Fault → Filled → ℕ → Type 0
FitsDeed (Ok deed.Pass) f n = 0 ≤ n
FitsDeed (Ok deed.Pend) f n = 0 ≤ n
FitsDeed (Ok (deed.Put p)) f n = Fits p f n
FitsDeed (Err fault) f n = 0 ≤ n

pub deed-fits : (s : Shape) (f : Filled) (n : ℕ) → last_field s ≤ n → f.last.count ≤ f.refs → FitsDeed (deed_by s f) f n
deed-fits s f n le kept = grind arith

is_named-name_if : (b : Bool) (p : List ℕ) → b ≡ is_named (name_if b p)
is_named-name_if b p = grind arith

same_head : (a b : Head) → a.kind ≡ b.kind → a.number ≡ b.number → a.flag ≡ b.flag → a.count ≡ b.count → a.named ≡ b.named → a ≡ b
same_head a b p q r s t = rw (← p, ← q, ← r, ← s, ← t)

-- the last entry, apart from those before it
last_apart : (es : List Entry) → is_struct (last_form es) ≡ true → es ≡ front_of es ++ (entry_of (last_form es) ∷ [])
last_apart [] e = no (cc)
last_apart (x ∷ []) e = refl
last_apart (x ∷ y ∷ es) e = ap (λ (l : List Entry). x ∷ l) (last_apart (y ∷ es) e)

pub last-refs-le : (es : List Entry) → length (last_form es).refs ≤ length (refs_of es)
unfolding refs_of
last-refs-le [] = omega arith
last-refs-le (x ∷ []) = simp length-append (omega arith)
last-refs-le (x ∷ y ∷ es) = let le = last-refs-le (y ∷ es) in simp length-append (omega (arith, length-append y.form.refs (refs_of es)))

bytes-unnamed : (n : Name) → is_named n ≡ false → bytes_of n ≡ []
bytes-unnamed unnamed e = refl
bytes-unnamed (called bytes) e = no (cc)

none-of-length : (l : List ℕ) → ltb 0 (length l) ≡ false → l ≡ []
none-of-length [] e = refl
none-of-length (x ∷ l) e = let le = ltb-false 0 (suc (length l)) e in absurd (omega arith)

module _ (t : Table) (fs : List ℕ) where
  abbrev last : Form
  last = last_form t.entries

  abbrev pub Does : Result Deed Fault → table.Deed → Type 0
  Does (Ok deed.Pass) d = d ≡ table.passes
  Does (Ok deed.Pend) d = d ≡ table.pends fs
  Does (Ok (deed.Put p)) d = (front : List Entry) × (e : Entry) × (d ≡ table.puts front e) × Puts t fs p front e
  Does (Err fault) d = d ≡ table.refuses fault

  module _ (h : Head) (from : ℕ) (inside : from + h.count ≤ length fs) where
    abbrev form : Form
    form = form_of t.pending fs h from

    counted : h.count ≡ length form.refs
    counted = sym (length-take-le h.count (drop from fs) (simp length-drop (omega arith)))

    behind-puts : Puts t fs (behind h from (filled_of t)) t.entries (entry_of form)
    behind-puts = record {
      head_is = same_head h (head_of form) refl refl refl counted (is_named-name_if h.named t.pending);
      row_is = refl;
      kept_refs = [];
      kept_is = refl;
      refs_were = sym (append-nil (refs_of t.entries));
      refs_are = refl;
      names_were = refl;
      name_is = refl;
      old_row = [];
      rows_were = sym (append-nil (rows_of t.entries));
      old_le = omega arith;
    }

  module _ (is : is_struct (last_form t.entries) ≡ true) (plain : is_named (last_form t.entries).name ≡ false) where
    last-puts : (p : Put) (x : Form) (kept : List ℕ) → p.head ≡ head_of x → p.row ≡ length t.entries - 1 → length kept ≡ p.kept
        → last.refs ≡ kept
        → x.refs ≡ kept ++ take p.more (drop p.from fs) → x.name ≡ name_if p.head.named t.pending
        → Puts t fs p (front_of t.entries) (entry_of x)
    last-puts p x kept head row kept_is kept-are refs name =
        let es : t.entries ≡ front_of t.entries ++ (entry_of last ∷ []) = last_apart t.entries is in
        let fr = front_of t.entries in
        record {
          head_is = head;
          row_is = omega (arith, ap length es, length-append fr (entry_of last ∷ []));
          kept_refs = kept;
          kept_is = kept_is;
          refs_were = ap refs_of es ∙ refs_of-snoc fr (entry_of last) ∙ rw kept-are;
          refs_are = refs;
          names_were = ap names_of es ∙ names_of-snoc fr (entry_of last) ∙ rw (bytes-unnamed last.name plain, append-nil (names_of fr));
          name_is = name;
          old_row = words_of (row_of (length (refs_of fr)) (length (names_of fr)) (entry_of last));
          rows_were = ap rows_of es ∙ rows_of-snoc fr (entry_of last);
          old_le = omega arith;
        }

    module _ (h : Head) (from : ℕ) (inside : from + h.count ≤ length fs) where
      abbrev says-form : Form
      says-form = form_of t.pending fs h from

      opaque-puts : Puts t fs (in_last h (length last.refs) (length last.refs) 0 0 (filled_of t)) (front_of t.entries)
          (entry_of (named says-form.name last))
      opaque-puts =
          let p = in_last h (length last.refs) (length last.refs) 0 0 (filled_of t) in
          let x = named says-form.name last in
          last-puts p x last.refs (same_head p.head (head_of x) refl refl refl refl (is_named-name_if h.named t.pending))
          refl refl refl (sym (append-nil last.refs)) refl

      named-puts : last.refs ≡ []
          → Puts t fs (in_last h h.count 0 from h.count (filled_of t)) (front_of t.entries) (entry_of (refilled says-form last))
      named-puts none =
          let p = in_last h h.count 0 from h.count (filled_of t) in
          let x = refilled says-form last in
          last-puts p x [] (same_head p.head (head_of x) refl refl refl (counted h from inside) (is_named-name_if h.named t.pending))
          refl refl none refl refl

  pub deed-does : (s : Shape) → last_field s ≤ length fs → Does (deed_by s (filled_of t)) (deed_on t fs s)
  deed-does says.Nothing le = refl
  deed-does says.Name le = refl
  deed-does (says.Adds h from) le = (t.entries, entry_of (form_of t.pending fs h from), refl, behind-puts h from le)
  deed-does (says.Opaque h from) le = by (is_struct last) (is_named last.name) refl refl
    where
      by : (a b : Bool) → is_struct last ≡ a → is_named last.name ≡ b
          → Does (cond a (cond b (Err AlreadyFilled) (Ok (deed.Put (in_last h (length last.refs) (length last.refs) 0 0
          (filled_of t))))) (Ok (deed.Put (behind h from (filled_of t)))))
          (cond a (cond b (table.refuses AlreadyFilled) (table.puts (front_of t.entries)
          (entry_of (named (form_of t.pending fs h from).name last))))
          (table.puts t.entries (entry_of (form_of t.pending fs h from))))
      by true true p q = refl
      by true false p q = (
        front_of t.entries,
        entry_of (named (form_of t.pending fs h from).name last),
        refl,
        opaque-puts p q h from
            le,
      )
      by false b p q = (t.entries, entry_of (form_of t.pending fs h from), refl, behind-puts h from le)
  deed-does (says.Named h from) le = by (is_struct last) (is_named last.name || ltb 0 (length last.refs)) refl refl
    where
      by : (a b : Bool) → is_struct last ≡ a → is_named last.name || ltb 0 (length last.refs) ≡ b
          → Does (cond a (cond b (Err AlreadyFilled) (Ok (deed.Put (in_last h h.count 0 from h.count (filled_of t)))))
          (Ok (deed.Put (behind h from (filled_of t)))))
          (cond a (cond b (table.refuses AlreadyFilled) (table.puts (front_of t.entries)
          (entry_of (refilled (form_of t.pending fs h from) last))))
          (table.puts t.entries (entry_of (form_of t.pending fs h from))))
      by true true p q = refl
      by true false p q =
          let none = or-told (is_named last.name) (ltb 0 (length last.refs)) q in (
            front_of t.entries,
            entry_of (refilled (form_of t.pending fs h from) last),
            refl,
            named-puts p none.0 h from le (none-of-length last.refs none.1),
          )
      by false b p q = (t.entries, entry_of (form_of t.pending fs h from), refl, behind-puts h from le)
