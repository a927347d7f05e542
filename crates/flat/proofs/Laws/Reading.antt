-- The sweep over a layout string that leaves its words in a buffer: the sweep of datalayout, with a layout that the buffer holds.
--     Reading s n out at                the invariant; the buffer has n words
--     Turn s n out at end outcome mid   the spec from `at` to `end` is applied
-- The laws of these are one for each way through a turn of `read_layout`.
-- Assumes nothing.
use mathlib.Core.Path.{◌≡◌, refl, sym, ap, ◌∙◌}
use mathlib.Core.List.{List}
use Prim.Native.Nat.{ℕ, ◌+◌, ◌-◌, ◌≤◌, ◌<◌, min}
use native.Mathlib.Omega.{arith}
use lib.ListN.{length, get_or, take, drop}
use Rattle.std.proofs.Common.{Result, Ok, Err}
use Rattle.layout.specs.declared.record.DataLayout.{DataLayout}
use Rattle.layout.specs.Defaults.{default_layout}
use Rattle.fields.specs.declared.numbers.Fault.{Fault}
use Rattle.fields.specs.Parts.{dash, end_of}
use Rattle.spec.specs.Specs.{spec_in}
use Rattle.datalayout.specs.declared.error.Error.TheVariants.{BadEncoding, Refused as Refuses}
use Rattle.datalayout.specs.declared.map.Mapped.{Mapped}
use Rattle.datalayout.specs.Apply.{applied}
use Rattle.datalayout.specs.Promises.{Sound}
use Rattle.datalayout.specs.Strings.{ascii_up_to, taken_with, refused_with, mapped}
use Rattle.datalayout.proofs.Laws.Sound.{default-sound, after-sound}
use Rattle.datalayout.proofs.Laws.Sweep.{Going, Going-first, Stopped, Stopped-within, Stopped-encoded, Stopped-encoded-later}
use Rattle.datalayout.proofs.Laws.Sweep.{Ended, Ended-refused, Ended-done, Ended-more}
use Rattle.flat.specs.declared.lists.Bounds.{Bounds}
use Rattle.flat.specs.declared.read.Laid.{Laid}
use Rattle.flat.specs.Words.{layout_words}
use Rattle.flat.specs.Held.{Held, Kept, Did, starts_of}
use Rattle.flat.specs.Reads.{Reads}
use Rattle.flat.proofs.Laws.Start.{Held-puts}

pub record Reading (s : List ℕ) (n : ℕ) (out : List ℕ) (at : ℕ) : Type 0 where
  pub layout : DataLayout
  pub going : Going s layout at
  pub sound : Sound layout
  pub held : Held layout out
  pub long : length out ≡ n

pub record Turn (s : List ℕ) (n : ℕ) (out : List ℕ) (at end : ℕ) (outcome : Result (Unit {0}) Fault) (mid : List ℕ) : Type 0 where
  pub reading : Reading s n out at
  pub is : end ≡ min (end_of dash s at) (at + ascii_up_to (drop at s))
  pub byte : get_or s end 0 < 128
  pub did : Did (applied reading.layout (spec_in (take (end - at) (drop at s)))) outcome mid
  pub kept : length mid ≡ length out

pub Reading-first : (s : List ℕ) (n : ℕ) (out : List ℕ) → length out ≡ n → Held default_layout out → Reading s n out 0
Reading-first s n out long h =
    record { layout = default_layout; going = Going-first s; sound = default-sound; held = h; long = long }

-- `Reads` asks only for the length of what was there
reads_as : (m m' : Mapped) (b b' after : List ℕ) (r : Laid) → m ≡ m' → length b ≡ length b' → Reads m b r after → Reads m' b' r after
reads_as m m' b b' after r e long h = record { answer_is = rw (← e) h.answer_is; layout_is = rw (← e, ← long) h.layout_is }

module _ {s out : List ℕ} {n at : ℕ} (reading : Reading s n out at) where
  pub Reading-kept : Kept out
  Reading-kept = record { layout = reading.layout; sound = reading.sound; held = reading.held }

  module _ {end : ℕ} (is : end ≡ min (end_of dash s at) (at + ascii_up_to (drop at s))) where
    stop : Stopped s reading.layout at end
    stop = record { going = reading.going; is = is }

    pub Reading-within : (at ≤ end) × (end ≤ length s)
    Reading-within = Stopped-within stop

    pub Reading-encoded : (before after : List ℕ) (r : Laid) → length before ≡ n → 128 ≤ get_or s end 0
        → Reads (refused_with (BadEncoding end)) out r after → Reads (mapped s) before r after
    Reading-encoded before after r long byte h =
        reads_as (refused_with (BadEncoding end)) (mapped s) out before after r (Stopped-encoded stop byte) (reading.long ∙ sym long) h

module _ {s out mid : List ℕ} {n at end : ℕ} {outcome : Result (Unit {0}) Fault} (turn : Turn s n out at end outcome mid) where
  abbrev old : DataLayout
  old = turn.reading.layout

  abbrev spec : List ℕ
  spec = take (end - at) (drop at s)

  abbrev new : DataLayout
  new = (applied old (spec_in spec)).layout

  stopped : Stopped s old at end
  stopped = record { going = turn.reading.going; is = turn.is }

  ended : Ended s old at end (applied old (spec_in spec))
  ended = record { stopped = stopped; byte = turn.byte; made = refl }

  long-mid : length mid ≡ n
  long-mid = turn.kept ∙ turn.reading.long

  -- Named in docs/TRACE.md.
  pub Turn-within : (at ≤ end) × (end ≤ length s)
  Turn-within = Stopped-within stopped

  pub Turn-encoded : (bad : ℕ) (before after : List ℕ) (r : Laid) → length before ≡ n
      → bad ≡ end + ascii_up_to (drop end s) → bad < length s
      → Reads (refused_with (BadEncoding bad)) mid r after → Reads (mapped s) before r after
  Turn-encoded bad before after r long is lt h =
      reads_as (refused_with (BadEncoding bad)) (mapped s) mid before after r (Stopped-encoded-later stopped bad is lt)
      (long-mid ∙ sym long) h

  pub Turn-refused : (fault : Fault) (bad : ℕ) (before after : List ℕ) (r : Laid) → length before ≡ n → outcome ≡ Err fault
      → bad ≡ end + ascii_up_to (drop end s) → length s ≤ bad
      → Reads (refused_with (Refuses fault at)) mid r after → Reads (mapped s) before r after
  Turn-refused fault bad before after r long refused is le h =
      let e = Ended-refused ended fault (sym turn.did.outcome_is ∙ refused) (omega arith) in
      reads_as (refused_with (Refuses fault at)) (mapped s) mid before after r e (long-mid ∙ sym long) h

  module _ (done : outcome ≡ Ok tt) where
    sound : Sound new
    sound = after-sound old turn.reading.sound spec

    pub Turn-done : (b : Bounds) (before : List ℕ) → length before ≡ n → end ≡ length s
        → ((l : DataLayout) → Sound l → Held l mid → b ≡ starts_of l)
        → Reads (mapped s) before (record { answer = Ok tt; words = b.end }) mid
    unfolding starts_of
    Turn-done b before long last starts =
        let held = turn.did.done done in
        let e : taken_with new ≡ mapped s = Ended-done ended (sym turn.did.outcome_is ∙ done) last in
        let words : b.end ≡ length (layout_words new) = ap (λ x. x.end) (starts new sound held) in
        let put = Held-puts new mid sound held (length before) (long ∙ sym long-mid) in
        record {
          answer_is = ap (λ x. x.answer) e;
          layout_is = rw (words, ← e) put;
        }

    pub Turn-more : (end ≡ length s → ⊥) → Reading s n mid (end + 1)
    Turn-more more =
        record {
          layout = new;
          going = Ended-more ended (sym turn.did.outcome_is ∙ done) more;
          sound = sound;
          held = turn.did.done done;
          long = long-mid;
        }
