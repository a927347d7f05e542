-- A spec that changes words of the head: the buffer then holds the changed layout.
-- Assumes nothing.
use mathlib.Core.Path.{◌≡◌, refl, sym, ap, subst, ◌∙◌}
use mathlib.Core.List.{List}
use Prim.Native.Nat.{ℕ, ◌≤◌}
use native.Mathlib.Omega.{arith}
use lib.ListN.{length, set, length-set}
use Rattle.table.specs.Buffers.{padded}
use Rattle.std.proofs.Common.{Some, Result, Ok, Err}
use Rattle.units.specs.declared.align.Align.{Align}
use Rattle.layout.specs.declared.record.DataLayout.{DataLayout}
use Rattle.layout.specs.declared.record.Endian.{Endian}
use Rattle.layout.specs.declared.record.FunctionPointerAlign.{FunctionPointerAlign}
use Rattle.layout.specs.declared.record.Mangling.{Mangling}
use Rattle.layout.specs.declared.record.Memory.{Memory}
use Rattle.layout.specs.declared.record.Memory.TheVariants.{Program, GlobalVariable, Alloca}
use Rattle.layout.specs.Record.{with_endianness, with_stack, with_space, with_function_pointer, with_mangling}
use Rattle.fields.specs.declared.numbers.Fault.{Fault}
use Rattle.datalayout.specs.declared.apply.Applied.{Applied}
use Rattle.datalayout.specs.Apply.{done_with, refused_by}
use Rattle.flat.specs.Words.{bits_of, endian_word, function_kind, function_bits, mangling_word, layout_words}
use Rattle.flat.specs.Held.{Held, Did, memory_at}

pub did-as : (a b : Applied) (r : Result (Unit {0}) Fault) (out : List ℕ) → a ≡ b → Did a r out → Did b r out
did-as a b r out e h = subst (λ c. Did c r out) e h

pub did-done : (l : DataLayout) (applied : Applied) (out : List ℕ) → done_with l ≡ applied → Held l out → Did applied (Ok tt) out
did-done l applied out e h = did-as (done_with l) applied (Ok tt) out e (record { outcome_is = refl; done = λ done. h })

pub did-refused : (l : DataLayout) (applied : Applied) (out : List ℕ) (fault : Fault) → refused_by fault l ≡ applied
    → Did applied (Err fault) out
did-refused l applied out fault e =
    did-as (refused_by fault l) applied (Err fault) out e
    (record { outcome_is = refl; done = λ done. let z : ◌≡◌ {A = ℕ} 0 1 = cc in absurd (omega arith) })

module _ (l : DataLayout) (out : List ℕ) (h : Held l out) where
  changed : (l' : DataLayout) (k v : ℕ) → ((n : ℕ) → set (padded n (layout_words l)) k v ≡ padded n (layout_words l')) → Held l' (set out k v)
  changed l' k v e =
      let long = length-set out k v in
      record {
        room = omega (arith, h.room);
        is = ap (λ (o : List ℕ). set o k v) h.is ∙ e (length out) ∙ ap (λ (n : ℕ). padded n (layout_words l')) (sym long);
      }

  pub Held-endian : (endian : Endian) (v : ℕ) → v ≡ endian_word endian → Held (with_endianness l endian) (set out 0 v)
  unfolding padded layout_words
  Held-endian endian v e = rw e (changed (with_endianness l endian) 0 (endian_word endian) (λ n. refl))

  pub Held-stack : (align : Align) (v : ℕ) → v ≡ bits_of align → Held (with_stack l (Some align)) (set out 1 v)
  unfolding padded layout_words
  Held-stack align v e = rw e (changed (with_stack l (Some align)) 1 (bits_of align) (λ n. refl))

  pub Held-space : (memory : Memory) (space k : ℕ) → k ≡ memory_at memory → Held (with_space l memory space) (set out k space)
  unfolding padded layout_words
  Held-space Program space k e = rw e (changed (with_space l Program space) 2 space (λ n. refl))
  Held-space GlobalVariable space k e = rw e (changed (with_space l GlobalVariable space) 3 space (λ n. refl))
  Held-space Alloca space k e = rw e (changed (with_space l Alloca space) 4 space (λ n. refl))

  pub Held-mangling : (mangling : Mangling) (v : ℕ) → v ≡ mangling_word (Some mangling) → Held (with_mangling l (Some mangling)) (set out 8 v)
  unfolding padded layout_words
  Held-mangling mangling v e = rw e (changed (with_mangling l (Some mangling)) 8 (mangling_word (Some mangling)) (λ n. refl))

  pub Held-function : (align : FunctionPointerAlign) (v w : ℕ) → v ≡ function_kind (Some align) → w ≡ function_bits (Some align)
      → Held (with_function_pointer l (Some align)) (set (set out 6 v) 7 w)
  unfolding padded layout_words
  Held-function align v w e d =
      let long : length (set (set out 6 v) 7 w) ≡ length out = length-set (set out 6 v) 7 w ∙ length-set out 6 v in
      record {
        room = omega (arith, h.room);
        is =
            ap (λ (o : List ℕ). set (set o 6 v) 7 w) h.is
            ∙ (rw (e, d) refl)
            ∙ ap (λ (n : ℕ). padded n (layout_words (with_function_pointer l (Some align)))) (sym long);
      }

-- the index of a space is in the head
pub memory_at-low : (memory : Memory) → memory_at memory ≤ 4
memory_at-low Program = omega arith
memory_at-low GlobalVariable = omega arith
memory_at-low Alloca = omega arith
