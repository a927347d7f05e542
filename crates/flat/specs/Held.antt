-- A buffer that holds a layout's words while its string is read. No public contract cites this.
--     Held l out          out has room for every layout, and holds the words of l, then zeros
--     Kept out            it holds those of some sound layout
--     Did applied r out   the outcome of a spec, and that its layout is held where it was done
--     memory_at memory     which word of the head says the space of that memory
--     starts_of l          where the parts of the words start
--     RowsIn, RowPut      rows of any kind within a buffer, and a new one put among them
-- Assumes nothing.
use Rattle.std.specs.Prelude.{◌≡◌, Bool, Result, Ok, Err, List, ◌∷◌, ◌++◌, ℕ, ◌+◌, ◌*◌, ◌≤◌, ◌<◌, length}
use Rattle.table.specs.Buffers.{padded}
use Rattle.layout.specs.declared.record.DataLayout.{DataLayout}
use Rattle.layout.specs.declared.record.Memory.{Memory}
use Rattle.layout.specs.declared.record.Memory.TheVariants.{Program, GlobalVariable, Alloca}
use Rattle.layout.specs.Rows.{placed}
use Rattle.fields.specs.declared.numbers.Fault.{Fault}
use Rattle.fields.specs.declared.numbers.Fault.TheVariants.{ListFull}
use Rattle.datalayout.specs.declared.apply.Applied.{Applied}
use Rattle.datalayout.specs.Promises.{Sound}
use Rattle.flat.specs.declared.lists.Bounds.{Bounds}
use Rattle.flat.specs.Words.{numbers_words, types_words, run_of, layout_words}
use Rattle.flat.specs.Puts.{max_words}
use Rattle.flat.specs.Moves.{EachWide, same_key}

pub record Held (l : DataLayout) (out : List ℕ) : Type 0 where
  pub room : max_words ≤ length out
  pub is : out ≡ padded (length out) (layout_words l)

pub record Kept (out : List ℕ) : Type 0 where
  pub layout : DataLayout
  pub sound : Sound layout
  pub held : Held layout out

pub record Did (applied : Applied) (r : Result (Unit {0}) Fault) (out : List ℕ) : Type 0 where
  pub outcome_is : r ≡ applied.outcome
  pub done : r ≡ Ok tt → Held applied.layout out

abbrev pub memory_at : Memory → ℕ
memory_at Program = 2
memory_at GlobalVariable = 3
memory_at Alloca = 4

unfoldable pub starts_of : DataLayout → Bounds
starts_of l =
    let spaces = 9 + length (numbers_words l.native_integer_widths) in
    let types = spaces + length (numbers_words l.non_integral_address_spaces) in
    let pointers = types + length (types_words l.type_alignments) in
    record { spaces = spaces; types = types; pointers = pointers; end = length (layout_words l) }

-- rows with their count, between other words
abbrev pub among : List ℕ → List (List ℕ) → List ℕ → List ℕ
among x rows y = x ++ ((length rows ∷ run_of (λ row. row) rows) ++ y)

pub record Rows (x : List ℕ) (rows : List (List ℕ)) (y out : List ℕ) (from behind end wide most : ℕ) : Type 0 where
  pub each : EachWide wide rows
  pub is : out ≡ padded (length out) (among x rows y)
  pub starts : from ≡ length x
  pub stops : behind ≡ from + 1 + length rows * wide
  pub ends : end ≡ behind + length y
  pub few : length rows ≤ most
  pub room : from + 1 + most * wide + length y ≤ length out

pub record RowsIn (out : List ℕ) (from behind end wide most : ℕ) : Type 0 where
  pub x : List ℕ
  pub rows : List (List ℕ)
  pub y : List ℕ
  pub are : Rows x rows y out from behind end wide most

-- "31 exactly if one more is needed"
pub record PutAmong (x : List ℕ) (rows : List (List ℕ)) (y before : List ℕ) (most : ℕ) (r : Result (Unit {0}) Fault) (after : List ℕ) : Type 0 where
  pub taken : length rows ≤ most → (r ≡ Ok tt) × (after ≡ padded (length before) (among x rows y))
  pub full : most < length rows → r ≡ Err ListFull

abbrev pub RowPut : List ℕ → ℕ → ℕ → ℕ → List ℕ → Bool → ℕ → Result (Unit {0}) Fault → List ℕ → Type 0
RowPut before from behind end row both most r after =
    (x : List ℕ) (rows : List (List ℕ)) (y : List ℕ) → Rows x rows y before from behind end (length row) most
    → PutAmong x (placed (same_key both) row rows) y before most r after
