-- `units::align::Align::from_bit_align` meets its contract: whole bytes are asked as bytes, and anything else is no alignment.
-- Assumes nothing.
use mathlib.Core.Path.{◌≡◌, sym, ◌∙◌}
use Prim.Native.Nat.{◌*◌, ◌/◌}
use native.Mathlib.Omega.{arith}
use Rattle.units.specs.Align.{bits_in_byte}
use Rattle.units.proofs.Laws.Align.{alignment-none, alignment-scaled}
use Rattle.units.proofs.align.Align.from_bit_align.Goals as goal

pub returns-then-bit_align-eq0 : goal.returns-then-bit_align-eq0
returns-then-bit_align-eq0 c =
    let bits = c.args.bit_align in
    let whole : bits_in_byte * (bits / bits_in_byte) ≡ bits = omega arith in
    let scaled = alignment-scaled 64 bits_in_byte (bits / bits_in_byte) (omega arith) in
    c.from_byte_align.ensures ∙ sym (rw whole at scaled)

pub returns-else-bit_align-eq0 : goal.returns-else-bit_align-eq0
returns-else-bit_align-eq0 c = sym (alignment-none 64 bits_in_byte c.args.bit_align (λ shift lt e. c.if-bit_align-eq0.false (omega arith)))
