-- `flat::read::apply` meets its contract, by cases on what the spec says.
-- Assumes nothing.
use mathlib.Core.Path.{◌≡◌}
use native.Mathlib.Omega.{arith}
use borrow.Author.Rules.{rules}
use Rattle.std.specs.Prelude.{Ok, Err}
use Rattle.spec.specs.declared.spec.Spec.TheVariants.{Endianness, Stack, Space, Typed}
use Rattle.spec.specs.declared.spec.Spec.TheVariants.{Pointer, FunctionPointer, Mangled, Numbered}
use Rattle.datalayout.proofs.Laws.Apply.{applied-of-case, applied-of-fault}
use Rattle.flat.proofs.Laws.Heads.{did-as, did-done, did-refused, Held-endian, Held-stack, Held-space, Held-mangling, Held-function, memory_at-low}
use Rattle.flat.proofs.read.apply.Goals as goal

pub bounds-out-at : goal.bounds-out-at
bounds-out-at c = omega (arith, c.requires.held.room, c.memory_at-at.ensures, memory_at-low c.in-Ok-Space.memory)

pub returns-in-Ok-Endianness : goal.returns-in-Ok-Endianness
returns-in-Ok-Endianness c =
    let said : c.args.read ≡ Ok (Endianness c.in-Ok-Endianness.endian) = search rules in
    λ l s h. did-done _ _ _ (applied-of-case l c.args.read _ said) (Held-endian l _ h _ _ c.endian_word.ensures)

pub returns-in-Ok-Stack : goal.returns-in-Ok-Stack
returns-in-Ok-Stack c =
    let said : c.args.read ≡ Ok (Stack c.in-Ok-Stack.align) = search rules in
    λ l s h. did-done _ _ _ (applied-of-case l c.args.read _ said) (Held-stack l _ h _ _ c.bit_align.ensures)

pub returns-in-Ok-Space : goal.returns-in-Ok-Space
returns-in-Ok-Space c =
    let said : c.args.read ≡ Ok (Space c.in-Ok-Space.memory c.in-Ok-Space.space) = search rules in
    λ l s h. did-done _ _ _ (applied-of-case l c.args.read _ said)
    (Held-space l _ h c.in-Ok-Space.memory _ _ c.memory_at-at.ensures)

pub returns-in-Ok-Typed : goal.returns-in-Ok-Typed
returns-in-Ok-Typed c =
    let said : c.args.read ≡ Ok (Typed c.in-Ok-Typed.row) = search rules in
    λ l s h. did-as _ _ _ _ (applied-of-case l c.args.read _ said) (c.put_type.ensures l s h)

pub returns-in-Ok-Pointer : goal.returns-in-Ok-Pointer
returns-in-Ok-Pointer c =
    let said : c.args.read ≡ Ok (Pointer c.in-Ok-Pointer.row) = search rules in
    λ l s h. did-as _ _ _ _ (applied-of-case l c.args.read _ said) (c.put_pointer.ensures l s h)

pub returns-in-Ok-FunctionPointer : goal.returns-in-Ok-FunctionPointer
returns-in-Ok-FunctionPointer c =
    let said : c.args.read ≡ Ok (FunctionPointer c.in-Ok-FunctionPointer.align) = search rules in
    λ l s h. did-done _ _ _ (applied-of-case l c.args.read _ said)
    (Held-function l _ h _ _ _ c.function_kind.ensures c.function_bits.ensures)

pub returns-in-Ok-Mangled : goal.returns-in-Ok-Mangled
returns-in-Ok-Mangled c =
    let said : c.args.read ≡ Ok (Mangled c.in-Ok-Mangled.mangling) = search rules in
    λ l s h. did-done _ _ _ (applied-of-case l c.args.read _ said) (Held-mangling l _ h _ _ c.mangling_word.ensures)

pub returns-in-Ok-Numbered : goal.returns-in-Ok-Numbered
returns-in-Ok-Numbered c =
    let said : c.args.read ≡ Ok (Numbered c.in-Ok-Numbered.listed c.in-Ok-Numbered.numbers) = search rules in
    λ l s h. did-done _ _ _ (applied-of-case l c.args.read _ said) (c.put_list.ensures l s h)

pub returns-in-Err : goal.returns-in-Err
returns-in-Err c =
    let said : c.args.read ≡ Err c.in-Err.fault = search rules in
    λ l s h. did-refused _ _ _ _ (applied-of-fault l c.args.read _ said)
