-- `next` of `stream::Records` meets its contract: what stands at its place is the head of what it has left. Assumes nothing.
use mathlib.Core.Path.{◌∙◌, sym, ap}
use native.Mathlib.Omega.{arith}
use Rattle.std.proofs.Common.{option_map}
use Rattle.stream.specs.Stream.{read_of}
use Rattle.stream.proofs.Laws.Stream.{left-none, next-within, next-whole, next-before, next-cut}
use Rattle.stream.proofs.RecordsIterator.next.Goals as goal
use Rattle.stream.proofs.RecordsIterator.next.Goals.{in-Ok, in-Err}

pub returns-in_err-record-clause-steps : goal.returns-in_err-record-clause-steps
returns-in_err-record-clause-steps c =
    let s = c.args.self.now in
    let none = left-none s.words.now s.at (sym c.record_at.ensures.says ∙ ap (option_map read_of) c.in_err-record.was) in
    rw c.from_residual.ensures (none, none)

pub overflow_add-self-in-Ok : goal.overflow_add-self-in-Ok
overflow_add-self-in-Ok c =
    let is = sym c.record_at.ensures.says ∙ ap (option_map read_of) c.in_ok-record.was in
    let le = next-within c.args.self.now _ is _ c.in-Ok.is in
    omega arith

pub returns-clause-steps : goal.returns-clause-steps
returns-clause-steps c =
    let is = sym c.record_at.ensures.says ∙ ap (option_map read_of) c.in_ok-record.was in
    elim c.match-record.branch [
      | in-Ok w ↦ next-whole c.args.self.now _ is _ w.in-Ok.is _ w.self-is
      | in-Err w ↦ next-cut c.args.self.now _ is _ w.in-Err.is _ w.self-is
    ]

pub returns-clause-goes : goal.returns-clause-goes
returns-clause-goes c =
    let is = sym c.record_at.ensures.says ∙ ap (option_map read_of) c.in_ok-record.was in
    elim c.match-record.branch [
      | in-Ok w ↦ let le = next-within c.args.self.now _ is _ w.in-Ok.is in rw w.self-is (record { on = λ _. (tt, tt, omega arith); keeps = tt; rests = λ _. tt })
      | in-Err w ↦ let lt = next-before c.args.self.now _ is _ w.in-Err.is in rw w.self-is (record { on = λ _. (tt, tt, omega arith); keeps = tt; rests = λ _. tt })
    ]
