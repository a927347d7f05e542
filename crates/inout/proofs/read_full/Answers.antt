-- `inout::read_full`: a read lies behind what was filled before it.
use Rattle.std.proofs.Common.{take, refl, arith, length-take-le}
use Rattle.inout.proofs.Laws.{Consumes-first, placed-within, Consumes-placed}
use Rattle.inout.proofs.read_full.Goals as goal

pub loop-done-init : goal.loop-done-init
loop-done-init g c = (omega arith, Consumes-first _)

pub returns-then-n-eq0-clause-bytes : goal.returns-then-n-eq0-clause-bytes
returns-then-n-eq0-clause-bytes g c =
    let l = c.loop-done in
    let read = c.in_ok-n.ensures in
    Consumes-placed _ _ _ (take l.done l.buf) c.read.new.buf _ l.done c.in_ok-n.n _ (length-take-le l.done l.buf l.invariant.0)
    read.bound.0 (omega arith) l.invariant.1 read.bytes.0

pub loop-done-preserved : goal.loop-done-preserved
loop-done-preserved g c =
    let l = c.loop-done in
    let read = c.in_ok-n.ensures in
    let front = length-take-le l.done l.buf l.invariant.0 in (
      placed-within (take l.done l.buf) c.read.new.buf _ l.done c.in_ok-n.n front read.bound.0,
      Consumes-placed _ _ _ (take l.done l.buf) c.read.new.buf _ l.done c.in_ok-n.n _ front read.bound.0 refl l.invariant.1 read.bytes.0,
    )
