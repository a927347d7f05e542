-- A spec by what it says (specs/Apply.antt).
-- Assumes nothing.
use mathlib.Core.Path.{◌≡◌}
use Rattle.layout.specs.declared.record.DataLayout.{DataLayout}
use Rattle.std.specs.Prelude.{Result, Ok, Err}
use Rattle.fields.specs.declared.numbers.Fault.{Fault}
use Rattle.spec.specs.declared.spec.Spec.{Spec}
use Rattle.datalayout.specs.Apply.{refused_by, spec_applied, applied}

-- a spec that is known by its case
pub applied-of-case : (layout : DataLayout) (read : Result Spec Fault) (said : Spec) → read ≡ Ok said
    → spec_applied layout said ≡ applied layout read
unfolding applied
applied-of-case layout read said is = rw is

pub applied-of-fault : (layout : DataLayout) (read : Result Spec Fault) (fault : Fault) → read ≡ Err fault
    → refused_by fault layout ≡ applied layout read
unfolding applied
applied-of-fault layout read fault is = rw is
