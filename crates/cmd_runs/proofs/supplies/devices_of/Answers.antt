use Rattle.std.proofs.Common.{ap, sym, subst}
use Rattle.bdos_small.specs.Reading.{IsDiskFaultOf}
use Rattle.cmd_runs.specs.Supplies.{stop_of_disk}
use Rattle.cmd_runs.proofs.supplies.devices_of.Goals as goal

pub returns-in-Err-Bad-clause-stopped : goal.returns-in-Err-Bad-clause-stopped
returns-in-Err-Bad-clause-stopped c =
    let e = c.in-Err-Bad in
    (e.field-0, subst (λ b. IsDiskFaultOf b e.field-0) c.as_slice.ensures.value e.ensures, ap stop_of_disk (sym e.field-0-is))

pub returns-clause-stopped : goal.returns-clause-stopped
returns-clause-stopped c =
    let e = c.in-Err-Memory in
    (e.field-0, subst (λ b. IsDiskFaultOf b e.field-0) c.as_slice.ensures.value e.ensures, ap stop_of_disk (sym e.field-0-is))
