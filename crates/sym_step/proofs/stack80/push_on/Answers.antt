use Rattle.std.proofs.Common.{ap}
use Rattle.i80.specs.declared.Instr80.TheVariants.{Push}
use Rattle.sym_step.proofs.Seen80.{of_instr}
use Rattle.sym_step.proofs.stack80.push_on.Goals as goal

pub returns-in-B : goal.returns-in-B
returns-in-B c = of_instr (ap Push c.in-B.is) c.push.ensures.on_80

pub returns-in-D : goal.returns-in-D
returns-in-D c = of_instr (ap Push c.in-D.is) c.push-in-D.ensures.on_80

pub returns-in-H : goal.returns-in-H
returns-in-H c = of_instr (ap Push c.in-H.is) c.push-in-H.ensures.on_80

pub returns-in-Psw : goal.returns-in-Psw
returns-in-Psw c = of_instr (ap Push c.in-Psw.is) c.perform.ensures.on_80
