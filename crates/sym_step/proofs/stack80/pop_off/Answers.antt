use Rattle.std.proofs.Common.{ap}
use Rattle.i80.specs.declared.Instr80.TheVariants.{Pop}
use Rattle.sym_step.proofs.Seen80.{of_instr}
use Rattle.sym_step.proofs.stack80.pop_off.Goals as goal

pub returns-in-B : goal.returns-in-B
returns-in-B c = of_instr (ap Pop c.in-B.is) c.pop_pair.ensures

pub returns-in-D : goal.returns-in-D
returns-in-D c = of_instr (ap Pop c.in-D.is) c.pop_pair-in-D.ensures

pub returns-in-H : goal.returns-in-H
returns-in-H c = of_instr (ap Pop c.in-H.is) c.pop_pair-in-H.ensures

pub returns-in-Psw : goal.returns-in-Psw
returns-in-Psw c = of_instr (ap Pop c.in-Psw.is) c.perform.ensures.on_80
