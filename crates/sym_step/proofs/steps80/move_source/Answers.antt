-- What each arm calls ensures it of the arm's operands, which saves a long search.
use Rattle.std.proofs.Common.{ap₂}
use Rattle.i80.specs.declared.Instr80.TheVariants.{Mov}
use Rattle.sym_step.proofs.Seen80.{of_instr}
use Rattle.sym_step.proofs.steps80.move_source.Goals as goal

pub returns-in-Reg-from : goal.returns-in-Reg-from
returns-in-Reg-from c = of_instr (ap₂ Mov c.in-Reg.is c.in-Reg-from.is) c.move_byte.ensures.on_80

pub returns-in-Mem-from : goal.returns-in-Mem-from
returns-in-Mem-from c = of_instr (ap₂ Mov c.in-Reg.is c.in-Mem-from.is) c.load_byte.ensures.on_80

pub returns-in-Reg-from-2 : goal.returns-in-Reg-from-2
returns-in-Reg-from-2 c = of_instr (ap₂ Mov c.in-Mem.is c.in-Reg-from-2.is) c.store_byte.ensures.on_80

pub returns-in-Mem-from-2 : goal.returns-in-Mem-from-2
returns-in-Mem-from-2 c = of_instr (ap₂ Mov c.in-Mem.is c.in-Mem-from-2.is) c.perform.ensures.on_80
