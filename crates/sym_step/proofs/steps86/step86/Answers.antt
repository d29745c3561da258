-- What each arm calls ensures it of the arm's instruction. A search for that takes fourteen times as long.
use Rattle.std.proofs.Common.{◌∙◌, ap}
use Rattle.i86.specs.declared.Instr86.TheVariants.{MovReg8, MovReg16}
use Rattle.sym_micro.specs.Machine.{as86}
use Rattle.sym_micro.specs.Stands.{machine_of}
use Rattle.sym_micro.proofs.Alike.{on_86}
use Rattle.sym_step.proofs.Arithmetic.{no_move86}
use Rattle.sym_step.proofs.Seen86.{of_instr}
use Rattle.sym_step.proofs.steps86.step86.Goals as goal

pub returns-in-MovMem8 : goal.returns-in-MovMem8
returns-in-MovMem8 c = of_instr c.in-MovMem8.is c.store_byte.ensures.on_86

pub returns-in-MovAlDirect : goal.returns-in-MovAlDirect
returns-in-MovAlDirect c = of_instr c.in-MovAlDirect.is c.load_byte-in-MovAlDirect.ensures.on_86

pub returns-in-MovDirectAl : goal.returns-in-MovDirectAl
returns-in-MovDirectAl c = of_instr c.in-MovDirectAl.is c.store_byte-in-MovDirectAl.ensures.on_86

pub returns-in-MovNum8 : goal.returns-in-MovNum8
returns-in-MovNum8 c = of_instr c.in-MovNum8.is c.move_byte-in-MovNum8.ensures.on_86

pub returns-in-MovNum16 : goal.returns-in-MovNum16
returns-in-MovNum16 c = of_instr c.in-MovNum16.is c.move_word.ensures.on_86

pub returns-in-MovMemNum : goal.returns-in-MovMemNum
returns-in-MovMemNum c = of_instr c.in-MovMemNum.is c.store_number.ensures.on_86

pub returns-in-MovDirect16 : goal.returns-in-MovDirect16
returns-in-MovDirect16 c = of_instr c.in-MovDirect16.is c.store_word.ensures.on_86

pub returns-in-MovAxDs : goal.returns-in-MovAxDs
returns-in-MovAxDs c = of_instr c.in-MovAxDs.is c.move_word-in-MovAxDs.ensures.on_86

pub returns-in-Reg : goal.returns-in-Reg
returns-in-Reg c = of_instr (c.in-MovReg8.is ∙ ap (MovReg8 c.in-MovReg8.to) c.in-Reg.is) c.move_byte.ensures.on_86

pub returns-in-Mem : goal.returns-in-Mem
returns-in-Mem c = of_instr (c.in-MovReg8.is ∙ ap (MovReg8 c.in-MovReg8.to) c.in-Mem.is) c.load_byte.ensures.on_86

pub returns-in-Reg-from : goal.returns-in-Reg-from
returns-in-Reg-from c = of_instr (c.in-MovReg16.is ∙ ap (MovReg16 c.in-MovReg16.to) c.in-Reg-from.is) c.move_word-in-Reg-from.ensures.on_86

pub returns-in-Direct : goal.returns-in-Direct
returns-in-Direct c = of_instr (c.in-MovReg16.is ∙ ap (MovReg16 c.in-MovReg16.to) c.in-Direct.is) c.load_word.ensures.on_86

pub returns-in_default : goal.returns-in_default
returns-in_default c =
    let d = c.in_default in
    on_86 (no_move86 (as86 (machine_of c.args.terms.now c.args.run.now)) c.args.instr d.not-MovReg8 d.not-MovMem8 d.not-MovAlDirect d.not-MovDirectAl d.not-MovNum8 d.not-MovNum16 d.not-MovMemNum d.not-MovReg16 d.not-MovDirect16 d.not-MovAxDs) c.past_moves.ensures

-- each call needs what the instruction needs

pub store_byte-requires : goal.store_byte-requires
store_byte-requires c = c.requires

pub load_byte-requires : goal.load_byte-requires
load_byte-requires c = c.requires

pub store_byte-requires-in-MovDirectAl : goal.store_byte-requires-in-MovDirectAl
store_byte-requires-in-MovDirectAl c = c.requires

pub move_byte-requires : goal.move_byte-requires
move_byte-requires c = c.requires

pub move_word-requires : goal.move_word-requires
move_word-requires c = c.requires

pub store_number-requires : goal.store_number-requires
store_number-requires c = c.requires

pub store_word-requires : goal.store_word-requires
store_word-requires c = c.requires

pub move_word-requires-in-MovAxDs : goal.move_word-requires-in-MovAxDs
move_word-requires-in-MovAxDs c = c.requires

pub past_moves-requires : goal.past_moves-requires
past_moves-requires c = c.requires

pub move_byte-requires-in-MovNum8 : goal.move_byte-requires-in-MovNum8
move_byte-requires-in-MovNum8 c = c.requires

pub load_byte-requires-in-MovAlDirect : goal.load_byte-requires-in-MovAlDirect
load_byte-requires-in-MovAlDirect c = c.requires

pub move_word-requires-in-Reg-from : goal.move_word-requires-in-Reg-from
move_word-requires-in-Reg-from c = c.requires

pub load_word-requires : goal.load_word-requires
load_word-requires c = c.requires
