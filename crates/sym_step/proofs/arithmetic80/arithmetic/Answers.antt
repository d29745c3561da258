-- What each arm calls ensures it of the arm's instruction. A search for that takes fourteen times as long.
use Rattle.std.proofs.Common.{inl, inr, refl}
use Rattle.sym_step.proofs.Seen80.{of_arithmetic, with_room}
use Rattle.sym_step.proofs.arithmetic80.arithmetic.Goals as goal

pub returns-in-Alu : goal.returns-in-Alu
returns-in-Alu c = of_arithmetic c.in-Alu.is c.operate_on.ensures

pub returns-in-AluI : goal.returns-in-AluI
returns-in-AluI c = of_arithmetic c.in-AluI.is c.operate_number.ensures.on_80

pub returns-in-Inr : goal.returns-in-Inr
returns-in-Inr c = of_arithmetic c.in-Inr.is c.count.ensures

pub returns-in-Dcr : goal.returns-in-Dcr
returns-in-Dcr c = of_arithmetic c.in-Dcr.is c.count-in-Dcr.ensures

pub returns-in-Inx : goal.returns-in-Inx
returns-in-Inx c = of_arithmetic c.in-Inx.is (with_room c.add_number.ensures.on_80)

pub returns-in-Dcx : goal.returns-in-Dcx
returns-in-Dcx c = of_arithmetic c.in-Dcx.is (with_room c.add_number-in-Dcx.ensures.on_80)

pub returns-in-Dad : goal.returns-in-Dad
returns-in-Dad c = of_arithmetic c.in-Dad.is (with_room c.add_word.ensures.on_80)

pub returns-in-Daa : goal.returns-in-Daa
returns-in-Daa c = of_arithmetic c.in-Daa.is c.adjust.ensures.on_80

pub returns-in-Cma : goal.returns-in-Cma
returns-in-Cma c = of_arithmetic c.in-Cma.is c.complement.ensures.on_80

pub returns-in-Stc : goal.returns-in-Stc
returns-in-Stc c = of_arithmetic c.in-Stc.is c.set_carry.ensures.on_80

pub returns-in-Cmc : goal.returns-in-Cmc
returns-in-Cmc c = of_arithmetic c.in-Cmc.is c.complement_carry.ensures.on_80

pub returns-in-Rlc : goal.returns-in-Rlc
returns-in-Rlc c = of_arithmetic c.in-Rlc.is c.rotate.ensures.on_80

pub returns-in-Rrc : goal.returns-in-Rrc
returns-in-Rrc c = of_arithmetic c.in-Rrc.is c.rotate-in-Rrc.ensures.on_80

pub returns-in-Ral : goal.returns-in-Ral
returns-in-Ral c = of_arithmetic c.in-Ral.is c.rotate-in-Ral.ensures.on_80

pub returns-in-Rar : goal.returns-in-Rar
returns-in-Rar c = of_arithmetic c.in-Rar.is c.rotate-in-Rar.ensures.on_80

-- each call needs what the instruction needs
pub operate_on-requires : goal.operate_on-requires
operate_on-requires c = c.requires

pub operate_number-requires : goal.operate_number-requires
operate_number-requires c = c.requires

pub count-requires : goal.count-requires
count-requires c = record { counts = inl refl; ready = c.requires.ready; room = c.requires.room }

pub count-requires-in-Dcr : goal.count-requires-in-Dcr
count-requires-in-Dcr c = record { counts = inr refl; ready = c.requires.ready; room = c.requires.room }

pub add_number-requires : goal.add_number-requires
add_number-requires c = c.requires

pub add_number-requires-in-Dcx : goal.add_number-requires-in-Dcx
add_number-requires-in-Dcx c = c.requires

pub add_word-requires : goal.add_word-requires
add_word-requires c = c.requires

pub adjust-requires : goal.adjust-requires
adjust-requires c = c.requires

pub complement-requires : goal.complement-requires
complement-requires c = c.requires

pub set_carry-requires : goal.set_carry-requires
set_carry-requires c = c.requires

pub complement_carry-requires : goal.complement_carry-requires
complement_carry-requires c = c.requires

pub rotate-requires : goal.rotate-requires
rotate-requires c = c.requires

pub rotate-requires-in-Rrc : goal.rotate-requires-in-Rrc
rotate-requires-in-Rrc c = c.requires

pub rotate-requires-in-Ral : goal.rotate-requires-in-Ral
rotate-requires-in-Ral c = c.requires

pub rotate-requires-in-Rar : goal.rotate-requires-in-Rar
rotate-requires-in-Rar c = c.requires
