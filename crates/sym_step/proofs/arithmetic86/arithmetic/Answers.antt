-- What each arm calls ensures it of the arm's instruction. A search for that takes fourteen times as long.
use Rattle.std.proofs.Common.{◌∙◌, ap, sym}
use Rattle.sym_terms.specs.Term.{Num}
use Rattle.sym_block_def.specs.Block80.{operated}
use Rattle.sym_block_def.specs.Symbolic86.{with_held}
use Rattle.sym_micro.specs.Machine.{as86}
use Rattle.sym_micro.specs.Stands.{machine_of}
use Rattle.sym_micro.proofs.Alike.{on_86}
use Rattle.sym_step.specs.Arithmetic.{arithmetic86}
use Rattle.sym_step.proofs.Seen86.{of_arithmetic}
use Rattle.sym_step.proofs.arithmetic86.arithmetic.Goals as goal

pub returns-in-Alu : goal.returns-in-Alu
returns-in-Alu c = of_arithmetic c.in-Alu.is c.operate_on.ensures

pub returns-in-OrClCl : goal.returns-in-OrClCl
returns-in-OrClCl c = of_arithmetic c.in-OrClCl.is c.perform.ensures.on_86

pub returns-in-Add16 : goal.returns-in-Add16
returns-in-Add16 c = of_arithmetic c.in-Add16.is c.add_words.ensures

pub returns-in-Count8 : goal.returns-in-Count8
returns-in-Count8 c = of_arithmetic c.in-Count8.is c.count.ensures

pub returns-in-Count16 : goal.returns-in-Count16
returns-in-Count16 c = of_arithmetic c.in-Count16.is c.count_word.ensures

pub returns-in-Rotate8 : goal.returns-in-Rotate8
returns-in-Rotate8 c = of_arithmetic c.in-Rotate8.is c.rotate.ensures.on_86

pub returns-in-Rotate16 : goal.returns-in-Rotate16
returns-in-Rotate16 c = of_arithmetic c.in-Rotate16.is c.rotate_word.ensures

pub returns-in-Not8 : goal.returns-in-Not8
returns-in-Not8 c = of_arithmetic c.in-Not8.is c.complement.ensures.on_86

pub returns-in-Daa : goal.returns-in-Daa
returns-in-Daa c = of_arithmetic c.in-Daa.is c.adjust.ensures.on_86

pub returns-in-Cmc : goal.returns-in-Cmc
returns-in-Cmc c = of_arithmetic c.in-Cmc.is c.complement_carry.ensures.on_86

pub returns-in-Stc : goal.returns-in-Stc
returns-in-Stc c = of_arithmetic c.in-Stc.is c.set_carry.ensures.on_86

pub returns-in-AluNum : goal.returns-in-AluNum
returns-in-AluNum c =
    let s = as86 (machine_of c.args.terms.now c.args.run.now) in
    on_86 (ap (λ op. with_held s (operated op (Num c.in-AluNum.n) s.held)) c.op_of.ensures ∙ ap (arithmetic86 s) (sym c.in-AluNum.is)) c.operate_number.ensures.on_86

-- each call needs what the instruction needs
pub operate_on-requires : goal.operate_on-requires
operate_on-requires c = c.requires

pub operate_number-requires : goal.operate_number-requires
operate_number-requires c = c.requires

pub add_words-requires : goal.add_words-requires
add_words-requires c = c.requires

pub count-requires : goal.count-requires
count-requires c = c.requires

pub count_word-requires : goal.count_word-requires
count_word-requires c = c.requires

pub rotate-requires : goal.rotate-requires
rotate-requires c = c.requires

pub rotate_word-requires : goal.rotate_word-requires
rotate_word-requires c = c.requires

pub complement-requires : goal.complement-requires
complement-requires c = c.requires

pub adjust-requires : goal.adjust-requires
adjust-requires c = c.requires

pub complement_carry-requires : goal.complement_carry-requires
complement_carry-requires c = c.requires

pub set_carry-requires : goal.set_carry-requires
set_carry-requires c = c.requires
