-- What each arm calls ensures it of the arm's instruction. A search for that takes fourteen times as long.
use Rattle.std.proofs.Common.{◌∙◌, ap}
use Rattle.i80.specs.declared.Instr80.TheVariants.{Mvi, Lxi}
use Rattle.sym_micro.specs.Machine.{as80}
use Rattle.sym_micro.specs.Stands.{machine_of}
use Rattle.sym_step.proofs.Arithmetic.{no_move80}
use Rattle.sym_step.proofs.Seen80.{of_instr, of_state}
use Rattle.sym_step.proofs.steps80.step80.Goals as goal

pub returns-in-Mov : goal.returns-in-Mov
returns-in-Mov c = of_instr c.in-Mov.is c.move_source.ensures

pub returns-in-Lda : goal.returns-in-Lda
returns-in-Lda c = of_instr c.in-Lda.is c.load_byte.ensures.on_80

pub returns-in-Sta : goal.returns-in-Sta
returns-in-Sta c = of_instr c.in-Sta.is c.store_byte.ensures.on_80

pub returns-in-Lhld : goal.returns-in-Lhld
returns-in-Lhld c = of_instr c.in-Lhld.is c.load_word.ensures.on_80

pub returns-in-Shld : goal.returns-in-Shld
returns-in-Shld c = of_instr c.in-Shld.is c.store_word.ensures.on_80

pub returns-in-Ldax : goal.returns-in-Ldax
returns-in-Ldax c = of_instr c.in-Ldax.is c.load_byte-in-Ldax.ensures.on_80

pub returns-in-Stax : goal.returns-in-Stax
returns-in-Stax c = of_instr c.in-Stax.is c.store_byte-in-Stax.ensures.on_80

pub returns-in-Reg : goal.returns-in-Reg
returns-in-Reg c = of_instr (c.in-Mvi.is ∙ ap (λ to. Mvi to c.in-Mvi.n) c.in-Reg.is) c.move_byte.ensures.on_80

pub returns-in-Mem : goal.returns-in-Mem
returns-in-Mem c = of_instr (c.in-Mvi.is ∙ ap (λ to. Mvi to c.in-Mvi.n) c.in-Mem.is) c.store_number.ensures.on_80

pub returns-in-Num : goal.returns-in-Num
returns-in-Num c = of_instr (c.in-Lxi.is ∙ ap (Lxi c.in-Lxi.pair) c.in-Num.is) c.move_word.ensures.on_80

pub returns-in-Code : goal.returns-in-Code
returns-in-Code c = of_instr (c.in-Lxi.is ∙ ap (Lxi c.in-Lxi.pair) c.in-Code.is) c.move_code.ensures.on_80

pub returns-in_default : goal.returns-in_default
returns-in_default c =
    let d = c.in_default in
    of_state (no_move80 (as80 (machine_of c.args.terms.now c.args.run.now)) c.args.instr d.not-Mov d.not-Mvi d.not-Lxi d.not-Lda d.not-Sta d.not-Lhld d.not-Shld d.not-Ldax d.not-Stax) c.past_moves.ensures

-- each call needs what the instruction needs

pub move_source-requires : goal.move_source-requires
move_source-requires c = c.requires

pub load_byte-requires : goal.load_byte-requires
load_byte-requires c = c.requires

pub store_byte-requires : goal.store_byte-requires
store_byte-requires c = c.requires

pub load_word-requires : goal.load_word-requires
load_word-requires c = c.requires

pub store_word-requires : goal.store_word-requires
store_word-requires c = c.requires

pub load_byte-requires-in-Ldax : goal.load_byte-requires-in-Ldax
load_byte-requires-in-Ldax c = c.requires

pub store_byte-requires-in-Stax : goal.store_byte-requires-in-Stax
store_byte-requires-in-Stax c = c.requires

pub move_byte-requires : goal.move_byte-requires
move_byte-requires c = c.requires

pub store_number-requires : goal.store_number-requires
store_number-requires c = c.requires

pub move_word-requires : goal.move_word-requires
move_word-requires c = c.requires

pub move_code-requires : goal.move_code-requires
move_code-requires c = c.requires

pub past_moves-requires : goal.past_moves-requires
past_moves-requires c = c.requires
