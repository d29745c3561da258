use Rattle.sym_micro.specs.Machine.{as80}
use Rattle.sym_micro.specs.Stands.{machine_of}
use Rattle.sym_step.proofs.Arithmetic.{only_arithmetic80}
use Rattle.sym_step.proofs.Seen80.{of_past_moves, of_state}
use Rattle.sym_step.proofs.stack80.past_moves.Goals as goal

pub returns-in-Xchg : goal.returns-in-Xchg
returns-in-Xchg c = of_past_moves c.in-Xchg.is c.perform.ensures.on_80

pub returns-in-Xthl : goal.returns-in-Xthl
returns-in-Xthl c = of_past_moves c.in-Xthl.is c.perform-in-Xthl.ensures.on_80

pub returns-in-Sphl : goal.returns-in-Sphl
returns-in-Sphl c = of_past_moves c.in-Sphl.is c.move_word.ensures.on_80

pub returns-in-Push : goal.returns-in-Push
returns-in-Push c = of_past_moves c.in-Push.is c.push_on.ensures

pub returns-in-Pop : goal.returns-in-Pop
returns-in-Pop c = of_past_moves c.in-Pop.is c.pop_off.ensures

pub returns-in_default : goal.returns-in_default
returns-in_default c =
    let d = c.in_default in
    of_state (only_arithmetic80 (as80 (machine_of c.args.terms.now c.args.run.now)) c.args.instr d.not-Xchg d.not-Xthl d.not-Sphl d.not-Push d.not-Pop) c.arithmetic.ensures

pub push_on-requires : goal.push_on-requires
push_on-requires c = c.requires

pub pop_off-requires : goal.pop_off-requires
pop_off-requires c = c.requires

pub arithmetic-requires : goal.arithmetic-requires
arithmetic-requires c = c.requires

pub move_word-requires : goal.move_word-requires
move_word-requires c = c.requires
