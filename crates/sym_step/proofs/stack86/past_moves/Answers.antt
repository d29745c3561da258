use Rattle.std.proofs.Common.{◌∙◌, ap, sym}
use Rattle.sym_block_def.specs.Symbolic86.{push, pop}
use Rattle.sym_micro.specs.Machine.{as86}
use Rattle.sym_micro.specs.Stands.{machine_of}
use Rattle.sym_micro.proofs.Alike.{on_86}
use Rattle.sym_step.specs.Arithmetic.{past_moves86}
use Rattle.sym_step.proofs.Arithmetic.{only_arithmetic86}
use Rattle.sym_step.proofs.Seen86.{of_past_moves}
use Rattle.sym_step.proofs.stack86.past_moves.Goals as goal

pub returns-in-Xchg8 : goal.returns-in-Xchg8
returns-in-Xchg8 c = of_past_moves c.in-Xchg8.is c.exchange_bytes.ensures

pub returns-in-Xchg16 : goal.returns-in-Xchg16
returns-in-Xchg16 c = of_past_moves c.in-Xchg16.is c.exchange_words.ensures

pub returns-in-Sahf : goal.returns-in-Sahf
returns-in-Sahf c = of_past_moves c.in-Sahf.is c.perform.ensures.on_86

pub returns-in-Lahf : goal.returns-in-Lahf
returns-in-Lahf c = of_past_moves c.in-Lahf.is c.perform-in-Lahf.ensures.on_86

pub returns-in-Push : goal.returns-in-Push
returns-in-Push c =
    let s = as86 (machine_of c.args.terms.now c.args.run.now) in
    on_86 (ap (push s) c.stack_register.ensures ∙ ap (past_moves86 s) (sym c.in-Push.is)) c.push.ensures.on_86

pub returns-in-Pop : goal.returns-in-Pop
returns-in-Pop c =
    let s = as86 (machine_of c.args.terms.now c.args.run.now) in
    on_86 (ap (pop s) c.stack_register-in-Pop.ensures ∙ ap (past_moves86 s) (sym c.in-Pop.is)) c.pop.ensures

pub returns-in_default : goal.returns-in_default
returns-in_default c =
    let d = c.in_default in
    on_86 (only_arithmetic86 (as86 (machine_of c.args.terms.now c.args.run.now)) c.args.instr d.not-Push d.not-Pop d.not-Xchg8 d.not-Xchg16 d.not-Sahf d.not-Lahf) c.arithmetic.ensures

pub push-requires : goal.push-requires
push-requires c = c.requires

pub pop-requires : goal.pop-requires
pop-requires c = c.requires

pub exchange_bytes-requires : goal.exchange_bytes-requires
exchange_bytes-requires c = c.requires

pub exchange_words-requires : goal.exchange_words-requires
exchange_words-requires c = c.requires

pub arithmetic-requires : goal.arithmetic-requires
arithmetic-requires c = c.requires
