use Rattle.std.proofs.Common.{Some, subst, sym}
use Rattle.sym_block_def.specs.Outcome.{Exit}
use Rattle.sym_block_def.specs.Block80.{goto, exit80}
use Rattle.sym_micro.specs.declared.outcome.Exit.TheVariants.{One as OneIds, Two as TwoIds}
use Rattle.sym_micro.specs.Machine.{as80}
use Rattle.sym_micro.specs.Stands.{machine_of}
use Rattle.sym_micro.specs.Exits.{FindsExit}
use Rattle.sym_micro.proofs.Found.{exit_of_way, no_exit}
use Rattle.sym_step.specs.Ways.{taken80}
use Rattle.sym_step.proofs.Where.{where_is, one_way, two_ways}
use Rattle.sym_step.proofs.exits.exit.Goals as goal

pub returns-in_err-way : goal.returns-in_err-way
returns-in_err-way c =
    let old = c.args.terms.now in
    let new = c.taken.new.terms in
    let s = as80 (machine_of old c.args.run.now) in
    let exit = exit80 c.args.program.now c.args.next s c.args.instr in
    subst (λ x. FindsExit old new 3 exit x) (sym c.from_residual.ensures) (no_exit old new 3 (taken80 c.args.program.now c.args.next s c.args.instr) exit c.in_err-way.ensures)

pub returns-in-Jif : goal.returns-in-Jif
returns-in-Jif c =
    let old = c.args.terms.now in
    let new = c.taken.new.terms in
    let p = c.args.program.now in
    let next = c.args.next in
    let s = as80 (machine_of old c.args.run.now) in
    let found = c.in_ok-way.ensures in
    subst (λ (e : Exit). FindsExit old new 3 e (Some (TwoIds c.flag_term.result c.wanted.result c.in_ok-way.way c.goto.result))) (two_ways p next s c.args.instr c.in-Jif.cond c.in-Jif.is)
    (where_is old new 3 c.args.run.now.held c.in-Jif.cond c.flag_term.result c.wanted.result c.in_ok-way.way c.goto.result (taken80 p next s c.args.instr) (goto p next)
    found.grows found.terms c.requires.given.held c.flag_term.ensures c.wanted.ensures found.gives (c.goto.ensures new))

pub returns-in_default : goal.returns-in_default
returns-in_default c =
    let old = c.args.terms.now in
    let new = c.taken.new.terms in
    let p = c.args.program.now in
    let next = c.args.next in
    let s = as80 (machine_of old c.args.run.now) in
    let d = c.in_default in
    subst (λ (e : Exit). FindsExit old new 3 e (Some (OneIds c.in_ok-way.way))) (one_way p next s c.args.instr d.not-Jif d.not-Cif d.not-Rif)
    (exit_of_way old new 3 (taken80 p next s c.args.instr) c.in_ok-way.way c.in_ok-way.ensures)
