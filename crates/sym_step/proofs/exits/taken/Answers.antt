use Rattle.std.proofs.Common.{Some, refl, subst, sym}
use Rattle.cells.specs.declared.Place.TheVariants.{At}
use Rattle.i80.specs.declared.Instr80.{Instr80}
use Rattle.sym_terms.specs.Trees.{tree_in}
use Rattle.sym_block_def.specs.Outcome.{Way, ByTerms, Boot, In, Out}
use Rattle.sym_block_def.specs.Block80.{goto, jump, call, asking}
use Rattle.sym_micro.specs.declared.outcome.Way.TheVariants.{ByTerms as ByTermsIds, Boot as BootIds}
use Rattle.sym_micro.specs.Machine.{as80}
use Rattle.sym_micro.specs.Stands.{machine_of}
use Rattle.sym_micro.specs.Exits.{FindsWay}
use Rattle.sym_step.specs.Ways.{taken80}
use Rattle.sym_step.proofs.Where.{way_found, by_jump, by_call, by_return, goes_straight}
use Rattle.sym_step.proofs.exits.taken.Goals as goal

pub returns-in-Pchl : goal.returns-in-Pchl
returns-in-Pchl c =
    let old = c.args.terms.now in
    let p = c.args.program.now in
    let next = c.args.next in
    let s = as80 (machine_of old c.args.run.now) in
    let held = c.args.run.now.held in
    let given = c.requires.given.held in
    subst (λ (i : Instr80). FindsWay old old 3 (taken80 p next s i) (Some (ByTermsIds held.h held.l))) (sym c.in-Pchl.is)
    (way_found old 3 (ByTerms (tree_in old held.h) (tree_in old held.l)) (ByTermsIds held.h held.l) c.requires.terms (record { given = (given.h, given.l); is = refl }))

pub returns-in-Jmp : goal.returns-in-Jmp
returns-in-Jmp c =
    let old = c.args.terms.now in
    let p = c.args.program.now in
    let next = c.args.next in
    let s = as80 (machine_of old c.args.run.now) in
    subst (λ (w : Way). FindsWay old old 3 w (Some c.jump.result)) (by_jump p next s c.args.instr c.in-Jmp.goal c.in-Jmp.is)
    (way_found old 3 (jump p c.in-Jmp.goal) c.jump.result c.requires.terms (c.jump.ensures old))

pub returns-in-Call : goal.returns-in-Call
returns-in-Call c =
    let old = c.args.terms.now in
    let p = c.args.program.now in
    let next = c.args.next in
    let s = as80 (machine_of old c.args.run.now) in
    subst (λ (w : Way). FindsWay old old 3 w (Some c.call.result)) (by_call p next s c.args.instr c.in-Call.goal c.in-Call.is)
    (way_found old 3 (call p next c.in-Call.goal) c.call.result c.requires.terms (c.call.ensures old))

pub returns-in-Ret : goal.returns-in-Ret
returns-in-Ret c =
    let old = c.args.terms.now in
    let p = c.args.program.now in
    let next = c.args.next in
    let s = as80 (machine_of old c.args.run.now) in
    subst (λ (w : Way). FindsWay old c.return_way.new.terms 3 w c.return_way.result) (by_return p next s c.args.instr c.in-Ret.is) c.return_way.ensures

pub returns-in-Rst0 : goal.returns-in-Rst0
returns-in-Rst0 c =
    let old = c.args.terms.now in
    let p = c.args.program.now in
    let next = c.args.next in
    let s = as80 (machine_of old c.args.run.now) in
    subst (λ (i : Instr80). FindsWay old old 3 (taken80 p next s i) (Some BootIds)) (sym c.in-Rst0.is)
    (way_found old 3 Boot BootIds c.requires.terms (record { given = tt; is = refl }))

pub returns-in-In : goal.returns-in-In
returns-in-In c =
    let old = c.args.terms.now in
    let p = c.args.program.now in
    let next = c.args.next in
    let s = as80 (machine_of old c.args.run.now) in
    subst (λ (i : Instr80). FindsWay old old 3 (taken80 p next s i) (Some c.if_starts.result)) (sym c.in-In.is)
    (way_found old 3 (asking p next (In c.in-In.port)) c.if_starts.result c.requires.terms (c.if_starts.ensures old (In c.in-In.port (At next)) (record { given = tt; is = refl })))

pub returns-in-Out : goal.returns-in-Out
returns-in-Out c =
    let old = c.args.terms.now in
    let p = c.args.program.now in
    let next = c.args.next in
    let s = as80 (machine_of old c.args.run.now) in
    subst (λ (i : Instr80). FindsWay old old 3 (taken80 p next s i) (Some c.if_starts-in-Out.result)) (sym c.in-Out.is)
    (way_found old 3 (asking p next (Out c.in-Out.port)) c.if_starts-in-Out.result c.requires.terms (c.if_starts-in-Out.ensures old (Out c.in-Out.port (At next)) (record { given = tt; is = refl })))

pub returns-in_default : goal.returns-in_default
returns-in_default c =
    let old = c.args.terms.now in
    let p = c.args.program.now in
    let next = c.args.next in
    let d = c.in_default in
    subst (λ (w : Way). FindsWay old old 3 w (Some c.goto.result))
    (goes_straight p next (as80 (machine_of old c.args.run.now)) c.args.instr d.not-Pchl d.not-Jmp d.not-Jif d.not-Call d.not-Cif d.not-Ret d.not-Rif d.not-Rst0 d.not-In d.not-Out)
    (way_found old 3 (goto p next) c.goto.result c.requires.terms (c.goto.ensures old))
