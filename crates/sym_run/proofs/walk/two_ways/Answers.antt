use Rattle.std.proofs.Common.{false, Some, Ok, refl, subst, sym}
use Rattle.sym_block_def.specs.Outcome.{Two}
use Rattle.sym_block_def.specs.Walk86.{two_ways, flag_of_jump, jumps_at}
use Rattle.sym_micro.specs.Machine.{as86}
use Rattle.sym_micro.specs.Stands.{machine_of}
use Rattle.sym_run.specs.declared.ends.End.{End}
use Rattle.sym_run.specs.Around.{surroundings_of}
use Rattle.sym_run.specs.Ends.{WalksTo}
use Rattle.sym_run.proofs.Steps.{two_is, two_refused, exit_missing, exit_found}
use Rattle.sym_run.proofs.walk.two_ways.Goals as goal

pub returns-in_err-exit-in-Ok-clause-walks : goal.returns-in_err-exit-in-Ok-clause-walks
returns-in_err-exit-in-Ok-clause-walks c =
    let old = c.args.terms.now in
    let new = c.two_exit.new.terms in
    let r = c.args.run.now in
    let s = as86 (machine_of old r) in
    let w = surroundings_of c.args.around.now in
    let t = two_ways w c.args.room c.args.rest.now s c.args.jump c.args.label in
    let two = two_is w c.args.room c.args.rest.now s c.args.jump c.args.label c.in-Ok.straight c.in-Ok.jumped (c.in-Ok.ensures s) in
    let exit = Two (flag_of_jump s.held c.args.jump) (jumps_at c.args.jump) two.there two.here in
    subst (λ x. WalksTo old new r 6 t x) (sym c.from_residual.ensures)
    (exit_missing old new 6 r exit t c.requires (c.in_err-exit-in-Ok.ensures two.here two.there two.straight two.jumped))

pub returns-in_ok-exit-in-Ok-clause-walks : goal.returns-in_ok-exit-in-Ok-clause-walks
returns-in_ok-exit-in-Ok-clause-walks c =
    let old = c.args.terms.now in
    let new = c.two_exit.new.terms in
    let r = c.args.run.now in
    let s = as86 (machine_of old r) in
    let w = surroundings_of c.args.around.now in
    let t = two_ways w c.args.room c.args.rest.now s c.args.jump c.args.label in
    let two = two_is w c.args.room c.args.rest.now s c.args.jump c.args.label c.in-Ok.straight c.in-Ok.jumped (c.in-Ok.ensures s) in
    let exit = Two (flag_of_jump s.held c.args.jump) (jumps_at c.args.jump) two.there two.here in
    subst (λ (e : End). WalksTo old new r 6 t (Some (Ok e))) (sym c.by_exit.ensures)
    (subst (λ x. WalksTo old new r 6 x (Some (Ok (record { exit = c.in_ok-exit-in-Ok.exit; direct = false })))) (sym two.is)
    (exit_found old new 6 r exit c.in_ok-exit-in-Ok.exit c.requires (c.in_ok-exit-in-Ok.ensures two.here two.there two.straight two.jumped)))

pub returns-in-Err : goal.returns-in-Err
returns-in-Err c =
    let old = c.args.terms.now in
    let r = c.args.run.now in
    record {
      walks = two_refused old r (surroundings_of c.args.around.now) c.args.room c.args.rest.now c.args.jump c.args.label c.in-Err.reason c.requires (c.in-Err.ensures (as86 (machine_of old r)));
      refused = refl;
    }
