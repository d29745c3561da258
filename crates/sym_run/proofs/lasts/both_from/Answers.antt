use Rattle.std.proofs.Common.{Err, subst, sym}
use Rattle.std.proofs.lemmas.Result.{err_from_is_err_and}
use Rattle.sym_run.specs.Around.{surroundings_of}
use Rattle.sym_run.specs.Ends.{BothStand, both}
use Rattle.sym_run.proofs.BothWays.{first_refused, second_refused, both_found}
use Rattle.sym_run.proofs.lasts.both_from.Goals as goal

pub returns-in_err-straight : goal.returns-in_err-straight
returns-in_err-straight c =
    let w = surroundings_of c.args.around.now in
    let p = err_from_is_err_and c.from_residual.result c.from_residual.ensures.1 in
    λ s.
    subst (λ r. BothStand s (both w c.args.room c.args.rest.now s c.args.label) r) (sym p.1)
    (subst (λ q. BothStand s (both w c.args.room c.args.rest.now s c.args.label) (Err q)) (sym p.2)
    (first_refused w c.args.room c.args.rest.now s c.args.label c.in_err-straight.field-0.0 (c.in_err-straight.ensures s)))

pub returns-in_err-jumped : goal.returns-in_err-jumped
returns-in_err-jumped c =
    let w = surroundings_of c.args.around.now in
    let p = err_from_is_err_and c.from_residual-in_err-jumped.result c.from_residual-in_err-jumped.ensures.1 in
    λ s.
    subst (λ r. BothStand s (both w c.args.room c.args.rest.now s c.args.label) r) (sym p.1)
    (subst (λ q. BothStand s (both w c.args.room c.args.rest.now s c.args.label) (Err q)) (sym p.2)
    (second_refused w c.args.room c.args.rest.now s c.args.label c.in_ok-straight.straight c.in_err-jumped.field-0.0 (c.in_ok-straight.ensures s) (c.in_err-jumped.ensures s)))

pub returns : goal.returns
returns c = λ s. both_found (surroundings_of c.args.around.now) c.args.room c.args.rest.now s c.args.label c.in_ok-straight.straight c.in_ok-jumped.jumped (c.in_ok-straight.ensures s) (c.in_ok-jumped.ensures s)
