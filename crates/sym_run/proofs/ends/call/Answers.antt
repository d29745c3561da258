use Rattle.std.proofs.Common.{Ok, Err, ◌∙◌, ap, subst, sym}
use Rattle.std.proofs.lemmas.Result.{err_from_is_err_and}
use Rattle.dialogue.specs.Tried.{try_then}
use Rattle.sym_block_def.specs.Walk86.{call_way, one_way}
use Rattle.sym_run.specs.declared.ends.End.{End}
use Rattle.sym_run.specs.Around.{surroundings_of}
use Rattle.sym_run.specs.Ends.{EndsWithoutTerm}
use Rattle.sym_run.proofs.Ending.{call_ends, call_refused}
use Rattle.sym_run.proofs.ends.call.Goals as goal

pub returns : goal.returns
returns c =
    let way = call_way (surroundings_of c.args.around.now) c.args.rest.now c.args.label in
    subst (λ (e : End). EndsWithoutTerm (λ s. try_then way (one_way s)) (Ok e)) (sym c.by_exit.ensures)
    (call_ends way c.in_ok-way.way c.in_ok-way.ensures)

pub returns-in_err-way : goal.returns-in_err-way
returns-in_err-way c =
    let way = call_way (surroundings_of c.args.around.now) c.args.rest.now c.args.label in
    let e = err_from_is_err_and c.from_residual.result c.from_residual.ensures.1 in
    subst (EndsWithoutTerm (λ s. try_then way (one_way s))) (sym (e.1 ∙ ap Err e.2))
    (call_refused way c.in_err-way.field-0.0 c.in_err-way.ensures)
