use Rattle.std.proofs.Common.{Ok, Err, subst, sym}
use Rattle.sym_block_def.specs.declared.reason.Reason.TheVariants.{Form}
use Rattle.sym_block_def.specs.Walk86.{way_to, walk_jump, one_way}
use Rattle.sym_run.specs.declared.ends.End.{End}
use Rattle.sym_run.specs.Ends.{EndsWithoutTerm}
use Rattle.sym_run.proofs.Ending.{way_ends}
use Rattle.sym_run.proofs.ends.end_at.Goals as goal

pub returns-in-Some : goal.returns-in-Some
returns-in-Some c =
    let way = way_to c.args.label in
    subst (λ (e : End). EndsWithoutTerm (λ s. walk_jump (one_way s) (Err Form) way) (Ok e)) (sym c.by_exit.ensures)
    (way_ends way (λ s. Err Form) c.in-Some.way c.in-Some.ensures)
