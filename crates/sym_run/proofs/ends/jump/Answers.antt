use Rattle.std.proofs.Common.{Ok, subst, sym}
use Rattle.sym_block_def.specs.Walk86.{after_label, way_to, walk_jump, go_behind, one_way}
use Rattle.sym_run.specs.declared.ends.End.{End}
use Rattle.sym_run.specs.declared.ends.Next.TheVariants.{Ends as EndsSo}
use Rattle.sym_run.specs.Ends.{Goes}
use Rattle.sym_run.proofs.Ending.{way_ends}
use Rattle.sym_run.proofs.ends.jump.Goals as goal

pub returns-in-Some : goal.returns-in-Some
returns-in-Some c =
    let way = way_to c.args.label in
    let rest = after_label c.args.around.now.text.now c.args.label in
    subst (λ (e : End). Goes (λ s on. walk_jump (one_way s) (go_behind (on s) rest) way) (EndsSo (Ok e))) (sym c.by_exit.ensures)
    (λ on. way_ends way (λ s. go_behind (on s) rest) c.in-Some.way c.in-Some.ensures)
