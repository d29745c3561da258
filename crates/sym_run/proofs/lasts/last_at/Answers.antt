use Rattle.std.proofs.Common.{subst, sym}
use Rattle.asm86_line_types.specs.declared.line.Stmt86.{Stmt86}
use Rattle.sym_block_def.specs.Walk86.{way_by}
use Rattle.sym_run.specs.Around.{surroundings_of}
use Rattle.sym_run.specs.Ends.{LastStands}
use Rattle.sym_run.proofs.lasts.last_at.Goals as goal

pub returns-in-Run : goal.returns-in-Run
returns-in-Run c =
    let w = surroundings_of c.args.around.now in
    λ s on. subst (λ (x : Stmt86). LastStands s (way_by w s on c.args.rest.now x) c.last_of.result) (sym c.in-Run.is)
    (c.last_of.ensures w s on c.args.rest.now)
