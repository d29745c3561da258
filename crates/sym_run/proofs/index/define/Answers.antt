use Rattle.std.proofs.Common.{◌≡◌, cond, Some, subst, sym}
use Rattle.asm86_line_types.specs.declared.line.Stmt86.{Stmt86}
use Rattle.asm86_line_types.specs.Layout.{marks}
use Rattle.asm86_line_types.specs.Image.{offset_in}
use Rattle.sym_run.proofs.index.define.Goals as goal

pub returns-in_ok-put : goal.returns-in_ok-put
returns-in_ok-put c = λ q.
    subst (λ (x : Stmt86). offset_in c.put.new.self q ≡ cond (marks q x) (Some c.args.place) (offset_in c.args.places.now q)) (sym c.in-Mark.is)
    (c.in_ok-put.ensures.ok q)
