use Rattle.std.proofs.Common.{subst, sym}
use Rattle.sym_block_def.specs.Walk86.{after_label}
use Rattle.sym_run.specs.Places.{IsPlace}
use Rattle.sym_run.proofs.index.Index86.behind.Goals as goal

pub returns : goal.returns
returns c =
    let items = c.self.inside.statements.items in
    subst (λ xs. IsPlace xs c.get.result (after_label xs c.args.label)) c.self.view_is
    (subst (λ o. IsPlace items o (after_label items c.args.label)) (sym c.get.ensures) (c.self.invariant c.args.label))
