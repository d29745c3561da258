use Rattle.std.proofs.Common.{sym, subst}
use Rattle.flow.specs.declared.node.Node.TheVariants.{Start}
use Rattle.flow.specs.Solving.{AreNeeds}
use Rattle.flow.proofs.AllNeeds.{none_needed}
use Rattle.block_check.specs.Kept.{AreKept}
use Rattle.block_check.proofs.kept.needed_at.Goals as goal

-- no instruction starts there
pub returns-in-None-need : goal.returns-in-None-need
returns-in-None-need c =
    let p = c.args.graph.now.program in
    subst (λ block. AreKept p c.args.at block c.none.result) c.in-Some.ensures
    (subst (λ keep. AreNeeds p (Start c.args.at) keep) (sym c.none.ensures) (none_needed p c.args.at (c.needs_are_closed.ensures p) (sym c.in-None-need.ensures.start)))
