use Rattle.flow.specs.declared.node.Node.TheVariants.{Return}
use Rattle.flow.proofs.OneNeeds.{needs_once}
use Rattle.block_check.proofs.kept.kept_at_return.Goals as goal

pub returns-in-Needed : goal.returns-in-Needed
returns-in-Needed c = λ k h.
    let needs = rw c.in-Needed.is at h in
    needs_once c.in-Needed.graph.now.program Return c.need_return.result k.returned c.need_return.ensures needs.returned
