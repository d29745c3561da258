use Rattle.flow.specs.Blocks.{block_at}
use Rattle.block_check.proofs.Needed.{kept_once}
use Rattle.block_check.proofs.kept.kept_from.Goals as goal

pub returns-in-Needed : goal.returns-in-Needed
returns-in-Needed c = λ k h.
    let p = c.in-Needed.graph.now.program in
    let needs = rw c.in-Needed.is at h in
    kept_once p c.args.at (block_at p c.args.at) c.needed_at.result (k.at c.args.at) c.needed_at.ensures (needs.at c.args.at)
