use Rattle.flow.proofs.AllNeeds.{all_needs}
use Rattle.flow.proofs.graph.Graph.needs_are_sets.Goals as goal

pub returns : goal.returns
returns c =
    let g = c.self.invariant in
    let p = c.self.inside.program in
    rw (← c.self.view_is) (all_needs p c.self.inside.sources c.self.inside.vertices.items c.self.inside.work.items _ (c.needs_are_closed.ensures p) g.wired g.found g.passed_on g.queue (rw (← c.self.view_is) at c.requires))
