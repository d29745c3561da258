use Rattle.std.proofs.Common.{Ok, Err, Some, ap, ◌∙◌}
use Rattle.flow.specs.Blocks.{block_at}
use Rattle.flow.specs.Solving.{Solving}
use Rattle.flow.proofs.Lookup.{block_searched, count_at}
use Rattle.flow.proofs.graph.Graph.block.Goals as goal

pub returns-in-Ok : goal.returns-in-Ok
returns-in-Ok c =
    let p = c.self.inside.program in
    let leaders = c.deref.ensures.value ∙ c.self.invariant.leaders in
    let found = block_searched p c.self.invariant.program c.args.leader (Ok c.in-Ok.number) (rw leaders at c.in-Ok.ensures.position) in
    let count = rw c.self.invariant.counts at c.index.ensures in
    ap Some (count ∙ count_at p c.in-Ok.number c.index.result.now found.0) ∙ found.1 ∙ ap (λ (s : Solving). block_at s.program c.args.leader) c.self.view_is

pub returns-in-Err : goal.returns-in-Err
returns-in-Err c =
    let p = c.self.inside.program in
    let leaders = c.deref.ensures.value ∙ c.self.invariant.leaders in
    block_searched p c.self.invariant.program c.args.leader (Err c.in-Err.field-0) (rw leaders at c.in-Err.ensures.position) ∙ ap (λ (s : Solving). block_at s.program c.args.leader) c.self.view_is
