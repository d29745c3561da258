use Rattle.flow.specs.declared.node.Node.TheVariants.{Return}
use Rattle.asm80_types.specs.Program.{starts}
use Rattle.std.proofs.Common.{length}
use Rattle.flow.proofs.Complete.{read_needs}
use Rattle.flow.proofs.Numbers.{number_of_return}
use Rattle.flow.proofs.graph.Graph.need_return.Goals as goal

pub returns : goal.returns
returns c =
    let g = c.self.invariant in
    let p = c.self.inside.program in
    rw (← c.self.view_is) (read_needs p c.self.inside.sources c.self.inside.vertices.items c.self.inside.work.items _ (length (starts p)) Return c.index.result.now g.wired g.found g.passed_on g.queue (rw (← c.self.view_is) at c.requires) (number_of_return p) (rw c.starts.ensures at c.index.ensures))
