use Rattle.std.proofs.Common.{sym}
use Rattle.flow.proofs.Complete.{read_needs}
use Rattle.flow.proofs.Wires.{is_start-true, is_start-false, number_contained}
use Rattle.flow.proofs.graph.Graph.need.Goals as goal

pub returns-in_err-number-clause-start : goal.returns-in_err-number-clause-start
returns-in_err-number-clause-start c = rw (c.from_residual.ensures, ← c.self.view_is) (sym (is_start-false c.self.inside.program c.args.at c.in_err-number.ensures))

pub returns-clause-start : goal.returns-clause-start
returns-clause-start c = rw (← c.self.view_is) (sym (is_start-true c.self.inside.program c.args.at (number_contained c.self.inside.program c.in_ok-number.number _ c.in_ok-number.ensures)))

pub returns-clause-needs : goal.returns-clause-needs
returns-clause-needs c =
    let g = c.self.invariant in
    rw (← c.self.view_is) (read_needs c.self.inside.program c.self.inside.sources c.self.inside.vertices.items c.self.inside.work.items _ c.in_ok-number.number _ c.index.result.now g.wired g.found g.passed_on g.queue (rw (← c.self.view_is) at c.requires) c.in_ok-number.ensures c.index.ensures)
