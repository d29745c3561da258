use Rattle.std.proofs.Common.{◌≡◌, arith, ap, length}
use Rattle.std.specs.Vec.{vec_capacity}
use Rattle.std.proofs.lemmas.Result.{IfOk-from_err}
use Rattle.flow.specs.Graph.{nodes}
use Rattle.flow.proofs.Begins.{first_are, first_passed_on, first_queue, sized_first}
use Rattle.flow.proofs.graph.Graph.of.Goals as goal

pub invariant_of-result : goal.invariant_of-result
invariant_of-result c =
    let p = c.in_ok-program.program in
    let is = c.in_ok-program.ensures.program in
    let vertices = c.in_ok-vertices.ensures in
    let count : length c.in_ok-work.work.items ≡ length (nodes p) = omega (arith, c.in_ok-work.ensures.count, c.len.ensures, c.in_ok-vertices.vertices.ok, ap length vertices, sized_first p) in
    record {
      program = is;
      wired = c.in_ok-sources.ensures;
      found = rw vertices (first_are p is);
      passed_on = rw vertices (first_passed_on p c.in_ok-sources.sources is c.in_ok-sources.ensures);
      queue = rw vertices (first_queue p c.in_ok-work.work.items (vec_capacity c.in_ok-work.work) is count (λ k lt. c.in_ok-work.ensures.each k (omega (arith, lt, c.in_ok-work.ensures.count))) (omega (arith, c.in_ok-work.ensures.count, c.in_ok-work.ensures.room)));
      leaders = c.in_ok-leaders.ensures.leaders;
      counts = c.in_ok-leaders.ensures.counts;
    }

pub returns : goal.returns
returns c = c.in_ok-program.ensures.same

pub returns-in_err-program : goal.returns-in_err-program
returns-in_err-program c = IfOk-from_err c.from_residual.result _ c.from_residual.ensures.0

pub returns-in_err-sources : goal.returns-in_err-sources
returns-in_err-sources c = IfOk-from_err c.from_residual-in_err-sources.result _ c.from_residual-in_err-sources.ensures.0

pub returns-in_err-vertices : goal.returns-in_err-vertices
returns-in_err-vertices c = IfOk-from_err c.from_residual-in_err-vertices.result _ c.from_residual-in_err-vertices.ensures.0

pub returns-in_err-work : goal.returns-in_err-work
returns-in_err-work c = IfOk-from_err c.from_residual-in_err-work.result _ c.from_residual-in_err-work.ensures.0

pub returns-in_err-leaders : goal.returns-in_err-leaders
returns-in_err-leaders c = IfOk-from_err c.from_residual-in_err-leaders.result _ c.from_residual-in_err-leaders.ensures.0
