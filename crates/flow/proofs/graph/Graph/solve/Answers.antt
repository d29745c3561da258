use Rattle.std.proofs.Common.{◌≡◌, List, Vec, Global, arith, ap, sym, subst, length}
use Rattle.std.proofs.lemmas.List.{with_items_is}
use Rattle.std.specs.Prelude.{◌==◌}
use Rattle.std.specs.Vec.{vec_capacity, with_items}
use Rattle.flow.specs.declared.search.Vertex.{Vertex}
use Rattle.flow.specs.Search.{IsQueue, AreVerticesOf, IsPassedOn}
use Rattle.flow.proofs.Credits.{visits_left-all}
use Rattle.flow.proofs.graph.Graph.solve.Goals as goal

pub run-requires-clause-within : goal.run-requires-clause-within
run-requires-clause-within g c = λ j k among.
    omega (arith, (c.self.invariant.wired.into j k among).0, c.self.invariant.found.sized, ap length c.deref_mut.ensures.value)

pub returns-clause-cost : goal.returns-clause-cost
returns-clause-cost g c =
    let ss = c.self.inside.sources in
    let all = visits_left-all ss c.deref_mut.result.now in
    rw (← c.self.view_is) (omega (arith, c.run.ensures.cost, all, c.self.invariant.wired.edges))

pub run-requires-clause-queue : goal.run-requires-clause-queue
run-requires-clause-queue g c =
    subst (λ vs. IsQueue vs c.self.inside.work.items (vec_capacity c.self.inside.work)) (sym c.deref_mut.ensures.value) c.self.invariant.queue

pub returns-clause-solved : goal.returns-clause-solved
returns-clause-solved g c = ap (λ xs. length xs == 0) c.run.ensures.done

-- what was written back is the whole list
written_back : (v : Vec Vertex Global) (xs ys : List Vertex) → length xs ≡ length ys → ys ≡ v.items → (with_items v xs).items ≡ xs
written_back v xs ys same e = let len = ap length e in with_items_is v xs (omega (arith, same, len, v.ok))

pub invariant_of-self : goal.invariant_of-self
invariant_of-self g c =
    let i = c.self.inside in
    let old = c.self.invariant in
    let value = c.deref_mut.ensures.value in
    let round = c.run.ensures.round in
    let whole = sym (written_back i.vertices c.run.new.vertices c.deref_mut.result.now round.same_length value) in
    record {
      program = old.program;
      wired = old.wired;
      found = subst (AreVerticesOf i.program) whole (round.needs i.program old.wired (subst (AreVerticesOf i.program) (sym value) old.found));
      passed_on = subst (IsPassedOn i.sources) whole (round.passed_on (subst (IsPassedOn i.sources) (sym value) old.passed_on));
      queue = subst (λ vs. IsQueue vs c.run.new.work.items (vec_capacity c.run.new.work)) whole c.run.ensures.queue;
      leaders = old.leaders;
      counts = old.counts;
    }
