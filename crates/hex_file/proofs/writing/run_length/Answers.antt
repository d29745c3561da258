use Rattle.std.proofs.Common.{sym, ap, ◌∙◌, ◌+◌, arith}
use Rattle.hex_file.proofs.Running.{adjacent_first, adjacent_more, cell_after}
use Rattle.hex_file.proofs.writing.run_length.Goals as goal

pub loop-count-init : goal.loop-count-init
loop-count-init c = record { some = omega arith; within = omega (arith, c.requires); most = omega arith; adjacent = adjacent_first c.args.cells.now }

pub loop-count-preserved : goal.loop-count-preserved
loop-count-preserved c =
    let within = c.if-count-cells.true in
    let below = c.loop-count-test.true in
    record {
      some = omega arith;
      within = omega (arith, within);
      most = omega (arith, below);
      adjacent = adjacent_more _ c.args.cells.now c.loop-count.count within (sym c.from.ensures ∙ c.if-from-first.true ∙ ap (λ n. n + c.loop-count.count) c.from-first.ensures) c.loop-count.invariant.adjacent;
    }

pub returns-else-from-first-clause-longest : goal.returns-else-from-first-clause-longest
returns-else-from-first-clause-longest c = λ byte others e.
    let next = (cell_after c.args.cells.now others c.loop-count.count _ byte e).1 in
    absurd (c.if-from-first.false (c.from.ensures ∙ next ∙ ap (λ n. n + c.loop-count.count) (sym c.from-first.ensures)))

pub returns-else-count-cells-clause-longest : goal.returns-else-count-cells-clause-longest
returns-else-count-cells-clause-longest c = λ byte others e.
    let lt = (cell_after c.args.cells.now others c.loop-count.count _ byte e).0 in
    absurd (omega (arith, lt, c.if-count-cells.false))

pub returns-after-loop-count-clause-longest : goal.returns-after-loop-count-clause-longest
returns-after-loop-count-clause-longest c = λ byte others e.
    let most = c.loop-count.invariant.most in
    omega (arith, most, c.loop-count-test.false)
