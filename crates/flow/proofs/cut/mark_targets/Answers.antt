use Rattle.std.proofs.Common.{◌∙◌, rules}
use Rattle.flow.specs.Blocks.{target_placed}
use Rattle.asm80_types.proofs.Marks.{found_one, found_more}
use Rattle.flow.proofs.cut.mark_targets.Goals as goal
use Rattle.flow.proofs.cut.mark_targets.Goals.{in-Some, in_default}

pub loop-placed-preserved : goal.loop-placed-preserved
loop-placed-preserved c = λ a. found_more target_placed c.args.instrs.now c.loop-placed.placed-index _ c.target_placed.result a _ _ _ c.loop-placed-test.true c.target_placed.ensures
    (elim c.match-target_placed.branch [
      | in-Some w ↦ rw (w.set-is, w.in-Some.is) (w.insert.ensures.value a ∙ found_one _ _)
      | in_default w ↦ rw (w.set-is, w.in_default.is) (search rules)
    ])
    (c.loop-placed.invariant a)
