use Rattle.asm80_types.specs.Taken.{place_placed}
use Rattle.asm80_types.proofs.taken.mark_placed.Goals as goal
use Rattle.asm80_types.proofs.Marks.{found_more}

pub loop-placed-preserved : goal.loop-placed-preserved
loop-placed-preserved c = λ a. found_more place_placed c.args.instrs.now c.loop-placed.placed-index _ _ a _ _ _ c.loop-placed-test.true c.place_placed.ensures (c.mark.ensures a) (c.loop-placed.invariant a)
