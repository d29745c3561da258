use Rattle.asm80_types.specs.Taken.{place_in_cell}
use Rattle.asm80_types.proofs.taken.mark_in_cells.Goals as goal
use Rattle.asm80_types.proofs.Marks.{found_more}

pub loop-cell-preserved : goal.loop-cell-preserved
loop-cell-preserved c = λ a. found_more place_in_cell c.args.cells.now c.loop-cell.cell-index _ _ a _ _ _ c.loop-cell-test.true c.place_in_cell.ensures (c.mark.ensures a) (c.loop-cell.invariant a)
