use Rattle.asm80_values.proofs.program.push_cells.Goals as goal
use Rattle.asm80_values.proofs.Laying.{laid_more}

pub loop-k-preserved : goal.loop-k-preserved
loop-k-preserved c = laid_more c.args.at c.args.cells.now c.loop-k.k _ c.args.laid.now.items _ _ _ c.loop-k-test.true c.address_of_cell.ensures c.loop-k.invariant c.in_ok-push.ensures.items
