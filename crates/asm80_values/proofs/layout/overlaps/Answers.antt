use Rattle.std.proofs.Common.{sym}
use Rattle.base.specs.Addresses.{has_address}
use Rattle.asm80_values.proofs.layout.overlaps.Goals as goal
use Rattle.asm80_values.proofs.Cells.{cell_passes, cells_fail}

pub returns-then-contains : goal.returns-then-contains
returns-then-contains c =
    let h = c.contains.ensures in
    let e = c.address_of_cell.ensures in
    let t = c.if-contains.true in
    sym (cell_passes (has_address c.args.filled.now) c.args.item.now.at c.args.item.now.size c.loop-k.k c.loop-k-test.true cc)

pub loop-k-preserved : goal.loop-k-preserved
loop-k-preserved c =
    let h = c.contains.ensures in
    let e = c.address_of_cell.ensures in
    let t = c.if-contains.false in
    cells_fail (has_address c.args.filled.now) c.args.item.now.at c.loop-k.k c.loop-k.invariant cc
