use Rattle.std.proofs.Common.{◌-◌, arith}
use Rattle.asm80_types.proofs.Lookup.{top_range}
use Rattle.asm80_types.proofs.CellSearch.{cell_at-laid, length-cells}
use Rattle.asm80_types.proofs.program.Program80.cells.Goals as goal

pub returns-clause-laid : goal.returns-clause-laid
returns-clause-laid c =
    rw (c.deref.ensures.value, ← c.self.view_is) (λ k d lt.
    let cell = cell_at-laid _ _ _ _ k d c.self.invariant.0.cells lt in
    (cell.0, omega (arith, cell.1)))

pub returns-clause-few : goal.returns-clause-few
returns-clause-few c =
    let top = top_range c.self.inside.top c.self.invariant.0.top in
    rw c.deref.ensures.value (omega (arith, length-cells c.self.inside.instrs.items c.self.inside.cells.items 0x100 (c.self.inside.top - 2) c.self.invariant.0.cells (omega (arith, top))))
