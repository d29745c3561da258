use Rattle.std.proofs.Common.{ap, Some}
use Rattle.asm80_types.proofs.Lookup.{last_from-at, laid_at}
use Rattle.asm80_types.proofs.program.Program80.last_near.Goals as goal

pub returns-in-Some-clause-value : goal.returns-in-Some-clause-value
returns-in-Some-clause-value c =
    rw (← c.self.view_is, last_from-at _ _ _ _ c.in-Some.place c.index.result.now c.self.invariant.0.instrs (rw (← c.self.view_is) at c.in-Some.ensures)) (ap Some c.index.ensures)

pub returns-in-Some-clause-laid : goal.returns-in-Some-clause-laid
returns-in-Some-clause-laid c =
    let last = rw (← c.self.view_is) at c.in-Some.ensures in
    rw (← c.self.view_is, c.index.ensures) (laid_at _ _ _ c.in-Some.place c.index.result.now c.self.invariant.0.instrs last.within)
