use Rattle.std.proofs.Common.{◌-◌, arith}
use Rattle.asm80_types.proofs.Lookup.{laid_at, length-laid, top_range}
use Rattle.asm80_types.proofs.program.Program80.instrs.Goals as goal

pub returns-clause-laid : goal.returns-clause-laid
returns-clause-laid c = rw (c.deref.ensures.value, ← c.self.view_is) (λ k d lt. laid_at _ _ _ k d c.self.invariant.0.instrs lt)

pub returns-clause-few : goal.returns-clause-few
returns-clause-few c =
    let top = top_range c.self.inside.top c.self.invariant.0.top in
    rw c.deref.ensures.value (omega (arith, length-laid c.self.inside.instrs.items 0x100 (c.self.inside.top - 2) c.self.invariant.0.instrs (omega (arith, top))))
