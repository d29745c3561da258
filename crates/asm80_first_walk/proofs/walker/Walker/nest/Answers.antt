use Rattle.std.proofs.Common.{refl}
use Rattle.asm80_first_walk.proofs.Nesting.{popped}
use Rattle.asm80_first_walk.proofs.walker.Walker.nest.Goals as goal

pub returns-in-EndIf : goal.returns-in-EndIf
returns-in-EndIf c =
    let left = popped _ c.self.inside.ifs.items c.pop.new.self.items c.pop.result _ _ c.pop.ensures.items c.pop.ensures.cases c.pop.ensures.rest in
    rw (c.in-Some.is, c.in-EndIf.is, left, ← c.self.view_is) refl
