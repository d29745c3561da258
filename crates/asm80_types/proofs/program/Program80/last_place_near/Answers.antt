use Rattle.std.proofs.Common.{sym, ◌∙◌, arith}
use Rattle.asm80_types.proofs.Lookup.{last_here, length-starts}
use Rattle.asm80_types.proofs.program.Program80.last_place_near.Goals as goal

pub returns-in-Some : goal.returns-in-Some
returns-in-Some c =
    let instrs = c.self.inside.instrs.items in
    let starts = c.deref.ensures.value ∙ c.self.invariant.1 in
    let found = rw starts at c.in-Some.ensures.lookup.3 in
    rw (← c.self.view_is)
    (last_here instrs _ _ c.args.at c.args.near c.self.invariant.0.instrs (omega (arith, found.0, length-starts instrs)) (sym (found.1 0) ∙ c.if-start-at.true))
