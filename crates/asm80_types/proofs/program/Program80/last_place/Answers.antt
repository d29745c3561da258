use Rattle.std.proofs.Common.{Ok, Err, ◌∙◌, arith}
use Rattle.asm80_types.proofs.Lookup.{searched_starts}
use Rattle.asm80_types.proofs.program.Program80.last_place.Goals as goal

pub returns-in-Ok : goal.returns-in-Ok
returns-in-Ok c =
    let starts = c.deref.ensures.value ∙ c.self.invariant.1 in
    rw (← c.self.view_is) (searched_starts _ _ _ c.args.at c.self.invariant.0.instrs (Ok c.in-Ok.place) (rw starts at c.in-Ok.ensures.position))

pub returns-in-Err-eq0 : goal.returns-in-Err-eq0
returns-in-Err-eq0 c =
    let starts = c.deref.ensures.value ∙ c.self.invariant.1 in
    let found = searched_starts _ _ _ c.args.at c.self.invariant.0.instrs (Err c.in-Err-eq0.field-0) (rw starts at c.in-Err-eq0.ensures.position) in
    rw (← c.self.view_is) (found.0 (omega arith))

pub returns-in-Err : goal.returns-in-Err
returns-in-Err c =
    let starts = c.deref.ensures.value ∙ c.self.invariant.1 in
    let found = searched_starts _ _ _ c.args.at c.self.invariant.0.instrs (Err c.in-Err.gap) (rw starts at c.in-Err.ensures.position) in
    rw (← c.self.view_is) (found.1 (omega arith))
