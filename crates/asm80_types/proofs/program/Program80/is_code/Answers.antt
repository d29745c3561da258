use Rattle.std.proofs.Common.{◌≡◌, Some, None, sym, ◌∙◌}
use Rattle.asm80_types.specs.Program.{last_from}
use Rattle.asm80_types.proofs.Lookup.{is_covered-last}
use Rattle.asm80_types.proofs.program.Program80.is_code.Goals as goal

pub returns-in-Some : goal.returns-in-Some
returns-in-Some c =
    let last : last_from c.args.self.now.instrs c.args.at ≡ Some c.in-Some.placed = sym c.last_from.ensures.value ∙ c.in-Some.is in
    rw (is_covered-last _ _ _ _ c.last_from.ensures.program.instrs, last, c.length.ensures)

pub returns-in-None : goal.returns-in-None
returns-in-None c =
    let last : last_from c.args.self.now.instrs c.args.at ≡ None = sym c.last_from.ensures.value ∙ c.in-None.is in
    rw (is_covered-last _ _ _ _ c.last_from.ensures.program.instrs, last)
