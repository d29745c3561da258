use Rattle.std.proofs.Common.{◌≡◌, Some, None, sym, ◌∙◌, arith}
use Rattle.std.proofs.lemmas.Bool.Decides.{nat_tests}
use Rattle.asm80_types.specs.Program.{last_from}
use Rattle.asm80_types.proofs.Lookup.{placed_in-last}
use Rattle.asm80_types.proofs.program.Program80.placed_at.Goals as goal

pub returns-in-Some-clause-value : goal.returns-in-Some-clause-value
returns-in-Some-clause-value c =
    let last : last_from c.args.self.now.instrs c.args.at ≡ Some c.in-Some.placed = sym c.last_from.ensures.value ∙ c.in-Some.is in
    rw (placed_in-last _ _ _ _ c.last_from.ensures.program.instrs, last) (grind (arith, nat_tests))

pub returns-in_default-clause-value : goal.returns-in_default-clause-value
returns-in_default-clause-value c =
    let last : last_from c.args.self.now.instrs c.args.at ≡ Some c.in-Some.placed = sym c.last_from.ensures.value ∙ c.in-Some.is in
    rw (placed_in-last _ _ _ _ c.last_from.ensures.program.instrs, last) (grind (arith, nat_tests))

pub returns-in_default-2-clause-value : goal.returns-in_default-2-clause-value
returns-in_default-2-clause-value c =
    let last : last_from c.args.self.now.instrs c.args.at ≡ None = sym c.last_from.ensures.value ∙ c.in_default.is in
    rw (placed_in-last _ _ _ _ c.last_from.ensures.program.instrs, last)
