use Rattle.std.proofs.Common.{◌≡◌, ◌-◌, Some, None, sym, arith}
use Rattle.std.proofs.lemmas.Bool.Decides.{nat_tests}
use Rattle.asm80_types.specs.Program.{last_from}
use Rattle.asm80_types.proofs.Lookup.{placed_in-last, length-laid, top_range}
use Rattle.asm80_types.proofs.program.Program80.instr_near.Goals as goal

pub returns-in-Some-clause-value : goal.returns-in-Some-clause-value
returns-in-Some-clause-value c =
    let last : last_from c.args.self.now.instrs c.args.at ≡ Some c.in-Some.placed = sym c.in-Some.ensures.value in
    rw (placed_in-last _ _ _ _ c.last_near.ensures.program.instrs, last) (grind (arith, nat_tests))

pub returns-in-Some-clause-few : goal.returns-in-Some-clause-few
returns-in-Some-clause-few c =
    let p = c.args.self.now in
    let laws = c.last_near.ensures.program in
    let top = top_range p.top laws.top in
    omega (arith, c.in-Some.ensures.place.0, length-laid p.instrs 0x100 (p.top - 2) laws.instrs (omega (arith, top)))

pub returns-in_default-clause-value : goal.returns-in_default-clause-value
returns-in_default-clause-value c =
    let last : last_from c.args.self.now.instrs c.args.at ≡ Some c.in-Some.placed = sym c.in-Some.ensures.value in
    rw (placed_in-last _ _ _ _ c.last_near.ensures.program.instrs, last) (grind (arith, nat_tests))

pub returns-in_default-2-clause-value : goal.returns-in_default-2-clause-value
returns-in_default-2-clause-value c =
    let last : last_from c.args.self.now.instrs c.args.at ≡ None = sym (rw c.in_default.is at c.last_near.ensures.value) in
    rw (placed_in-last _ _ _ _ c.last_near.ensures.program.instrs, last)
