use Rattle.std.proofs.Common.{◌≡◌, ◌+◌, false, sym}
use Rattle.i80.specs.Columns.{length80}
use Rattle.asm80_types.specs.Program.{is_start}
use Rattle.flow.proofs.Saved.{saves_some, saves_none}
use Rattle.flow.proofs.saving.saves.Goals as goal

pub returns-in-Some-clause-saves : goal.returns-in-Some-clause-saves
returns-in-Some-clause-saves c =
    let needs = rw (c.requires.program, c.length.ensures) at c.in-Some.ensures.needs in
    saves_some c.args.program.now c.args.at c.in_ok-instr.instr c.in-Some.need c.saved_of.result (sym c.in_ok-instr.ensures.value) needs c.saved_of.ensures

pub returns-in-None-clause-saves : goal.returns-in-None-clause-saves
returns-in-None-clause-saves c =
    let none : false ≡ is_start c.args.program.now (c.args.at + length80 c.in_ok-instr.instr) = rw (c.requires.program, c.length.ensures) at c.in-None.ensures.start in
    rw c.none.ensures (saves_none c.args.program.now c.args.at c.in_ok-instr.instr (sym c.in_ok-instr.ensures.value) (sym none))
