use Rattle.std.proofs.Common.{◌≡◌, ℕ, ◌-◌, List, refl, ap, ◌∙◌}
use Rattle.std.proofs.lemmas.Result.{IfOk-from_err}
use Rattle.cells.specs.declared.Cell.{Cell}
use Rattle.cells.specs.declared.Flags.{Flags}
use Rattle.cells.specs.declared.Place.TheVariants.{At}
use Rattle.cells.specs.Conditions.{unknown_flags}
use Rattle.asm80_types.specs.Program.{Program}
use Rattle.cpu80_tagged.specs.State.{State80, Regs80, junk_regs}
use Rattle.cpu80_tagged.specs.Start.{start_cell80, start80}
use Rattle.cpu80_tagged.proofs.processor.Cpu80.new.Goals as goal

-- the parts of the state at the start
as_started : (p : Program) (page : List ℕ) (regs : Regs80) (flags : Flags) (top : ℕ) (mem : ℕ → Cell) → regs ≡ junk_regs → flags ≡ unknown_flags → top ≡ p.top → mem ≡ start_cell80 p page → ◌≡◌ {A = State80} (record { regs = regs; flags = flags; sp = top - 2; mem = mem; place = At 0x100; dma = 0x80 }) (start80 p page)
as_started p page regs flags top mem a b c d = cc

pub returns-in_err-start_memory : goal.returns-in_err-start_memory
returns-in_err-start_memory c =
    let r = c.from_residual in
    record {
      start = IfOk-from_err r.result _ r.ensures.0;
      asked = IfOk-from_err r.result _ r.ensures.0;
      machine = IfOk-from_err r.result _ r.ensures.0;
    }

pub returns-in_err-uses_of_cells : goal.returns-in_err-uses_of_cells
returns-in_err-uses_of_cells c =
    let r = c.from_residual-in_err-uses_of_cells in
    record {
      start = IfOk-from_err r.result _ r.ensures.0;
      asked = IfOk-from_err r.result _ r.ensures.0;
      machine = IfOk-from_err r.result _ r.ensures.0;
    }

pub returns : goal.returns
returns c = record {
  start =
      as_started c.args.program.now c.args.page.now _ c.unknown.result c.top.result _ c.junk.ensures c.unknown.ensures c.top.ensures.value
      (c.in_ok-start_memory.ensures.cells ∙ ap (start_cell80 c.args.program.now) c.bytes.ensures.value);
  asked = refl;
  machine = record { uses = c.in_ok-uses_of_cells.ensures; place = c.top.ensures.program.first; phase = tt };
}
