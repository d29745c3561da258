use Rattle.std.proofs.lemmas.Result.{IfOk-from_err}
use Rattle.cmd_arguments.specs.ReadCommands.{both_read}
use Rattle.cmd_common.proofs.Told.{handed_on}
use Rattle.cmd_runs.specs.declared.halt.Halt.TheVariants.{By}
use Rattle.cmd_runs.specs.Supplies.{given_of}
use Rattle.cmd_runs.specs.Kinds.{IsNamed, no_disk}
use Rattle.cmd_runs.specs.Runs80.{kind80}
use Rattle.cmd_runs.specs.Works.{HaltsFrom, unloaded}
use Rattle.cmd_runs.specs.BothLoads.{source_of, unloaded as no_source}
use Rattle.cmd_runs.specs.BothRuns.{work_both}
use Rattle.cmd_runs.proofs.run_both.run_over.Goals as goal

-- the disk's file is none
pub returns-in_err-devices86 : goal.returns-in_err-devices86
returns-in_err-devices86 g c =
    let command = both_read c.args.command.now in
    let program = c.args.program.now in
    let s = c.args.supplies in
    let given = given_of s.input.items s.disk.items s.ports.items in
    let start = g.H.Host.state c.args.host.now in
    record {
      made = IfOk-from_err c.from_residual.result _ c.from_residual.ensures.0;
      came = IfOk-from_err c.from_residual.result _ c.from_residual.ensures.0;
      halted = handed_on c.from_residual.result (By c.in_err-devices86.field-0.0) (HaltsFrom (work_both command) (λ begin. IsNamed (kind80 (source_of command)) begin program given) start start) c.from_residual.ensures.1
          (λ begin read. unloaded read.reads (no_source (no_disk program given read.stands read.counted c.in_err-devices86.ensures.stopped)));
    }

pub returns : goal.returns
returns g c = record { made = c.run_beside.ensures.made; came = c.run_beside.ensures.came; halted = c.run_beside.ensures.halted }
