use Rattle.std.proofs.lemmas.Result.{IfOk-weaker, IfErr-weaker, IfOk-from_err}
use Rattle.host.specs.Host.{HostState}
use Rattle.cmd_arguments.specs.ReadCommands.{both_read}
use Rattle.cmd_common.proofs.Told.{handed_on}
use Rattle.cmd_runs.specs.declared.halt.Halt.TheVariants.{By}
use Rattle.cmd_runs.specs.Kinds.{HasRead, IsToRun}
use Rattle.cmd_runs.specs.Runs80.{kind80}
use Rattle.cmd_runs.specs.Works.{HaltsFrom, unloaded}
use Rattle.cmd_runs.specs.BothLoads.{source_of, AreToRun, no_image}
use Rattle.cmd_runs.specs.BothRuns.{work_both}
use Rattle.cmd_runs.proofs.run_both.run_imaged.Goals as goal

-- the program has no image
pub returns-in_err-image : goal.returns-in_err-image
returns-in_err-image g c =
    let command = both_read c.args.command.now in
    let program = c.args.program.now in
    let supply = c.args.devices80.now in
    let start = g.H.Host.state c.args.host.now in
    record {
      made = IfOk-from_err c.from_residual.result _ c.from_residual.ensures.0;
      came = IfOk-from_err c.from_residual.result _ c.from_residual.ensures.0;
      halted = handed_on c.from_residual.result (By c.in_err-image.field-0.0) (HaltsFrom (work_both command) (λ begin. IsToRun (kind80 (source_of command)) begin program supply) start start) c.from_residual.ensures.1
          (λ begin read. unloaded read.reads (no_image program supply read.stands read.counted c.in_err-image.ensures.stopped));
    }

pub returns : goal.returns
returns g c =
    let command = both_read c.args.command.now in
    let program = c.args.program.now in
    let supply = c.args.devices80.now in
    let start = g.H.Host.state c.args.host.now in
    let image = c.in_ok-image.image in
    let lean = c.in_ok-image.ensures.lean in
    let with_image : (begin : HostState) → HasRead (IsToRun (kind80 (source_of command)) begin program supply) begin start → HasRead (AreToRun command begin program image supply) begin start = λ begin read. record {
      stands = record { source = read.stands; lean = lean };
      reads = read.reads;
      counted = read.counted;
    } in
    record {
      made = c.run_equipped.ensures.made;
      came = IfOk-weaker c.run_equipped.result _ _ (λ last has_last begin read. has_last begin (with_image begin read)) c.run_equipped.ensures.came;
      halted = IfErr-weaker c.run_equipped.result _ _ (λ halt halts begin read. halts begin (with_image begin read)) c.run_equipped.ensures.halted;
    }
