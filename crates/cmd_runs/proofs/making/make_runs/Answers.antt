use Rattle.std.proofs.Common.{◌≡◌, ◌<◌, ℕ, List, [], ◌∷◌, length, subst}
use Rattle.std.specs.Prelude.{All}
use Rattle.std.proofs.lemmas.Result.{IfOk-from_err}
use Rattle.emulators.specs.Starts.{start_by}
use Rattle.cmd_arguments.specs.ReadCommands.{both_read}
use Rattle.cmd_common.proofs.Told.{handed_on}
use Rattle.cmd_runs.specs.Ends.{halt_of_talk}
use Rattle.cmd_runs.specs.Supplies.{fill_by}
use Rattle.cmd_runs.specs.Settings.{setting80, RunComesTo, IsRunCutOff}
use Rattle.cmd_runs.specs.Works.{HaltsFrom}
use Rattle.cmd_runs.specs.BothLoads.{AreToRun}
use Rattle.cmd_runs.specs.BothRuns.{prefix80, first_setting, work_both}
use Rattle.cmd_runs.proofs.BothMade.{filled, first_halts, second_halts, both_made}
use Rattle.cmd_runs.proofs.making.make_runs.Goals as goal

-- a fault cut the 8080's run off
pub returns-in_err-first : goal.returns-in_err-first
returns-in_err-first g c =
    let command = both_read c.args.command.now in
    let start = g.H.Host.state c.args.host.now in
    let new = g.H.Host.state c.run_program.new.host in
    let program = c.args.program.now in
    let image = c.args.image.now in
    let supply = c.args.devices80.now in
    let fault = c.in_err-first.field-0.0 in
    let cut : IsRunCutOff (first_setting command program) supply fault start new =
    subst (λ n. IsRunCutOff (setting80 command.run.page program n prefix80) supply fault start new) c.from-steps.ensures c.in_err-first.ensures.cut in
    record {
      made = IfOk-from_err c.from_residual.result _ c.from_residual.ensures.0;
      halted = handed_on c.from_residual.result (halt_of_talk fault) (HaltsFrom (work_both command) (λ begin. AreToRun command begin program image supply) start new) c.from_residual.ensures.1
          (λ begin read. first_halts command begin start program image supply read new fault cut);
    }

-- a fault cut the 8086's run off
pub returns-in_err-second : goal.returns-in_err-second
returns-in_err-second g c =
    let command = both_read c.args.command.now in
    let start = g.H.Host.state c.args.host.now in
    let mid = g.H.Host.state c.run_program.new.host in
    let new = g.H.Host.state c.run_image.new.host in
    let program = c.args.program.now in
    let image = c.args.image.now in
    let supply = c.args.devices80.now in
    let o = c.in_ok-first.first in
    let left = c.run_program.new.devices in
    let first : RunComesTo (first_setting command program) supply o left start mid =
    subst (λ n. RunComesTo (setting80 command.run.page program n prefix80) supply o left start mid) c.from-steps.ensures c.in_ok-first.ensures.run in
    let fault = c.in_err-second.field-0.0 in
    record {
      made = IfOk-from_err c.from_residual-in_err-second.result _ c.from_residual-in_err-second.ensures.0;
      halted = handed_on c.from_residual-in_err-second.result (halt_of_talk fault) (HaltsFrom (work_both command) (λ begin. AreToRun command begin program image supply) start new) c.from_residual-in_err-second.ensures.1
          (λ begin read. second_halts command begin start program image supply read mid new o left c.args.devices86.now c.limit86-limit.result first c.requires.same c.limit86-limit.ensures fault c.in_err-second.ensures.cut);
    }

pub returns-clause-made : goal.returns-clause-made
returns-clause-made g c = λ begin read.
    let command = both_read c.args.command.now in
    let start = g.H.Host.state c.args.host.now in
    let mid = g.H.Host.state c.run_program.new.host in
    let new = g.H.Host.state c.run_image.new.host in
    let program = c.args.program.now in
    let image = c.args.image.now in
    let supply = c.args.devices80.now in
    let o = c.in_ok-first.first in
    let left = c.run_program.new.devices in
    let first : RunComesTo (first_setting command program) supply o left start mid =
    subst (λ n. RunComesTo (setting80 command.run.page program n prefix80) supply o left start mid) c.from-steps.ensures c.in_ok-first.ensures.run in
    let choice = c.args.command.now.choice in
    both_made command begin start program image supply read mid new o left c.args.devices86.now c.limit86-limit.result first c.requires.same c.limit86-limit.ensures
    (record { size = subst (λ (l : List ℕ). length l ≡ 164) c.bytes.ensures.value c.bytes.ensures.len; bytes = subst (All (λ n. n < 256)) c.bytes.ensures.value c.start_is_in_range.ensures.page })
    (filled choice c.args.fill.now c.requires.fill.bytes c.requires.fill.size c.start_is_in_range.ensures.fill) c.start_is_in_range.ensures.choice
    (λ fetch. c.runs_are_one.ensures.of_86 fetch image c.args.command.now.run.page (fill_by choice) (start_by choice) (choice ∷ [])) c.line_of-line.result c.line_of-line.ensures c.in_ok-second.second c.run_image.new.devices c.in_ok-second.ensures.run
