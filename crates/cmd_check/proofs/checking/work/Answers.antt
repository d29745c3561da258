use Rattle.std.proofs.lemmas.Result.{IfOk-weaker, IfErr-weaker, IfOk-from_err}
use Rattle.cmd_arguments.specs.ReadCommands.{check_read}
use Rattle.cmd_common.proofs.Told.{handed_on}
use Rattle.cmd_check.specs.Checks.{Stops, unloaded, unlike}
use Rattle.cmd_check.proofs.checking.work.Goals as goal

-- there is nothing to be checked
pub returns-in_err-loaded : goal.returns-in_err-loaded
returns-in_err-loaded g c =
    let command = check_read c.args.command.now in
    let old = g.H.Host.state c.args.host.now in
    let new = g.H.Host.state c.load.new.host in
    record {
      worked = IfOk-from_err c.from_residual.result _ c.from_residual.ensures.0;
      stopped = handed_on c.from_residual.result c.in_err-loaded.field-0.0 (Stops command old new) c.from_residual.ensures.1
          (unloaded c.in_err-loaded.ensures.stopped);
    }

-- the text is not shown
pub returns : goal.returns
returns g c =
    let l = c.in_ok-loaded in
    record {
      worked = IfOk-weaker c.line_of.result _ _ (λ line says. record {
        program = l.loaded.program;
        lines = l.loaded.text.lines.items;
        blocks = says.count;
        loads = l.ensures.loaded;
        shown = says.shown;
        is = says.is;
      }) c.line_of.ensures.shown;
      stopped = IfErr-weaker c.line_of.result _ _ (λ stop why. unlike l.loaded.program l.loaded.text.lines.items l.ensures.loaded why) c.line_of.ensures.stopped;
    }
