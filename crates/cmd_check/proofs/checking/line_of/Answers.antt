use Rattle.std.proofs.lemmas.Result.{IfOk-from_err}
use Rattle.cmd_common.specs.declared.stop.Stop.TheVariants.{OutOfMemory}
use Rattle.cmd_common.proofs.Told.{handed_on}
use Rattle.cmd_check.specs.Checks.{FindStops, no_memory}
use Rattle.cmd_check.proofs.checking.line_of.Goals as goal

-- the text is not shown
pub returns-in_err-count : goal.returns-in_err-count
returns-in_err-count c =
    let stops = FindStops c.args.program.now c.args.text.now.lines.items in
    record {
      shown = IfOk-from_err c.from_residual.result _ c.from_residual.ensures.0;
      stopped = handed_on c.from_residual.result c.in_err-count.field-0.0 stops c.from_residual.ensures.1 c.in_err-count.ensures.stopped;
    }

pub returns-in_err-shown_line : goal.returns-in_err-shown_line
returns-in_err-shown_line c =
    let stops = FindStops c.args.program.now c.args.text.now.lines.items in
    record {
      shown = IfOk-from_err c.from_residual-in_err-shown_line.result _ c.from_residual-in_err-shown_line.ensures.0;
      stopped = handed_on c.from_residual-in_err-shown_line.result OutOfMemory stops c.from_residual-in_err-shown_line.ensures.1 no_memory;
    }

pub returns : goal.returns
returns c =
    record {
      shown = record { count = c.in_ok-count.count; shown = c.in_ok-count.ensures.shown; is = c.in_ok-shown_line.ensures };
      stopped = tt;
    }
