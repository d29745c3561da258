use Rattle.std.proofs.Common.{ap, ◌∙◌}
use Rattle.std.proofs.lemmas.Result.{IfOk-from_err}
use Rattle.cmd_common.specs.declared.stop.Stop.TheVariants.{OutOfMemory}
use Rattle.cmd_common.proofs.Told.{handed_on}
use Rattle.cmd_translate.specs.Translates.{line_of_text}
use Rattle.cmd_translate.specs.TranslateWork.{TextStops, no_room}
use Rattle.cmd_translate.proofs.translation.text_of_program.Goals as goal

pub returns-in_err-lines : goal.returns-in_err-lines
returns-in_err-lines c =
    let r = c.from_residual in
    let e = c.in_err-lines in
    record {
      text = IfOk-from_err r.result _ r.ensures.0;
      fits = IfOk-from_err r.result _ r.ensures.0;
      line = IfOk-from_err r.result _ r.ensures.0;
      stopped = handed_on r.result e.field-0.0 (TextStops c.args.mode c.args.program.now) r.ensures.1 e.ensures.stopped;
    }

pub returns-in_err-line : goal.returns-in_err-line
returns-in_err-line c =
    let r = c.from_residual-in_err-line in
    record {
      text = IfOk-from_err r.result _ r.ensures.0;
      fits = IfOk-from_err r.result _ r.ensures.0;
      line = IfOk-from_err r.result _ r.ensures.0;
      stopped = handed_on r.result OutOfMemory (TextStops c.args.mode c.args.program.now) r.ensures.1 no_room;
    }

pub returns : goal.returns
returns c =
    let e = c.in_ok-lines.ensures in
    record {
      text = e.text;
      fits = e.fits;
      line = c.in_ok-line.ensures ∙ ap (line_of_text c.args.program.now) c.as_slice.ensures.value;
      stopped = tt;
    }
