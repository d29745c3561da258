use Rattle.std.proofs.Common.{◌≡◌, ◌<◌, ◌^◌, true, length, subst}
use Rattle.std.specs.Prelude.{IfOk}
use Rattle.std.proofs.lemmas.Result.{IfOk-from_err}
use Rattle.asm86_line_types.specs.Image.{statements}
use Rattle.asm86_line_types.specs.Order.{at_start, in_order}
use Rattle.cmd_common.proofs.Told.{handed_on}
use Rattle.cmd_check.specs.Loading.{NotLoaded, no_program, no_lines, no_image}
use Rattle.cmd_check.proofs.inputs.loaded_of.Goals as goal

pub of-requires-clause-order : goal.of-requires-clause-order
of-requires-clause-order c = subst (λ t. IfOk t (λ lines. in_order at_start (statements lines.items) ≡ true)) c.in_ok-lines.was c.requires.order

pub of-requires-clause-few : goal.of-requires-clause-few
of-requires-clause-few c = subst (λ t. IfOk t (λ lines. length lines.items < 2 ^ 28)) c.in_ok-lines.was c.requires.few

pub returns-in_err-program : goal.returns-in_err-program
returns-in_err-program c =
    record {
      loaded = IfOk-from_err c.from_residual.result _ c.from_residual.ensures.0;
      stopped = handed_on c.from_residual.result c.in_err-program.field-0.0 (NotLoaded c.args.source c.args.text) c.from_residual.ensures.1 (no_program c.in_err-program.was);
    }

pub returns-in_err-lines : goal.returns-in_err-lines
returns-in_err-lines c =
    record {
      loaded = IfOk-from_err c.from_residual-in_err-lines.result _ c.from_residual-in_err-lines.ensures.0;
      stopped = handed_on c.from_residual-in_err-lines.result c.in_err-lines.field-0.0 (NotLoaded c.args.source c.args.text) c.from_residual-in_err-lines.ensures.1 (no_lines c.in_ok-program.program c.in_ok-program.was c.in_err-lines.was);
    }

pub returns-in_err-text : goal.returns-in_err-text
returns-in_err-text c =
    record {
      loaded = IfOk-from_err c.from_residual-in_err-text.result _ c.from_residual-in_err-text.ensures.0;
      stopped = handed_on c.from_residual-in_err-text.result c.in_err-text.field-0.0 (NotLoaded c.args.source c.args.text) c.from_residual-in_err-text.ensures.1
          (no_image c.in_ok-program.program c.in_ok-lines.lines c.in_ok-program.was c.in_ok-lines.was c.in_err-text.ensures.stopped);
    }

pub returns : goal.returns
returns c =
    record {
      loaded = record {
        lines = c.in_ok-lines.lines;
        program = c.in_ok-program.was;
        gives = c.in_ok-lines.was;
        same = c.in_ok-text.ensures.lines;
        image = c.in_ok-text.ensures.image;
      };
      stopped = tt;
    }
