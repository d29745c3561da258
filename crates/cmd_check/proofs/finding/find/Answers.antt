use Rattle.std.proofs.Common.{List, sym, subst}
use Rattle.std.proofs.lemmas.Result.{IfOk-from_err}
use Rattle.asm86_line_types.specs.declared.line.Line86.{Line86}
use Rattle.asm86_line_types.specs.Image.{IsImage, image_of}
use Rattle.xlt_core.specs.Names.{Same, Finding, IsFinding, IfShown}
use Rattle.cmd_common.specs.declared.stop.Stop.TheVariants.{OutOfMemory, NotShown}
use Rattle.cmd_common.proofs.Told.{handed_on}
use Rattle.cmd_check.specs.Checks.{IsShown, FindStops, not_shown, no_memory}
use Rattle.cmd_check.proofs.finding.find.Goals as goal

pub validate_loaded-requires-clause-made : goal.validate_loaded-requires-clause-made
validate_loaded-requires-clause-made c = subst (λ (l : List Line86). IsImage l c.args.text.now.image) (sym c.as_slice.ensures.value) c.requires.image

pub returns-in_err-finding : goal.returns-in_err-finding
returns-in_err-finding c =
    let stops = FindStops c.args.program.now c.args.text.now.lines.items in
    record {
      shown = IfOk-from_err c.from_residual.result _ c.from_residual.ensures.0;
      stopped = handed_on c.from_residual.result OutOfMemory stops c.from_residual.ensures.1 no_memory;
    }

pub returns-in-Shown : goal.returns-in-Shown
returns-in-Shown c =
    let p = c.args.program.now in
    let lines = c.as_slice.result.now in
    record {
      shown = subst (λ (l : List Line86). IsShown p l c.in-Shown.blocks) c.as_slice.ensures.value
          (record {
            finding = subst (λ (f : Finding). IsFinding p lines f) c.in-Shown.is c.in_ok-finding.ensures.finding;
            same = subst (λ (f : Finding). IfShown f (Same p (image_of lines))) c.in-Shown.is c.in_ok-finding.ensures.same;
          });
      stopped = tt;
    }

pub returns-in-NotShown : goal.returns-in-NotShown
returns-in-NotShown c =
    record {
      shown = tt;
      stopped = subst (λ (l : List Line86). FindStops c.args.program.now l (NotShown c.in-NotShown.at c.in-NotShown.reason)) c.as_slice.ensures.value
          (not_shown (subst (λ (f : Finding). IsFinding c.args.program.now c.as_slice.result.now f) c.in-NotShown.is c.in_ok-finding.ensures.finding));
    }
