use Rattle.std.proofs.Common.{List, Bor, ℕ, option_map, refl, subst}
use Rattle.std.proofs.lemmas.Result.{IfOk-from_err}
use Rattle.templates.specs.Translation.{IsText}
use Rattle.cmd_common.proofs.Told.{handed_on}
use Rattle.cmd_translate.specs.Translates.{mode_of}
use Rattle.cmd_translate.specs.TranslateWork.{TextStops, LosesText, no_text, not_written}
use Rattle.cmd_translate.proofs.TranslateWorking.{written_out}
use Rattle.cmd_translate.proofs.translation.write_translation.Goals as goal

pub returns-in_err-text : goal.returns-in_err-text
returns-in_err-text g c =
    let mode = mode_of c.args.command.now.plain in
    let kept = option_map (λ (b : Bor (List ℕ)). b.now) c.args.kept in
    let p = c.args.program.now in
    let old = g.H.Host.state c.args.host.now in
    let stop = c.in_err-text.field-0.0 in
    let r = c.from_residual in
    record {
      written = IfOk-from_err r.result _ r.ensures.0;
      stopped = handed_on r.result stop (LosesText mode kept p c.args.command.now.output.now old old) r.ensures.1 (no_text refl (subst (λ m. TextStops m p stop) c.mode_of.ensures c.in_err-text.ensures.stopped));
    }

pub returns-in_err-write_kept : goal.returns-in_err-write_kept
returns-in_err-write_kept g c =
    let mode = mode_of c.args.command.now.plain in
    let kept = option_map (λ (b : Bor (List ℕ)). b.now) c.args.kept in
    let p = c.args.program.now in
    let name = c.args.command.now.output.now in
    let old = g.H.Host.state c.args.host.now in
    let new = g.H.Host.state c.write_kept.new.host in
    let lines = c.in_ok-text.text.lines.items in
    let text : IsText mode p lines = subst (λ m. IsText m p lines) c.mode_of.ensures c.in_ok-text.ensures.text in
    let w = written_out c.plain_is_a_style.ensures.is mode p lines c.deref.result.now text c.deref.ensures.value kept kept refl name old new c.in_err-write_kept.ensures.wrote in
    let r = c.from_residual-in_err-write_kept in
    record {
      written = IfOk-from_err r.result _ r.ensures.0;
      stopped = handed_on r.result c.in_err-write_kept.field-0.0 (LosesText mode kept p name old new) r.ensures.1 (not_written lines w.out text c.in_ok-text.ensures.fits w.is w.stopped);
    }

pub returns : goal.returns
returns g c =
    let mode = mode_of c.args.command.now.plain in
    let kept = option_map (λ (b : Bor (List ℕ)). b.now) c.args.kept in
    let p = c.args.program.now in
    let name = c.args.command.now.output.now in
    let old = g.H.Host.state c.args.host.now in
    let new = g.H.Host.state c.write_kept.new.host in
    let lines = c.in_ok-text.text.lines.items in
    let text : IsText mode p lines = subst (λ m. IsText m p lines) c.mode_of.ensures c.in_ok-text.ensures.text in
    let write = c.in_ok-write_kept.ensures in
    let w = written_out c.plain_is_a_style.ensures.is mode p lines c.deref.result.now text c.deref.ensures.value kept kept refl name old new write.wrote in
    record {
      written = record {
        lines = lines;
        text = text;
        fits = c.in_ok-text.ensures.fits;
        out = w.out;
        is = w.is;
        only = write.only;
        written = w.written;
        counted = write.counted;
        line_is = c.in_ok-text.ensures.line;
      };
      stopped = tt;
    }
