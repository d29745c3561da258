use Rattle.std.proofs.Common.{◌∙◌, subst}
use Rattle.std.specs.String.{string_bytes}
use Rattle.std.proofs.lemmas.Result.{IfOk-from_err, IfOk-weaker, IfErr-weaker}
use Rattle.cmd_arguments.specs.ReadCommands.{translate_read}
use Rattle.cmd_common.specs.Sources.{SourceGives, reading_of}
use Rattle.cmd_translate.specs.Translates.{mode_of}
use Rattle.cmd_translate.specs.TranslateWork.{WritesText, LosesText, StopsBy, unread}
use Rattle.cmd_common.proofs.Told.{handed_on}
use Rattle.cmd_translate.proofs.TranslateWorking.{source_stop, lost, works}
use Rattle.cmd_translate.proofs.translation.work.Goals as goal

pub returns-in_err-source : goal.returns-in_err-source
returns-in_err-source g c =
    let command = translate_read c.args.command.now in
    let old = g.H.Host.state c.args.host.now in
    let new = g.H.Host.state c.read_kept.new.host in
    let r = c.from_residual in
    record {
      worked = IfOk-from_err r.result _ r.ensures.0;
      stopped = handed_on r.result c.in_err-source.field-0.0 (StopsBy command old new) r.ensures.1 (unread c.in_err-source.ensures.stopped c.in_err-source.ensures.only);
    }

-- the bytes are no source
pub returns-in_err-program : goal.returns-in_err-program
returns-in_err-program g c =
    let command = translate_read c.args.command.now in
    let old = g.H.Host.state c.args.host.now in
    let new = g.H.Host.state c.read_kept.new.host in
    let file = c.in_ok-source.ensures in
    let bytes = file.read.bytes in
    let r = c.from_residual-in_err-program in
    record {
      worked = IfOk-from_err r.result _ r.ensures.0;
      stopped = handed_on r.result c.in_err-program.field-0.0 (StopsBy command old new) r.ensures.1 (source_stop command old new new bytes file.read.file file.only file.counted c.in_err-program.field-0.0 (subst (SourceGives (reading_of command.zilog) bytes command.top) c.in_err-program.was file.read.gives));
    }

-- the text of their program
pub returns : goal.returns
returns g c =
    let command = translate_read c.args.command.now in
    let old = g.H.Host.state c.args.host.now in
    let mid = g.H.Host.state c.read_kept.new.host in
    let new = g.H.Host.state c.write_translation.new.host in
    let p = c.in_ok-program.program in
    let file = c.in_ok-source.ensures in
    let bytes = file.read.bytes in
    let source = subst (SourceGives (reading_of command.zilog) bytes command.top) c.in_ok-program.was file.read.gives in
    record {
      worked = IfOk-weaker c.write_translation.result _ _ (λ line w. works command old mid new bytes file.read.file file.only file.counted p source (string_bytes line) (subst (λ kept. WritesText (mode_of command.plain) kept p command.output mid new (string_bytes line)) (c.as_deref.ensures.value ∙ file.read.keeps) w)) c.write_translation.ensures.written;
      stopped = IfErr-weaker c.write_translation.result _ _ (λ stop l. lost command old mid new bytes file.read.file file.only file.counted p source stop (subst (λ kept. LosesText (mode_of command.plain) kept p command.output mid new stop) (c.as_deref.ensures.value ∙ file.read.keeps) l)) c.write_translation.ensures.stopped;
    }
