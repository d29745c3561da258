use Rattle.std.proofs.Common.{refl}
use Rattle.std.proofs.lemmas.Result.{IfOk-from_err}
use Rattle.cmd_common.specs.declared.names.InputFile.TheVariants.{First}
use Rattle.cmd_common.specs.Files.{ReadStops, input_limit}
use Rattle.cmd_common.proofs.Told.{handed_on}
use Rattle.cmd_translate.proofs.translation.read_kept.Goals as goal

-- the file was not read
pub returns-in_err-source : goal.returns-in_err-source
returns-in_err-source g c =
    let old = g.H.Host.state c.args.host.now in
    let new = g.H.Host.state c.read_source.new.host in
    let r = c.from_residual in
    let e = c.in_err-source in
    record {
      only = e.ensures.only;
      read = IfOk-from_err r.result _ r.ensures.0;
      counted = IfOk-from_err r.result _ r.ensures.0;
      stopped = handed_on r.result e.field-0.0 (ReadStops First c.args.command.now.input.now input_limit old new) r.ensures.1 e.ensures.stopped;
    }

pub returns-then-command : goal.returns-then-command
returns-then-command g c = let e = c.read_with_bytes.ensures in record { only = e.only; read = e.read; counted = e.counted; stopped = e.stopped }

-- nothing is kept
pub returns : goal.returns
returns g c =
    let e = c.in_ok-source.ensures in
    record {
      only = e.only;
      read = record { bytes = e.read.bytes; file = e.read.file; gives = e.read.gives; keeps = rw c.if-command.false refl };
      counted = e.counted;
      stopped = tt;
    }
