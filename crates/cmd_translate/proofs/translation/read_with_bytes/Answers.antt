use Rattle.std.proofs.Common.{refl, subst}
use Rattle.std.proofs.lemmas.Result.{IfOk-from_err}
use Rattle.cmd_common.specs.declared.stop.Stop.TheVariants.{OutOfMemory}
use Rattle.cmd_common.specs.declared.names.InputFile.TheVariants.{First}
use Rattle.cmd_common.specs.Sources.{SourceGives, reading_of}
use Rattle.cmd_common.specs.Files.{ReadStops, no_memory, input_limit}
use Rattle.cmd_common.proofs.Told.{handed_on}
use Rattle.cmd_translate.proofs.translation.read_with_bytes.Goals as goal

-- the file was not read
pub returns-in_err-bytes : goal.returns-in_err-bytes
returns-in_err-bytes g c =
    let old = g.H.Host.state c.args.host.now in
    let new = g.H.Host.state c.read_named.new.host in
    let r = c.from_residual in
    let e = c.in_err-bytes in
    record {
      only = e.ensures.only;
      read = IfOk-from_err r.result _ r.ensures.0;
      counted = IfOk-from_err r.result _ r.ensures.0;
      stopped = handed_on r.result e.field-0.0 (ReadStops First c.args.command.now.input.now input_limit old new) r.ensures.1 e.ensures.stopped;
    }

pub returns-in_err-source : goal.returns-in_err-source
returns-in_err-source g c =
    let old = g.H.Host.state c.args.host.now in
    let new = g.H.Host.state c.read_named.new.host in
    let r = c.from_residual-in_err-source in
    record {
      only = c.in_ok-bytes.ensures.only;
      read = IfOk-from_err r.result _ r.ensures.0;
      counted = IfOk-from_err r.result _ r.ensures.0;
      stopped = handed_on r.result OutOfMemory (ReadStops First c.args.command.now.input.now input_limit old new) r.ensures.1 no_memory;
    }

pub returns : goal.returns
returns g c =
    let command = c.args.command.now in
    let e = c.in_ok-bytes.ensures in
    record {
      only = e.only;
      read = record {
        bytes = c.in_ok-bytes.bytes.items;
        file = e.read;
        gives = subst (λ bytes. SourceGives (reading_of command.zilog) bytes command.top c.in_ok-source.source) c.deref.ensures.value c.in_ok-source.ensures;
        keeps = rw c.requires.kept refl;
      };
      counted = e.counted;
      stopped = tt;
    }
