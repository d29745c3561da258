use Rattle.std.proofs.Common.{[]}
use Rattle.std.proofs.lemmas.Result.{IfOk-from_err}
use Rattle.host.proofs.HostLemmas.{OnlyReads-refl}
use Rattle.cmd_common.specs.declared.names.InputFile.TheVariants.{First}
use Rattle.cmd_common.specs.declared.stop.Stop.TheVariants.{OutOfMemory}
use Rattle.cmd_common.specs.Files.{ReadStops, no_memory, input_limit}
use Rattle.cmd_common.proofs.Told.{handed_on}
use Rattle.cmd_common.proofs.source.read_source_by.Goals as goal

pub returns-in_err-new : goal.returns-in_err-new
returns-in_err-new g c =
    let old = g.H.Host.state c.args.host.now in
    let r = c.from_residual in
    record {
      only = OnlyReads-refl old;
      read = IfOk-from_err r.result _ r.ensures.0;
      counted = IfOk-from_err r.result _ r.ensures.0;
      stopped = handed_on r.result OutOfMemory (ReadStops First c.args.name.now input_limit old old) r.ensures.1 no_memory;
    }

-- the file was not read
pub returns-in_err-read_named_into : goal.returns-in_err-read_named_into
returns-in_err-read_named_into g c =
    let old = g.H.Host.state c.args.host.now in
    let new = g.H.Host.state c.read_named_into.new.host in
    let r = c.from_residual-in_err-read_named_into in
    let e = c.in_err-read_named_into in
    record {
      only = e.ensures.only;
      read = IfOk-from_err r.result _ r.ensures.0;
      counted = IfOk-from_err r.result _ r.ensures.0;
      stopped = handed_on r.result e.field-0.0 (ReadStops First c.args.name.now input_limit old new) r.ensures.1 e.ensures.stopped;
    }

pub returns-in_err-program : goal.returns-in_err-program
returns-in_err-program g c =
    let old = g.H.Host.state c.args.host.now in
    let new = g.H.Host.state c.read_named_into.new.host in
    let r = c.from_residual-in_err-program in
    record {
      only = c.in_ok-read_named_into.ensures.only;
      read = IfOk-from_err r.result _ r.ensures.0;
      counted = IfOk-from_err r.result _ r.ensures.0;
      stopped = handed_on r.result OutOfMemory (ReadStops First c.args.name.now input_limit old new) r.ensures.1 no_memory;
    }

pub returns : goal.returns
returns g c =
    let e = c.in_ok-read_named_into.ensures in
    let file = e.read in
    record {
      only = e.only;
      read = record { bytes = file.bytes; file = (file.whole, file.within); gives = c.in_ok-program.ensures file.bytes (file.given [] c.in_ok-new.ensures) };
      counted = e.counted;
      stopped = tt;
    }
