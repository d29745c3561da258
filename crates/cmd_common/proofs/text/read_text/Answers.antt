use Rattle.std.proofs.Common.{[], sym, subst}
use Rattle.std.proofs.lemmas.Result.{IfOk-weaker, IfErr-weaker, IfOk-from_err}
use Rattle.host.proofs.HostLemmas.{OnlyReads-refl}
use Rattle.cmd_common.specs.declared.stop.Stop.TheVariants.{OutOfMemory}
use Rattle.cmd_common.specs.Files.{ReadStops, no_memory, text_limit}
use Rattle.cmd_common.proofs.Told.{handed_on}
use Rattle.cmd_common.proofs.text.read_text.Goals as goal

pub returns-in_err-new : goal.returns-in_err-new
returns-in_err-new g c =
    let old = g.H.Host.state c.args.host.now in
    let r = c.from_residual in
    record {
      only = OnlyReads-refl old;
      read = IfOk-from_err r.result _ r.ensures.0;
      in_order = IfOk-from_err r.result _ r.ensures.0;
      few = IfOk-from_err r.result _ r.ensures.0;
      counted = IfOk-from_err r.result _ r.ensures.0;
      stopped = handed_on r.result OutOfMemory (ReadStops c.args.file c.args.name.now text_limit old old) r.ensures.1 no_memory;
    }

-- the file was not read
pub returns-in_err-read_named_into : goal.returns-in_err-read_named_into
returns-in_err-read_named_into g c =
    let old = g.H.Host.state c.args.host.now in
    let new = g.H.Host.state c.read_named_into.new.host in
    let r = c.from_residual-in_err-read_named_into in
    let e = c.in_err-read_named_into in
    record {
      only = e.ensures.only;
      read = IfOk-from_err r.result _ r.ensures.0;
      in_order = IfOk-from_err r.result _ r.ensures.0;
      few = IfOk-from_err r.result _ r.ensures.0;
      counted = IfOk-from_err r.result _ r.ensures.0;
      stopped = handed_on r.result e.field-0.0 (ReadStops c.args.file c.args.name.now text_limit old new) r.ensures.1 e.ensures.stopped;
    }

pub returns : goal.returns
returns g c =
    let stops = ReadStops c.args.file c.args.name.now text_limit (g.H.Host.state c.args.host.now) (g.H.Host.state c.read_named_into.new.host) in
    let e = c.in_ok-read_named_into.ensures in
    let file = e.read in
    let lines = c.lines in
    record {
      only = e.only;
      read = IfOk-weaker lines.result _ _ (λ outcome gives. record { bytes = file.bytes; file = (file.whole, file.within); gives = gives file.bytes (file.given [] c.in_ok-new.ensures) }) lines.ensures.read;
      in_order = lines.ensures.in_order;
      few = lines.ensures.few;
      counted = IfOk-weaker lines.result _ _ (λ _ _. e.counted) lines.ensures.few;
      stopped = IfErr-weaker lines.result _ stops (λ stop is. subst stops (sym is) no_memory) lines.ensures.stopped;
    }
