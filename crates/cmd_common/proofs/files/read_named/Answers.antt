use Rattle.std.proofs.Common.{◌≡◌, ◌≤◌, ℕ, List, [], length, sym, subst}
use Rattle.std.proofs.lemmas.Result.{IfOk-from_err}
use Rattle.host.specs.Host.{IsFile}
use Rattle.cmd_common.specs.Files.{ReadStops}
use Rattle.cmd_common.proofs.Told.{handed_on}
use Rattle.cmd_common.proofs.files.read_named.Goals as goal

pub returns-in_err-read_named_into : goal.returns-in_err-read_named_into
returns-in_err-read_named_into g c =
    let old = g.H.Host.state c.args.host.now in
    let new = g.H.Host.state c.read_named_into.new.host in
    let r = c.from_residual in
    let e = c.in_err-read_named_into in
    record {
      only = e.ensures.only;
      read = IfOk-from_err r.result _ r.ensures.0;
      counted = IfOk-from_err r.result _ r.ensures.0;
      stopped = handed_on r.result e.field-0.0 (ReadStops c.args.file c.args.name.now c.args.limit old new) r.ensures.1 e.ensures.stopped;
    }

-- the bytes that were given are those that are kept
pub returns : goal.returns
returns g c =
    let told = (g.H.Host.state c.args.host.now).file c.args.name.now in
    let e = c.in_ok-read_named_into.ensures in
    let file = e.read in
    let kept : file.bytes ≡ c.read_named_into.new.sink.items = sym {A = List ℕ} (file.given [] c.new-bytes.ensures.items) in
    record {
      only = e.only;
      read = (subst (IsFile told) kept file.whole, subst (λ b. length b ≤ c.args.limit) kept file.within);
      counted = e.counted;
      stopped = tt;
    }
