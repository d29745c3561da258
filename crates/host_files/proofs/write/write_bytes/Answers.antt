use Rattle.std.proofs.Common.{[], take, ap, ◌∙◌, inl, inr}
use Rattle.std.proofs.lemmas.Result.{IfErr-weaker, on_ok_weaker, on_err_weaker}
use Rattle.host.specs.Host.{WriteFault, Rewrites, SameFaults}
use Rattle.host.proofs.HostLemmas.{OnlyWrites-trans, SameFaults-refl, SameFaults-trans, fault_after, handed_on}
use Rattle.host_files.specs.Transfer.{extended, IsBeforeOrPart}
use Rattle.host_files.proofs.Extends.{extended-rewritten}
use Rattle.host_files.proofs.Fills.{on_ok, on_err}
use Rattle.host_files.proofs.write.write_bytes.Goals as goal

-- a fault after the file was made empty
-- the bytes were added to the empty file
pub returns : goal.returns
returns g c =
    let bytes = c.args.bytes.now in
    let told = (g.H.Host.state c.args.host.now).file c.args.name.now in
    let old = g.H.Host.state c.args.host.now in
    let mid = g.H.Host.state c.begin.new.self in
    let new = g.H.Host.state c.append_all.new.host in
    record {
      only = OnlyWrites-trans c.begin.ensures.only c.append_all.ensures.only;
      ok = on_ok_weaker c.append_all.result (λ added. added ∙ ap (λ t. extended t bytes) c.in_ok-begin.ensures.empty ∙ extended-rewritten told [] bytes) c.append_all.ensures.ok;
      counted = on_ok_weaker c.append_all.result (SameFaults-trans c.in_ok-begin.ensures.counted) c.append_all.ensures.counted;
      fault = on_err_weaker c.append_all.result (λ added. inr (added.0, added.1, added.2 ∙ ap (λ t. extended t (take added.0 bytes)) c.in_ok-begin.ensures.empty ∙ extended-rewritten told [] (take added.0 bytes))) c.append_all.ensures.fault;
      failed = IfErr-weaker c.append_all.result (WriteFault mid new) (WriteFault old new) (λ fault h. fault_after old mid new fault c.in_ok-begin.ensures.counted h) c.append_all.ensures.failed;
    }

-- the file could not be made empty
pub returns-in_err-begin : goal.returns-in_err-begin
returns-in_err-begin g c =
    let old = g.H.Host.state c.args.host.now in
    record {
      only = c.begin.ensures.only;
      ok = on_ok (Rewrites (g.H.Host.state c.args.host.now) (g.H.Host.state c.begin.new.self) c.args.name.now c.args.bytes.now) c.from_residual.result c.from_residual.ensures.0;
      counted = on_ok (SameFaults (g.H.Host.state c.args.host.now) (g.H.Host.state c.begin.new.self)) c.from_residual.result c.from_residual.ensures.0;
      fault = on_err {P = IsBeforeOrPart (g.H.Host.state c.args.host.now) (g.H.Host.state c.begin.new.self) c.args.name.now c.args.bytes.now} c.from_residual.result (inl (c.in_err-begin.ensures.fault.files c.args.name.now));
      failed = handed_on old old (g.H.Host.state c.begin.new.self) c.from_residual.result c.in_err-begin.field-0.0 c.from_residual.ensures.1 (SameFaults-refl old) c.in_err-begin.ensures.failed;
    }
