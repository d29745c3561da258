use Rattle.std.proofs.Common.{◌∙◌, ap, arith}
use Rattle.std.proofs.lemmas.Grind.{common_steps}
use Rattle.std.proofs.lemmas.List.{take_all}
use Rattle.std.proofs.lemmas.Result.{IfOk-from_err}
use Rattle.host.proofs.HostLemmas.{OnlyWrites-trans, SameFaults-trans, handed_on}
use Rattle.host_files.proofs.Extends.{extended-take}
use Rattle.host_files.proofs.Fills.{on_err}
use Rattle.host_files.specs.Transfer.{extended}
use Rattle.host_files.proofs.write.append_all.Goals as goal

-- one more piece was added at the end
pub loop-done-preserved : goal.loop-done-preserved
loop-done-preserved g c = record {
  within = grind (arith, common_steps);
  only = OnlyWrites-trans c.loop-done.invariant.only c.append.ensures.only;
  counted = SameFaults-trans c.loop-done.invariant.counted c.in_ok-done.ensures.counted;
  bytes = grind (arith, common_steps, extended-take);
}

-- a fault after pieces that met none: the pieces before it were appended
pub returns-in_err-done : goal.returns-in_err-done
returns-in_err-done g c =
    let r = c.from_residual in
    let known = c.loop-done.invariant in
    record {
      only = OnlyWrites-trans known.only c.append.ensures.only;
      ok = IfOk-from_err r.result _ r.ensures.0;
      counted = IfOk-from_err r.result _ r.ensures.0;
      fault = on_err r.result (c.loop-done.done, c.loop-done-test.true, c.in_err-done.ensures.fault.files c.args.name.now ∙ known.bytes);
      failed = handed_on (g.H.Host.state c.args.host.now) (g.H.Host.state c.loop-done.host) (g.H.Host.state c.append.new.self) r.result c.in_err-done.field-0.0 r.ensures.1 known.counted c.in_err-done.ensures.failed;
    }

-- all were appended
pub returns : goal.returns
returns g c =
    let known = c.loop-done.invariant in
    record {
      only = known.only;
      ok = known.bytes ∙ ap (extended ((g.H.Host.state c.args.host.now).file c.args.name.now)) (take_all c.loop-done.done c.args.bytes.now c.loop-done-test.false);
      counted = known.counted;
      fault = tt;
      failed = tt;
    }
