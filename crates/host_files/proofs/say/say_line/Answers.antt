use Rattle.std.proofs.Common.{◌∙◌, sym, ap, arith}
use Rattle.std.proofs.lemmas.Grind.{common_steps}
use Rattle.std.proofs.lemmas.List.{take_all}
use Rattle.std.proofs.lemmas.Result.{IfOk-from_err}
use Rattle.host.proofs.HostLemmas.{OnlySays-refl, OnlySays-trans, SameFaults-refl, SameFaults-trans, said_more-nil, pieces, handed_on}
use Rattle.host.specs.Host.{said_more}
use Rattle.host_files.proofs.Fills.{on_err}
use Rattle.host_files.proofs.say.say_line.Goals as goal

-- one more piece was said
pub loop-said-preserved : goal.loop-said-preserved
loop-said-preserved g c = record {
  within = grind (arith, common_steps);
  only = OnlySays-trans c.loop-said.invariant.only c.say.ensures.only;
  counted = SameFaults-trans c.loop-said.invariant.counted c.in_ok-said.ensures.counted;
  bytes = grind (arith, common_steps, pieces);
}

-- nothing was said yet
pub loop-said-init : goal.loop-said-init
loop-said-init g c =
    let old = g.H.Host.state c.args.host.now in
    record { within = omega arith; only = OnlySays-refl old; counted = SameFaults-refl old; bytes = sym (said_more-nil old.said) }

-- a fault after pieces that met none: the pieces before it were said
pub returns-in_err-said : goal.returns-in_err-said
returns-in_err-said g c =
    let r = c.from_residual in
    let known = c.loop-said.invariant in
    record {
      only = OnlySays-trans known.only c.say.ensures.only;
      ok = IfOk-from_err r.result _ r.ensures.0;
      counted = IfOk-from_err r.result _ r.ensures.0;
      fault = on_err r.result (record {
        count = c.loop-said.said;
        short = c.loop-said-test.true;
        said = c.in_err-said.ensures.fault.said ∙ known.bytes;
      });
      failed = handed_on (g.H.Host.state c.args.host.now) (g.H.Host.state c.loop-said.host) (g.H.Host.state c.say.new.self) r.result c.in_err-said.field-0.0 r.ensures.1 known.counted c.in_err-said.ensures.failed;
    }

-- all was said
pub returns : goal.returns
returns g c =
    let known = c.loop-said.invariant in
    record {
      only = known.only;
      ok = known.bytes ∙ ap (said_more (g.H.Host.state c.args.host.now).said) (take_all c.loop-said.said c.args.line.now c.loop-said-test.false);
      counted = known.counted;
      fault = tt;
      failed = tt;
    }
