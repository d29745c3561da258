use Rattle.std.proofs.Common.{map, subst}
use Rattle.std.specs.List.{concat}
use Rattle.std.specs.String.{string_bytes}
use Rattle.std.proofs.lemmas.List.{take_all, length-map}
use Rattle.std.proofs.lemmas.Result.{IfOk-from_err}
use Rattle.host.specs.Host.{Says}
use Rattle.host.proofs.HostLemmas.{OnlySays-trans, SameFaults-trans, handed_on}
use Rattle.host_files.proofs.Fills.{on_err}
use Rattle.cmd_common.proofs.Lines.{line_said, line_more, line_cut}
use Rattle.cmd_common.proofs.say.say_lines.Goals as goal

pub say_line-requires : goal.say_line-requires
say_line-requires g c = line_said string_bytes c.args.lines.now c.loop-line.line-index c.line-item.result c.loop-line-test.true c.line-item.is c.as_bytes.result.now c.as_bytes.ensures.value c.requires

-- a fault in one of the lines
pub returns-in_err-say_line : goal.returns-in_err-say_line
returns-in_err-say_line g c =
    let old = g.H.Host.state c.args.host.now in
    let mid = g.H.Host.state c.loop-line.host in
    let new = g.H.Host.state c.say_line.new.host in
    let r = c.from_residual in
    let known = c.loop-line.invariant in
    record {
      only = OnlySays-trans known.only c.say_line.ensures.only;
      ok = IfOk-from_err r.result _ r.ensures.0;
      counted = IfOk-from_err r.result _ r.ensures.0;
      fault = on_err r.result
          (line_cut string_bytes c.args.lines.now c.loop-line.line-index c.line-item.result c.loop-line-test.true c.line-item.is
          old mid new known.said c.as_bytes.result.now c.as_bytes.ensures.value c.in_err-say_line.ensures.fault);
      failed = handed_on old mid new r.result c.in_err-say_line.field-0.0 r.ensures.1 known.counted c.in_err-say_line.ensures.failed;
    }

-- all lines were said
pub returns : goal.returns
returns g c =
    let old = g.H.Host.state c.args.host.now in
    let new = g.H.Host.state c.loop-line.host in
    let known = c.loop-line.invariant in
    record {
      only = known.only;
      ok = subst (λ texts. Says old new (concat texts)) (take_all c.loop-line.line-index (map string_bytes c.args.lines.now) (rw length-map c.loop-line-test.false)) known.said;
      counted = known.counted;
      fault = tt;
      failed = tt;
    }

-- one more line
pub loop-line-preserved : goal.loop-line-preserved
loop-line-preserved g c = record {
  only = OnlySays-trans c.loop-line.invariant.only c.say_line.ensures.only;
  counted = SameFaults-trans c.loop-line.invariant.counted c.in_ok-say_line.ensures.counted;
  said = line_more string_bytes c.args.lines.now c.loop-line.line-index c.line-item.result c.loop-line-test.true c.line-item.is
      (g.H.Host.state c.args.host.now) (g.H.Host.state c.loop-line.host) (g.H.Host.state c.say_line.new.host) c.loop-line.invariant.said
      c.as_bytes.result.now c.as_bytes.ensures.value c.in_ok-say_line.ensures.ok;
}
