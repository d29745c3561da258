use Rattle.std.proofs.Common.{arith, ap, subst, take}
use Rattle.std.proofs.lemmas.Grind.{common_steps}
use Rattle.host.specs.Host.{Says}
use Rattle.host.proofs.HostLemmas.{OnlySays-trans}
use Rattle.host_files.specs.Transfer.{CutsLine}
use Rattle.host_files.proofs.Fills.{on_err}
use Rattle.cmd_explain.proofs.Positions.{to_the_end}
use Rattle.cmd_explain.proofs.Saying.{said_on, cut_later, fits_on}
use Rattle.cmd_explain.proofs.explaining.say_lines.Goals as goal

-- a fault in one of the lines
pub returns-in_err-say_line-clause-fault : goal.returns-in_err-say_line-clause-fault
returns-in_err-say_line-clause-fault g c =
    let text = c.args.text.now in
    let n = c.loop-said.said in
    let size = c.line_size-size.result in
    let mid = g.H.Host.state c.loop-said.host in
    let new = g.H.Host.state c.say_line.new.host in
    on_err c.from_residual.result
    (cut_later text n size (g.H.Host.state c.args.host.now) mid new c.loop-said.invariant.bytes (fits_on text n size c.loop-said.invariant.within c.line_size-size.ensures.within)
    (subst (λ l. CutsLine l mid new) (ap (take size) (to_the_end n text)) c.in_err-say_line.ensures.fault))

-- one more line
pub loop-said-preserved : goal.loop-said-preserved
loop-said-preserved g c =
    let text = c.args.text.now in
    let n = c.loop-said.said in
    let size = c.line_size-size.result in
    let mid = g.H.Host.state c.loop-said.host in
    let new = g.H.Host.state c.say_line.new.host in
    record {
      within = fits_on text n size c.loop-said.invariant.within c.line_size-size.ensures.within;
      only = OnlySays-trans c.loop-said.invariant.only c.say_line.ensures.only;
      counted = grind (arith, common_steps, c.in_ok-say_line.ensures.counted);
      bytes = said_on text n size (g.H.Host.state c.args.host.now) mid new c.loop-said.invariant.bytes (subst (Says mid new) (ap (take size) (to_the_end n text)) c.in_ok-say_line.ensures.ok);
    }
