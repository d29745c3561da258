use Rattle.std.proofs.Common.{subst}
use Rattle.std.specs.String.{string_bytes}
use Rattle.cmd_arguments.specs.ReadCommands.{sample_read}
use Rattle.cmd_common.specs.Names.{names_read}
use Rattle.cmd_common.specs.Said.{IsDone}
use Rattle.cmd_sample.specs.Samples.{SampleGives}
use Rattle.cmd_sample.proofs.SampleFinish.{worked, stopped, completes}
use Rattle.cmd_sample.proofs.sampling.sample.Given.{Over}
use Rattle.cmd_sample.proofs.sampling.sample.Goals as goal
use Rattle.cmd_sample.proofs.sampling.sample.Goals.{After-drop-line, After-say_stop}

gives-in-Ok : (g : Over) (c : After-drop-line g) → SampleGives (sample_read c.args.command.now) (g.H.Host.state c.args.host.now) (g.H.Host.state c.say_done.new.host) c.say_done.result
gives-in-Ok g c =
    let mid = g.H.Host.state c.work.new.host in
    let new = g.H.Host.state c.say_done.new.host in
    worked (sample_read c.args.command.now) (g.H.Host.state c.args.host.now) mid new
    (string_bytes c.in-Ok.line) c.in-Ok.ensures.worked c.say_done.result
    (subst (λ l. IsDone l mid new c.say_done.result) c.as_str.ensures.value c.say_done.ensures)

gives-in-Err : (g : Over) (c : After-say_stop g) → SampleGives (sample_read c.args.command.now) (g.H.Host.state c.args.host.now) (g.H.Host.state c.say_stop.new.host) c.say_stop.result
gives-in-Err g c =
    stopped (sample_read c.args.command.now) (g.H.Host.state c.args.host.now) (g.H.Host.state c.work.new.host) (g.H.Host.state c.say_stop.new.host)
    (names_read c.one.result) c.in-Err.stop c.in-Err.ensures.stopped c.say_stop.result c.say_stop.ensures

pub returns-in-Ok : goal.returns-in-Ok
returns-in-Ok g c =
    let given = gives-in-Ok g c in
    record {
      gives = given;
      completes = completes (sample_read c.args.command.now) (g.H.Host.state c.args.host.now) (g.H.Host.state c.say_done.new.host) c.say_done.result given;
    }

pub returns-in-Err : goal.returns-in-Err
returns-in-Err g c =
    let given = gives-in-Err g c in
    record {
      gives = given;
      completes = completes (sample_read c.args.command.now) (g.H.Host.state c.args.host.now) (g.H.Host.state c.say_stop.new.host) c.say_stop.result given;
    }
