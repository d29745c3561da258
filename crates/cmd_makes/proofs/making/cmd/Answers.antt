use Rattle.std.proofs.Common.{subst}
use Rattle.std.specs.String.{string_bytes}
use Rattle.cmd_arguments.specs.ReadCommands.{cmd_read}
use Rattle.cmd_common.specs.Said.{IsDone}
use Rattle.cmd_common.specs.Makes.{MakeGives, made, stopped}
use Rattle.cmd_common.specs.Names.{names_read}
use Rattle.cmd_common.proofs.Said.{named, never_0}
use Rattle.cmd_common.proofs.Deciding.{completes}
use Rattle.cmd_makes.specs.Cmds.{cmd_kind}
use Rattle.cmd_makes.proofs.Laws.{laws_of_cmd, has_command_file}
use Rattle.cmd_makes.proofs.making.cmd.Given.{Over}
use Rattle.cmd_makes.proofs.making.cmd.Goals as goal
use Rattle.cmd_makes.proofs.making.cmd.Goals.{After-drop-line, After-say_stop}

done : (g : Over) (c : After-drop-line g) → IsDone (string_bytes c.in-Ok.line) (g.H.Host.state c.work.new.host) (g.H.Host.state c.say_done.new.host) c.say_done.result
done g c = subst (λ l. IsDone l (g.H.Host.state c.work.new.host) (g.H.Host.state c.say_done.new.host) c.say_done.result) c.as_str.ensures.value c.say_done.ensures

gives-in-Ok : (g : Over) (c : After-drop-line g) → MakeGives (cmd_kind (cmd_read c.args.command.now)) (g.H.Host.state c.args.host.now) (g.H.Host.state c.say_done.new.host) c.say_done.result
gives-in-Ok g c = made (g.H.Host.state c.work.new.host) (string_bytes c.in-Ok.line) c.in-Ok.ensures.made.has (done g c)

gives-in-Err : (g : Over) (c : After-say_stop g) → MakeGives (cmd_kind (cmd_read c.args.command.now)) (g.H.Host.state c.args.host.now) (g.H.Host.state c.say_stop.new.host) c.say_stop.result
gives-in-Err g c = stopped (g.H.Host.state c.work.new.host) c.in-Err.stop c.in-Err.ensures.stopped (named c.one.ensures c.say_stop.ensures)

pub returns-in-Ok-clause-gives : goal.returns-in-Ok-clause-gives
returns-in-Ok-clause-gives g c = gives-in-Ok g c

pub returns-in-Ok-clause-completes : goal.returns-in-Ok-clause-completes
returns-in-Ok-clause-completes g c =
    let law = c.texts_have_one_image.ensures in
    completes (cmd_kind (cmd_read c.args.command.now)) (g.H.Host.state c.args.host.now) (g.H.Host.state c.say_done.new.host) (laws_of_cmd law.image law.fault law.apart (cmd_read c.args.command.now)) c.say_done.result (gives-in-Ok g c)

pub returns-in-Ok-clause-loads : goal.returns-in-Ok-clause-loads
returns-in-Ok-clause-loads g c = λ e.
    has_command_file (cmd_read c.args.command.now) (g.H.Host.state c.args.host.now) (g.H.Host.state c.work.new.host) (g.H.Host.state c.say_done.new.host)
    c.loaded_is_same.ensures (string_bytes c.in-Ok.line) c.in-Ok.ensures.made c.say_done.result e (done g c)

pub returns-in-Err-clause-gives : goal.returns-in-Err-clause-gives
returns-in-Err-clause-gives g c = gives-in-Err g c

pub returns-in-Err-clause-completes : goal.returns-in-Err-clause-completes
returns-in-Err-clause-completes g c =
    let law = c.texts_have_one_image.ensures in
    completes (cmd_kind (cmd_read c.args.command.now)) (g.H.Host.state c.args.host.now) (g.H.Host.state c.say_stop.new.host) (laws_of_cmd law.image law.fault law.apart (cmd_read c.args.command.now)) c.say_stop.result (gives-in-Err g c)

pub returns-in-Err-clause-loads : goal.returns-in-Err-clause-loads
returns-in-Err-clause-loads g c = λ e. absurd (never_0 (names_read c.one.result) c.in-Err.stop (g.H.Host.state c.work.new.host) (g.H.Host.state c.say_stop.new.host) c.say_stop.result c.say_stop.ensures e)
