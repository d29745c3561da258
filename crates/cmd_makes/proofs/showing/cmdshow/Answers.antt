use Rattle.std.proofs.Common.{refl, subst}
use Rattle.std.specs.String.{string_bytes}
use Rattle.cmd_arguments.specs.ReadCommands.{cmd_show_read}
use Rattle.cmd_common.specs.Said.{IsDone}
use Rattle.cmd_common.proofs.Said.{named}
use Rattle.cmd_common.specs.Makes.{MakeGives, made, stopped}
use Rattle.cmd_common.proofs.Deciding.{completes, files_stay}
use Rattle.cmd_makes.specs.Shows.{cmd_show_kind}
use Rattle.cmd_makes.proofs.ShowLaws.{laws_of_cmdshow}
use Rattle.cmd_makes.proofs.showing.cmdshow.Given.{Over}
use Rattle.cmd_makes.proofs.showing.cmdshow.Goals as goal
use Rattle.cmd_makes.proofs.showing.cmdshow.Goals.{After-drop-line, After-say_stop}

gives-in-Ok : (g : Over) (c : After-drop-line g) → MakeGives (cmd_show_kind (cmd_show_read c.args.command.now)) (g.H.Host.state c.args.host.now) (g.H.Host.state c.say_done.new.host) c.say_done.result
gives-in-Ok g c =
    let mid = g.H.Host.state c.work.new.host in
    let new = g.H.Host.state c.say_done.new.host in
    made mid (string_bytes c.in-Ok.line) c.in-Ok.ensures.made (subst (λ l. IsDone l mid new c.say_done.result) c.as_str.ensures.value c.say_done.ensures)

gives-in-Err : (g : Over) (c : After-say_stop g) → MakeGives (cmd_show_kind (cmd_show_read c.args.command.now)) (g.H.Host.state c.args.host.now) (g.H.Host.state c.say_stop.new.host) c.say_stop.result
gives-in-Err g c = stopped (g.H.Host.state c.work.new.host) c.in-Err.stop c.in-Err.ensures.stopped (named c.one.ensures c.say_stop.ensures)

pub returns-in-Ok-clause-gives : goal.returns-in-Ok-clause-gives
returns-in-Ok-clause-gives g c = gives-in-Ok g c

pub returns-in-Ok-clause-completes : goal.returns-in-Ok-clause-completes
returns-in-Ok-clause-completes g c =
    let law = c.command_file_has_one_reading.ensures in
    completes (cmd_show_kind (cmd_show_read c.args.command.now)) (g.H.Host.state c.args.host.now) (g.H.Host.state c.say_done.new.host) (laws_of_cmdshow law.one_file law.one_fault law.not_both (cmd_show_read c.args.command.now)) c.say_done.result (gives-in-Ok g c)

pub returns-in-Ok-clause-files : goal.returns-in-Ok-clause-files
returns-in-Ok-clause-files g c = files_stay (cmd_show_kind (cmd_show_read c.args.command.now)) (g.H.Host.state c.args.host.now) (g.H.Host.state c.say_done.new.host) refl c.say_done.result (gives-in-Ok g c)

pub returns-in-Err-clause-gives : goal.returns-in-Err-clause-gives
returns-in-Err-clause-gives g c = gives-in-Err g c

pub returns-in-Err-clause-completes : goal.returns-in-Err-clause-completes
returns-in-Err-clause-completes g c =
    let law = c.command_file_has_one_reading.ensures in
    completes (cmd_show_kind (cmd_show_read c.args.command.now)) (g.H.Host.state c.args.host.now) (g.H.Host.state c.say_stop.new.host) (laws_of_cmdshow law.one_file law.one_fault law.not_both (cmd_show_read c.args.command.now)) c.say_stop.result (gives-in-Err g c)

pub returns-in-Err-clause-files : goal.returns-in-Err-clause-files
returns-in-Err-clause-files g c = files_stay (cmd_show_kind (cmd_show_read c.args.command.now)) (g.H.Host.state c.args.host.now) (g.H.Host.state c.say_stop.new.host) refl c.say_stop.result (gives-in-Err g c)
