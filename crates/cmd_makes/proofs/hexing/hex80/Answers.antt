use Rattle.std.proofs.Common.{subst}
use Rattle.std.specs.String.{string_bytes}
use Rattle.cmd_arguments.specs.ReadCommands.{hex80_read}
use Rattle.cmd_common.specs.Said.{IsDone}
use Rattle.cmd_common.specs.Names.{names_read}
use Rattle.cmd_common.proofs.Said.{named, never_0}
use Rattle.cmd_common.specs.Makes.{MakeGives, made, stopped}
use Rattle.cmd_makes.specs.Hexes.{hex_kind}
use Rattle.cmd_common.proofs.Deciding.{completes}
use Rattle.cmd_makes.proofs.HexLaws.{laws_of_hex80, has_hex_file}
use Rattle.cmd_makes.proofs.hexing.hex80.Given.{Over}
use Rattle.cmd_makes.proofs.hexing.hex80.Goals as goal
use Rattle.cmd_makes.proofs.hexing.hex80.Goals.{After-drop-line, After-say_stop}

done : (g : Over) (c : After-drop-line g) → IsDone (string_bytes c.in-Ok.line) (g.H.Host.state c.work.new.host) (g.H.Host.state c.say_done.new.host) c.say_done.result
done g c = subst (λ l. IsDone l (g.H.Host.state c.work.new.host) (g.H.Host.state c.say_done.new.host) c.say_done.result) c.as_str.ensures.value c.say_done.ensures

gives-in-Ok : (g : Over) (c : After-drop-line g) → MakeGives (hex_kind (hex80_read c.args.command.now)) (g.H.Host.state c.args.host.now) (g.H.Host.state c.say_done.new.host) c.say_done.result
gives-in-Ok g c = made (g.H.Host.state c.work.new.host) (string_bytes c.in-Ok.line) c.in-Ok.ensures.made (done g c)

gives-in-Err : (g : Over) (c : After-say_stop g) → MakeGives (hex_kind (hex80_read c.args.command.now)) (g.H.Host.state c.args.host.now) (g.H.Host.state c.say_stop.new.host) c.say_stop.result
gives-in-Err g c = stopped (g.H.Host.state c.work.new.host) c.in-Err.stop c.in-Err.ensures.stopped (named c.one.ensures c.say_stop.ensures)

pub returns-in-Ok-clause-gives : goal.returns-in-Ok-clause-gives
returns-in-Ok-clause-gives g c = gives-in-Ok g c

pub returns-in-Ok-clause-completes : goal.returns-in-Ok-clause-completes
returns-in-Ok-clause-completes g c =
    let command = hex80_read c.args.command.now in
    completes (hex_kind command) (g.H.Host.state c.args.host.now) (g.H.Host.state c.say_done.new.host)
    (laws_of_hex80 command (c.sources_have_one_outcome.ensures command.zilog) c.written_reads_back.ensures.one_file) c.say_done.result (gives-in-Ok g c)

pub returns-in-Ok-clause-file : goal.returns-in-Ok-clause-file
returns-in-Ok-clause-file g c = λ e.
    has_hex_file (hex80_read c.args.command.now) (g.H.Host.state c.args.host.now) (g.H.Host.state c.work.new.host) (g.H.Host.state c.say_done.new.host)
    c.written_reads_back.ensures.reads_back c.program_cells_are_cells.ensures c.bytes_follow.ensures (string_bytes c.in-Ok.line) c.in-Ok.ensures.made c.say_done.result e (done g c)

pub returns-in-Err-clause-gives : goal.returns-in-Err-clause-gives
returns-in-Err-clause-gives g c = gives-in-Err g c

pub returns-in-Err-clause-completes : goal.returns-in-Err-clause-completes
returns-in-Err-clause-completes g c =
    let command = hex80_read c.args.command.now in
    completes (hex_kind command) (g.H.Host.state c.args.host.now) (g.H.Host.state c.say_stop.new.host)
    (laws_of_hex80 command (c.sources_have_one_outcome.ensures command.zilog) c.written_reads_back.ensures.one_file) c.say_stop.result (gives-in-Err g c)

pub returns-in-Err-clause-file : goal.returns-in-Err-clause-file
returns-in-Err-clause-file g c = λ e. absurd (never_0 (names_read c.one.result) c.in-Err.stop (g.H.Host.state c.work.new.host) (g.H.Host.state c.say_stop.new.host) c.say_stop.result c.say_stop.ensures e)
