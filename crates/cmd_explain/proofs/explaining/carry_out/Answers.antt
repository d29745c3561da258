use Rattle.std.proofs.Common.{◌∙◌, subst}
use Rattle.std.specs.String.{string_bytes}
use Rattle.cmd_arguments.specs.ReadCommands.{check_read}
use Rattle.cmd_common.specs.Names.{two_names}
use Rattle.cmd_common.specs.Said.{Closes}
use Rattle.cmd_common.proofs.Said.{named, closes_files}
use Rattle.cmd_check.proofs.Loading.{load_reads}
use Rattle.cmd_explain.specs.Explains.{stopped}
use Rattle.cmd_explain.specs.Worked.{SaysFound}
use Rattle.cmd_explain.proofs.Working.{gives_by, files_by}
use Rattle.cmd_explain.proofs.explaining.carry_out.Given.{Over}
use Rattle.cmd_explain.proofs.explaining.carry_out.Goals as goal
use Rattle.cmd_explain.proofs.explaining.carry_out.Goals.{After-drop-worked-in-Ok, After-say_stop}

pub say_worked-requires : goal.say_worked-requires
say_worked-requires g c = c.in-Ok.ensures.worked.is

-- with the names of both files
says : (g : Over) (c : After-drop-worked-in-Ok g) → SaysFound (two_names c.args.command.now.source.now c.args.command.now.text.now) c.in-Ok.worked.explanation.finding c.in-Ok.worked.explanation.text.items (string_bytes c.in-Ok.worked.last_line) (g.H.Host.state c.work.new.host) (g.H.Host.state c.say_worked.new.host) c.say_worked.result
says g c =
    let w = c.in-Ok.worked in
    subst (λ names. SaysFound names w.explanation.finding w.explanation.text.items (string_bytes w.last_line) (g.H.Host.state c.work.new.host) (g.H.Host.state c.say_worked.new.host) c.say_worked.result) c.two-names.ensures c.say_worked.ensures

closes : (g : Over) (c : After-say_stop g) → Closes (two_names c.args.command.now.source.now c.args.command.now.text.now) c.in-Err.stop (g.H.Host.state c.work.new.host) (g.H.Host.state c.say_stop.new.host) c.say_stop.result
closes g c = named c.two-names.ensures c.say_stop.ensures

pub returns-in-Ok-clause-gives : goal.returns-in-Ok-clause-gives
returns-in-Ok-clause-gives g c =
    let w = c.in-Ok.worked in
    gives_by (check_read c.args.command.now) (g.H.Host.state c.args.host.now) (g.H.Host.state c.work.new.host) (g.H.Host.state c.say_worked.new.host) c.say_worked.result w.explanation.finding w.explanation.text.items (string_bytes w.last_line) c.in-Ok.ensures.worked.worked (says g c)

pub returns-in-Ok-clause-files : goal.returns-in-Ok-clause-files
returns-in-Ok-clause-files g c =
    let w = c.in-Ok.worked in
    files_by (check_read c.args.command.now) (g.H.Host.state c.args.host.now) (g.H.Host.state c.work.new.host) (g.H.Host.state c.say_worked.new.host) c.say_worked.result w.explanation.finding w.explanation.text.items (string_bytes w.last_line) c.in-Ok.ensures.worked.worked (says g c)

pub returns-in-Err-clause-gives : goal.returns-in-Err-clause-gives
returns-in-Err-clause-gives g c = stopped (g.H.Host.state c.work.new.host) c.in-Err.stop c.in-Err.ensures.stopped (closes g c)

pub returns-in-Err-clause-files : goal.returns-in-Err-clause-files
returns-in-Err-clause-files g c =
    let old = g.H.Host.state c.args.host.now in
    let mid = g.H.Host.state c.work.new.host in
    let new = g.H.Host.state c.say_stop.new.host in
    let reads = load_reads (check_read c.args.command.now) old mid c.in-Err.stop c.in-Err.ensures.stopped in
    λ name. closes_files (two_names c.args.command.now.source.now c.args.command.now.text.now) c.in-Err.stop mid new c.say_stop.result (closes g c) name ∙ reads.files name
