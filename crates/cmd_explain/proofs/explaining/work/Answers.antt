use Rattle.std.proofs.Common.{sym, subst}
use Rattle.std.specs.String.{string_bytes}
use Rattle.std.proofs.lemmas.Result.{IfOk-weaker, IfErr-weaker}
use Rattle.cmd_arguments.specs.ReadCommands.{check_read}
use Rattle.cmd_check.specs.Checks.{LoadStops, out_of_memory}
use Rattle.cmd_explain.proofs.Working.{comes_to}
use Rattle.cmd_explain.proofs.explaining.work.Goals as goal

pub returns-clause-worked : goal.returns-clause-worked
returns-clause-worked g c =
    let l = c.in_ok-loaded in
    IfOk-weaker c.work_on.result _ _
    (λ w. comes_to (check_read c.args.command.now) (g.H.Host.state c.args.host.now) (g.H.Host.state c.load.new.host) l.loaded.program l.loaded.text.lines.items l.ensures.loaded
    w.explanation.finding w.explanation.text.items (string_bytes w.last_line))
    c.work_on.ensures.made

pub returns-clause-stopped : goal.returns-clause-stopped
returns-clause-stopped g c =
    let stops = LoadStops (check_read c.args.command.now) (g.H.Host.state c.args.host.now) (g.H.Host.state c.load.new.host) in
    IfErr-weaker c.work_on.result _ _ (λ stop e. subst stops (sym e) (out_of_memory c.in_ok-loaded.ensures.loaded.reads.only)) c.work_on.ensures.stopped
