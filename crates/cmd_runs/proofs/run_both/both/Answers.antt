use Rattle.std.proofs.Common.{subst}
use Rattle.cmd_arguments.specs.ReadCommands.{both_read}
use Rattle.cmd_runs.specs.Finishing.{IsClosed}
use Rattle.cmd_runs.proofs.Working.{gives, gives_alone}
use Rattle.cmd_runs.specs.BothRuns.{work_both}
use Rattle.cmd_runs.proofs.BothMade.{both_stay}
use Rattle.cmd_runs.proofs.BothCompleting.{completes_both}
use Rattle.cmd_runs.proofs.run_both.both.Goals as goal

pub returns-clause-gives : goal.returns-clause-gives
returns-clause-gives g c =
    let old = g.H.Host.state c.args.host.now in
    let mid = g.H.Host.state c.work-worked.new.host in
    let new = g.H.Host.state c.close_work.new.host in
    gives (work_both (both_read c.args.command.now)) old mid new c.close_work.result c.work-worked.result c.work-worked.ensures.came c.work-worked.ensures.halted
    (subst (λ names. IsClosed names c.work-worked.result mid new c.close_work.result) c.run_names.ensures c.close_work.ensures)

pub returns-clause-files : goal.returns-clause-files
returns-clause-files g c =
    let old = g.H.Host.state c.args.host.now in
    let new = g.H.Host.state c.close_work.new.host in
    gives_alone (work_both (both_read c.args.command.now)) (both_stay (both_read c.args.command.now)) old new c.close_work.result (returns-clause-gives g c)

pub returns-clause-completes : goal.returns-clause-completes
returns-clause-completes g c =
    let old = g.H.Host.state c.args.host.now in
    let new = g.H.Host.state c.close_work.new.host in
    let command = both_read c.args.command.now in
    let disks = c.disks_read_back.ensures in
    completes_both command (c.sources_have_one_outcome.ensures command.zilog) (record { told = disks.told; taken = disks.taken }) c.own_texts_are_same.ensures.one old new c.close_work.result (returns-clause-gives g c)
