use Rattle.std.proofs.Common.{subst}
use Rattle.cmd_arguments.specs.ReadCommands.{run80_read}
use Rattle.cmd_runs.specs.Finishing.{IsClosed}
use Rattle.cmd_runs.proofs.Working.{gives, gives_alone}
use Rattle.cmd_runs.proofs.OneRun.{one_stays}
use Rattle.cmd_runs.proofs.OneOutcome.{one_completes}
use Rattle.cmd_runs.specs.Runs80.{kind80, work80}
use Rattle.cmd_runs.proofs.Laws80.{laws80}
use Rattle.cmd_runs.proofs.run_source.run80.Goals as goal

pub returns-clause-gives : goal.returns-clause-gives
returns-clause-gives g c =
    let old = g.H.Host.state c.args.host.now in
    let mid = g.H.Host.state c.work-worked.new.host in
    let new = g.H.Host.state c.close_work.new.host in
    gives (work80 (run80_read c.args.command.now)) old mid new c.close_work.result c.work-worked.result c.work-worked.ensures.came c.work-worked.ensures.halted
    (subst (λ names. IsClosed names c.work-worked.result mid new c.close_work.result) c.run_names.ensures c.close_work.ensures)

pub returns-clause-files : goal.returns-clause-files
returns-clause-files g c =
    let kind = kind80 (run80_read c.args.command.now) in
    let old = g.H.Host.state c.args.host.now in
    let new = g.H.Host.state c.close_work.new.host in
    gives_alone (work80 (run80_read c.args.command.now)) (one_stays kind) old new c.close_work.result (returns-clause-gives g c)

pub returns-clause-completes : goal.returns-clause-completes
returns-clause-completes g c =
    let kind = kind80 (run80_read c.args.command.now) in
    let old = g.H.Host.state c.args.host.now in
    let new = g.H.Host.state c.close_work.new.host in
    let command = run80_read c.args.command.now in
    let disks = c.disks_read_back.ensures in
    one_completes kind (laws80 command (c.sources_have_one_outcome.ensures command.zilog)) (record { told = disks.told; taken = disks.taken }) old new c.close_work.result (returns-clause-gives g c)
