use Rattle.std.proofs.Common.{subst}
use Rattle.cmd_arguments.specs.ReadCommands.{run86_read}
use Rattle.cmd_runs.specs.Finishing.{IsClosed}
use Rattle.cmd_runs.proofs.Working.{gives, gives_alone}
use Rattle.cmd_runs.proofs.OneRun.{one_stays}
use Rattle.cmd_runs.proofs.OneOutcome.{one_completes}
use Rattle.cmd_runs.specs.Runs86.{kind86, work86}
use Rattle.cmd_runs.proofs.Laws86.{laws86}
use Rattle.cmd_runs.proofs.run_text.run86.Goals as goal

pub returns-clause-gives : goal.returns-clause-gives
returns-clause-gives g c =
    let old = g.H.Host.state c.args.host.now in
    let mid = g.H.Host.state c.work-worked.new.host in
    let new = g.H.Host.state c.close_work.new.host in
    gives (work86 (run86_read c.args.command.now)) old mid new c.close_work.result c.work-worked.result c.work-worked.ensures.came c.work-worked.ensures.halted
    (subst (λ names. IsClosed names c.work-worked.result mid new c.close_work.result) c.run_names.ensures c.close_work.ensures)

pub returns-clause-files : goal.returns-clause-files
returns-clause-files g c =
    let kind = kind86 (run86_read c.args.command.now) in
    let old = g.H.Host.state c.args.host.now in
    let new = g.H.Host.state c.close_work.new.host in
    gives_alone (work86 (run86_read c.args.command.now)) (one_stays kind) old new c.close_work.result (returns-clause-gives g c)

pub returns-clause-completes : goal.returns-clause-completes
returns-clause-completes g c =
    let kind = kind86 (run86_read c.args.command.now) in
    let old = g.H.Host.state c.args.host.now in
    let new = g.H.Host.state c.close_work.new.host in
    let law = c.texts_have_one_image.ensures in
    let disks = c.disks_read_back.ensures in
    one_completes kind (laws86 law.image law.fault law.apart (run86_read c.args.command.now)) (record { told = disks.told; taken = disks.taken }) old new c.close_work.result (returns-clause-gives g c)
