use Rattle.std.proofs.Common.{subst}
use Rattle.cmd_arguments.specs.ReadCommands.{run_hex_read}
use Rattle.cmd_runs.specs.Finishing.{IsClosed}
use Rattle.cmd_runs.proofs.Working.{gives, gives_alone}
use Rattle.cmd_runs.proofs.OneRun.{one_stays}
use Rattle.cmd_runs.proofs.OneOutcome.{one_completes}
use Rattle.cmd_runs.specs.RunsHex.{kind_hex, work_hex}
use Rattle.cmd_runs.proofs.LawsHex.{laws_hex}
use Rattle.cmd_runs.proofs.run_hex.runhex.Goals as goal

pub returns-clause-gives : goal.returns-clause-gives
returns-clause-gives g c =
    let old = g.H.Host.state c.args.host.now in
    let mid = g.H.Host.state c.work-worked.new.host in
    let new = g.H.Host.state c.close_work.new.host in
    gives (work_hex (run_hex_read c.args.command.now)) old mid new c.close_work.result c.work-worked.result c.work-worked.ensures.came c.work-worked.ensures.halted
    (subst (λ names. IsClosed names c.work-worked.result mid new c.close_work.result) c.run_names.ensures c.close_work.ensures)

pub returns-clause-files : goal.returns-clause-files
returns-clause-files g c =
    let kind = kind_hex (run_hex_read c.args.command.now) in
    let old = g.H.Host.state c.args.host.now in
    let new = g.H.Host.state c.close_work.new.host in
    gives_alone (work_hex (run_hex_read c.args.command.now)) (one_stays kind) old new c.close_work.result (returns-clause-gives g c)

pub returns-clause-completes : goal.returns-clause-completes
returns-clause-completes g c =
    let kind = kind_hex (run_hex_read c.args.command.now) in
    let old = g.H.Host.state c.args.host.now in
    let new = g.H.Host.state c.close_work.new.host in
    let law = c.hex_file_has_one_reading.ensures in
    let disks = c.disks_read_back.ensures in
    one_completes kind (laws_hex law.one_list law.one_fault law.not_both (run_hex_read c.args.command.now)) (record { told = disks.told; taken = disks.taken }) old new c.close_work.result (returns-clause-gives g c)
