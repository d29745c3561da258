use Rattle.std.proofs.Common.{refl, ap, ◌∙◌}
use Rattle.std.specs.Prelude.{option_copied}
use Rattle.std.proofs.lemmas.Result.{IfOk-from_err}
use Rattle.host.proofs.HostLemmas.{OnlyReads-refl, SameFaults-refl}
use Rattle.bdos_small.specs.DiskFile.{disk_file}
use Rattle.cmd_common.specs.declared.stop.Stop.TheVariants.{OutOfMemory}
use Rattle.cmd_common.proofs.Told.{handed_on}
use Rattle.cmd_runs.specs.Supplies.{DiskFileStops}
use Rattle.cmd_runs.proofs.supplies.read_disk_file.Goals as goal

-- want of memory for the file of a disk without files
pub returns-in_err-write-in-None : goal.returns-in_err-write-in-None
returns-in_err-write-in-None g c =
    let start = g.H.Host.state c.args.host.now in
    let r = c.from_residual in
    record {
      only = OnlyReads-refl start;
      read = IfOk-from_err r.result _ r.ensures.0;
      counted = IfOk-from_err r.result _ r.ensures.0;
      stopped = handed_on r.result OutOfMemory (DiskFileStops (option_copied c.args.name) start start) r.ensures.1 (rw c.in-None.is refl);
    }

pub returns-in_ok-write-in-None : goal.returns-in_ok-write-in-None
returns-in_ok-write-in-None g c =
    let start = g.H.Host.state c.args.host.now in
    record { only = OnlyReads-refl start; read = rw c.in-None.is (c.in_ok-write-in-None.ensures.file ∙ ap disk_file c.empty.ensures); counted = SameFaults-refl start; stopped = tt }
