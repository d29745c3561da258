use Rattle.std.proofs.Common.{◌≡◌, refl, ◌∙◌, subst}
use Rattle.std.specs.Prelude.{option_copied}
use Rattle.std.proofs.lemmas.Result.{IfOk-from_err}
use Rattle.host.specs.Host.{Rewrites, WriteFault}
use Rattle.bdos_small.specs.DiskFile.{disk_file}
use Rattle.host_files.specs.Transfer.{IsBeforeOrPart}
use Rattle.cmd_common.specs.declared.stop.Stop.TheVariants.{OutOfMemory}
use Rattle.cmd_common.proofs.Told.{handed_on}
use Rattle.cmd_runs.specs.Keeping.{DiskKeepStops, no_memory, failed, host_memory}
use Rattle.cmd_runs.proofs.keeping.keep_disk.Goals as goal

pub returns-in_err-bytes : goal.returns-in_err-bytes
returns-in_err-bytes g c =
    let r = c.from_residual in
    let start = g.H.Host.state c.args.host.now in
    record {
      kept = IfOk-from_err r.result _ r.ensures.0;
      stopped = handed_on r.result OutOfMemory (DiskKeepStops (option_copied c.args.name) c.args.disk.now start start) r.ensures.1 (rw c.in-Some.is (no_memory refl));
    }

pub returns-in-Ok : goal.returns-in-Ok
returns-in-Ok g c =
    let old = g.H.Host.state c.args.host.now in
    let new = g.H.Host.state c.write_bytes.new.host in
    let is : c.as_slice.result.now ≡ disk_file c.args.disk.now = c.as_slice.ensures.value ∙ c.in_ok-bytes.ensures.file in
    record {
      kept = rw c.in-Some.is (record { only = c.in-Ok.ensures.only; file = subst (λ b. Rewrites old new c.in-Some.name.now b) is c.in-Ok.ensures.ok; counted = c.in-Ok.ensures.counted });
      stopped = tt;
    }

pub returns-in-Err-Failed : goal.returns-in-Err-Failed
returns-in-Err-Failed g c =
    let old = g.H.Host.state c.args.host.now in
    let new = g.H.Host.state c.write_bytes.new.host in
    let is : c.as_slice.result.now ≡ disk_file c.args.disk.now = c.as_slice.ensures.value ∙ c.in_ok-bytes.ensures.file in
    let e = c.in-Err-Failed.ensures in
    let cause = subst (WriteFault old new) c.in-Err-Failed.field-0-is e.failed in
    record {
      kept = tt;
      stopped = rw c.in-Some.is (failed (record { only = e.only; part = subst (λ b. IsBeforeOrPart old new c.in-Some.name.now b) is e.fault; cause = cause }));
    }

pub returns : goal.returns
returns g c =
    let old = g.H.Host.state c.args.host.now in
    let new = g.H.Host.state c.write_bytes.new.host in
    let is : c.as_slice.result.now ≡ disk_file c.args.disk.now = c.as_slice.ensures.value ∙ c.in_ok-bytes.ensures.file in
    let e = c.in-Err-Memory.ensures in
    let cause = subst (WriteFault old new) c.in-Err-Memory.field-0-is e.failed in
    record {
      kept = tt;
      stopped = rw c.in-Some.is (host_memory (record { only = e.only; part = subst (λ b. IsBeforeOrPart old new c.in-Some.name.now b) is e.fault; cause = cause }));
    }
