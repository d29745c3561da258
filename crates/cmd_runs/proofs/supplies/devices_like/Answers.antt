use Rattle.std.proofs.Common.{IfOk, IfErr, refl, subst, ◌∙◌}
use Rattle.std.proofs.lemmas.Result.{IfOk-from_err}
use Rattle.bdos_small.specs.declared.DiskFault.TheVariants.{Memory}
use Rattle.cmd_common.specs.declared.stop.Stop.TheVariants.{OutOfMemory}
use Rattle.cmd_common.proofs.Told.{handed_on}
use Rattle.cmd_runs.specs.Supplies.{given_of, HasDisk, DiskStops}
use Rattle.cmd_runs.proofs.supplies.devices_like.Goals as goal

-- want of memory for a copy
pub returns-in_err-input : goal.returns-in_err-input
returns-in_err-input c = record {
  devices = IfOk-from_err c.from_residual.result _ c.from_residual.ensures.0;
  stopped = handed_on c.from_residual.result OutOfMemory (DiskStops c.args.supplies.now.disk.items) c.from_residual.ensures.1 (Memory, tt, refl);
}

pub returns-in_err-disk : goal.returns-in_err-disk
returns-in_err-disk c = record {
  devices = IfOk-from_err c.from_residual-in_err-disk.result _ c.from_residual-in_err-disk.ensures.0;
  stopped = handed_on c.from_residual-in_err-disk.result OutOfMemory (DiskStops c.args.supplies.now.disk.items) c.from_residual-in_err-disk.ensures.1 (Memory, tt, refl);
}

pub returns-in_err-ports : goal.returns-in_err-ports
returns-in_err-ports c = record {
  devices = IfOk-from_err c.from_residual-in_err-ports.result _ c.from_residual-in_err-ports.ensures.0;
  stopped = handed_on c.from_residual-in_err-ports.result OutOfMemory (DiskStops c.args.supplies.now.disk.items) c.from_residual-in_err-ports.ensures.1 (Memory, tt, refl);
}

pub returns : goal.returns
returns c =
    let s = c.args.supplies.now in
    let r = c.devices_of.result in
    let input = c.in_ok-input.input.items in
    let disk = c.in_ok-disk.disk.items in
    let same = c.in_ok-disk.ensures.items ∙ c.as_slice-2.ensures.value in
    record {
      devices =
          subst (λ bytes. IfOk r (HasDisk (given_of bytes s.disk.items s.ports.items))) (c.in_ok-input.ensures.items ∙ c.as_slice.ensures.value)
          (subst (λ bytes. IfOk r (HasDisk (given_of input bytes s.ports.items))) same
          (subst (λ bytes. IfOk r (HasDisk (given_of input disk bytes))) (c.in_ok-ports.ensures.items ∙ c.as_slice-3.ensures.value) c.devices_of.ensures.devices));
      stopped = subst (λ bytes. IfErr r (DiskStops bytes)) same c.devices_of.ensures.stopped;
    }
