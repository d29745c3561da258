use Rattle.std.proofs.Common.{◌<◌, ◌^◌}
use Rattle.bdos_small.specs.DiskFile.{IsBadAt}
use Rattle.bdos_small.proofs.Whole.{stops_weaker, bad_small}
use Rattle.bdos_small.proofs.disk.Disk.read.Goals as goal

pub fault-requires : goal.fault-requires
fault-requires c = stops_weaker (IsBadAt c.args.bytes.now) (λ k. k < 2 ^ 32) c.in-Err.stop c.in-Err.ensures (bad_small c.args.bytes.now)
