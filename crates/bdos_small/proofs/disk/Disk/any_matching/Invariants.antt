use Rattle.std.proofs.Common.{◌≡◌, drop}
use Rattle.bdos_small.specs.Disks.{any_matching}
use Rattle.bdos_small.proofs.disk.Disk.any_matching.Given as goal

abbrev pub invariant-loop-file : goal.invariant-loop-file
invariant-loop-file l =
    any_matching l.pattern (drop l.file-index l.self) ≡ any_matching l.pattern l.self
