use Rattle.std.proofs.Common.{◌≡◌, drop}
use Rattle.bdos_small.specs.Disks.{next_matching}
use Rattle.bdos_small.proofs.disk.Disk.next_matching.Given as goal

abbrev pub invariant-loop-file : goal.invariant-loop-file
invariant-loop-file l =
    next_matching l.pattern l.last (drop l.file-index l.self) ≡ next_matching l.pattern l.last l.self
