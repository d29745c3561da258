use Rattle.std.proofs.Common.{◌≡◌, drop}
use Rattle.bdos_small.specs.Disks.{file_named}
use Rattle.bdos_small.proofs.disk.Disk.file_named.Given as goal

abbrev pub invariant-loop-file : goal.invariant-loop-file
invariant-loop-file l = file_named l.name (drop l.file-index l.self) ≡ file_named l.name l.self
