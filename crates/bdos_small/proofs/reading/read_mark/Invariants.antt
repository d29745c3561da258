use Rattle.std.proofs.Common.{◌≡◌, ◌≤◌, length, take}
use Rattle.bdos_small.specs.DiskFile.{disk_mark}
use Rattle.bdos_small.proofs.reading.read_mark.Given as goal

abbrev pub invariant-loop-place : goal.invariant-loop-place
invariant-loop-place l = record { within : l.place ≤ length l.bytes; same : take l.place l.bytes ≡ take l.place disk_mark }
