use Rattle.std.proofs.Common.{◌≡◌, ◌+◌, drop}
use Rattle.std.specs.List.{position_or_len}
use Rattle.bdos_small.specs.Disks.{has_name}
use Rattle.bdos_small.proofs.disk.place_of.Given as goal

abbrev pub invariant-loop-k : goal.invariant-loop-k
invariant-loop-k l = l.k + position_or_len (has_name l.name) (drop l.k l.files) ≡ position_or_len (has_name l.name) l.files
