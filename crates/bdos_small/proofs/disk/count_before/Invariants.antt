use Rattle.std.proofs.Common.{◌≡◌, ◌≤◌, length, take}
use Rattle.std.specs.List.{filter}
use Rattle.bdos_small.specs.Names.{is_before}
use Rattle.bdos_small.specs.Stored.{Stored}
use Rattle.bdos_small.proofs.disk.count_before.Given as goal

abbrev pub invariant-loop-file : goal.invariant-loop-file
invariant-loop-file l = record {
  counted : l.count ≡ length (filter (λ (f : Stored). is_before f.name l.name) (take l.file-index l.files));
  few : l.count ≤ l.file-index;
}
