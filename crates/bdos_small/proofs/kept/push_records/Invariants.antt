use Rattle.std.proofs.Common.{◌≡◌, ◌++◌, take}
use Rattle.bdos_small.specs.DiskFile.{all_records}
use Rattle.bdos_small.proofs.kept.push_records.Given as goal

abbrev pub invariant-loop-record : goal.invariant-loop-record
invariant-loop-record l = l.bytes.items ≡ l.fn.bytes.items ++ all_records (take l.record-index l.records)
