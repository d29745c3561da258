use Rattle.std.proofs.Common.{◌≡◌, ◌*◌, length, take}
use Rattle.std.specs.List.{All}
use Rattle.bdos_small.specs.DiskFile.{all_records}
use Rattle.bdos_small.proofs.reading.read_records.Given as goal

abbrev pub invariant-loop-k : goal.invariant-loop-k
invariant-loop-k l = record {
  bytes_are : all_records l.records.items ≡ take (l.k * 128) l.bytes;
  count_is : length l.records.items ≡ l.k;
  whole : All (λ r. length r ≡ 128) l.records.items;
}
