use Rattle.std.proofs.Common.{◌≡◌, length, take, drop}
use Rattle.std.specs.Prelude.{map}
use Rattle.bdos_small.specs.Names.{low_seven}
use Rattle.bdos_small.proofs.name.Name.in_block.Given as goal

abbrev pub invariant-loop-k : goal.invariant-loop-k
invariant-loop-k l = record {
  size : length l.bytes ≡ 11;
  low : take l.k l.bytes ≡ map low_seven (take l.k (take 11 (drop 1 l.block)));
}
