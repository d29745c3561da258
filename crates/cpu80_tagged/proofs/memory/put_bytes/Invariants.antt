use Rattle.std.proofs.Common.{◌≡◌, ◌+◌, drop}
use Rattle.cpu80_tagged.specs.Call.{put_bytes}
use Rattle.cpu80_tagged.specs.Draft.{memory_of}
use Rattle.cpu80_tagged.proofs.memory.put_bytes.Given as goal

abbrev pub invariant-loop-k : goal.invariant-loop-k
invariant-loop-k l = put_bytes (memory_of l.memory) (l.at + l.k) (drop l.k l.bytes) ≡ put_bytes (memory_of l.fn.memory) l.at l.bytes
