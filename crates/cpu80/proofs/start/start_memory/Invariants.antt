use Rattle.std.proofs.Common.{◌≡◌}
use Rattle.std.specs.Vec.{vec_capacity}
use Rattle.cpu80.specs.Start.{start_byte}
use Rattle.cpu80.proofs.Starts.{Filled}
use Rattle.cpu80.proofs.start.start_memory.Given as goal

abbrev pub invariant-loop-at : goal.invariant-loop-at
invariant-loop-at l = record { filled : Filled (start_byte l.program l.page l.fill) l.bytes.items l.at; room : vec_capacity l.bytes ≡ 0x10000 }
