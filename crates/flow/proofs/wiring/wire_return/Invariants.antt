use Rattle.std.proofs.Common.{length, take}
use Rattle.asm80_types.specs.Program.{starts}
use Rattle.asm80_types.specs.Taken.{taken_places}
use Rattle.flow.specs.Wiring.{IsWiredTo}
use Rattle.flow.proofs.Numbers.{start_nodes}
use Rattle.flow.proofs.wiring.wire_return.Given as goal

abbrev pub invariant-loop-at : goal.invariant-loop-at
invariant-loop-at l = IsWiredTo l.program l.sources (length (starts l.program)) (start_nodes (take l.at-index (taken_places l.program)))
