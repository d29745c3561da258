use Rattle.std.proofs.Common.{[]}
use Rattle.flow.specs.Wiring.{IsWiredTo}
use Rattle.flow.proofs.wiring.wire_all.Given as goal

abbrev pub invariant-loop-from : goal.invariant-loop-from
invariant-loop-from l = IsWiredTo l.program l.sources l.from []
