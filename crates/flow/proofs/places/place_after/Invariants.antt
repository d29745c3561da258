use Rattle.std.proofs.Common.{◌≡◌, ◌-◌}
use Rattle.flow.specs.Blocks.{place_after}
use Rattle.flow.proofs.places.place_after.Given as goal

abbrev pub invariant-loop-passed : goal.invariant-loop-passed
invariant-loop-passed l = place_after l.program l.at (l.count - l._passed) ≡ place_after l.program l.first l.count
