use Rattle.std.proofs.Common.{◌≡◌, ◌≤◌, length, take, drop}
use Rattle.asm86_line_types.specs.Layout.{sizes_of}
use Rattle.asm86_line_types.specs.Image.{statements}
use Rattle.templates.specs.Places.{ArePlaces}
use Rattle.templates.proofs.places.Places.of.Given as goal

abbrev pub invariant-loop-rest : goal.invariant-loop-rest
invariant-loop-rest l = record {
  within : l.rest ≤ length l.lines;
  at : l.at ≡ sizes_of (statements (take l.rest l.lines));
  places : ArePlaces l.places l.at (statements (drop l.rest l.lines));
}

abbrev pub decreases-loop-rest : goal.decreases-loop-rest
decreases-loop-rest l = l.rest
