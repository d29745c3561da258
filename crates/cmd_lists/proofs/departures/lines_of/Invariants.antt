use Rattle.std.proofs.Common.{map, take}
use Rattle.std.specs.String.{string_bytes}
use Rattle.cmd_lists.specs.Departures.{AreLinesOfPlaces}
use Rattle.cmd_lists.proofs.departures.lines_of.Given as goal

abbrev pub invariant-loop-place : goal.invariant-loop-place
invariant-loop-place l = AreLinesOfPlaces l.program (take l.place-index l.places) (map string_bytes l.lines.items)
