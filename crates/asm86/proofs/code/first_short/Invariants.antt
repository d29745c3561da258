use Rattle.std.proofs.Common.{◌≡◌}
use Rattle.asm86_line_types.specs.Layout.{sizes_of}
use Rattle.asm86_line_types.specs.Image.{AllReach}
use Rattle.asm86.specs.Places.{label_place}
use Rattle.asm86.proofs.Laid.{up_to}
use Rattle.asm86.proofs.code.first_short.Given as goal

abbrev pub invariant-loop-line : goal.invariant-loop-line
invariant-loop-line l = record {
  size : l.at ≡ sizes_of (up_to l.lines l.line-index);
  kept : AllReach (label_place l.offsets) 0 (up_to l.lines l.line-index);
}
