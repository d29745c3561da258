use Rattle.std.proofs.Common.{◌≤◌, length, drop}
use Rattle.asm86_line_types.specs.declared.line.Label.{Label}
use Rattle.asm86_line_types.specs.Image.{offset_in}
use Rattle.sym_block_def.specs.Walk86.{after_label}
use Rattle.sym_run.specs.Places.{IsPlace}
use Rattle.sym_run.proofs.index.places_of.Given as goal

abbrev pub invariant-loop-at : goal.invariant-loop-at
invariant-loop-at l = (l.at ≤ length l.statements) × ((q : Label) → IsPlace l.statements (offset_in l.places q) (after_label (drop l.at l.statements) q))

abbrev pub decreases-loop-at : goal.decreases-loop-at
decreases-loop-at l = l.at
