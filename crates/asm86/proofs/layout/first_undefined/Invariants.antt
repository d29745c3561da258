use Rattle.asm86_line_types.specs.Image.{statements, UsesDefined}
use Rattle.asm86.proofs.Laid.{up_to}
use Rattle.asm86.proofs.layout.first_undefined.Given as goal

abbrev pub invariant-loop-line : goal.invariant-loop-line
invariant-loop-line l = UsesDefined (statements l.lines) (up_to l.lines l.line-index)
