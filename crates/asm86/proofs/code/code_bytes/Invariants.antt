use Rattle.asm86.specs.Places.{label_place}
use Rattle.asm86.proofs.Laid.{up_to, IsCode}
use Rattle.asm86.proofs.code.code_bytes.Given as goal

abbrev pub invariant-loop-line : goal.invariant-loop-line
invariant-loop-line l = IsCode (label_place l.offsets) (up_to l.lines l.line-index) l.code.items
