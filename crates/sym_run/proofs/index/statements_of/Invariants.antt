use Rattle.std.proofs.Common.{◌≡◌, take}
use Rattle.asm86_line_types.specs.Image.{statements}
use Rattle.sym_run.proofs.index.statements_of.Given as goal

abbrev pub invariant-loop-line : goal.invariant-loop-line
invariant-loop-line l = l.list.items ≡ statements (take l.line-index l.lines)
