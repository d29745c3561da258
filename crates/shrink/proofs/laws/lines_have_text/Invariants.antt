use Rattle.std.specs.Prelude.{take}
use Rattle.asm86_line_types.specs.Image.{statements}
use Rattle.shrink.specs.Written.{HaveLines, NameLabels}
use Rattle.shrink.proofs.laws.lines_have_text.Given as goal

abbrev pub invariant-loop-line : goal.invariant-loop-line
invariant-loop-line l = NameLabels (statements l.lines) → HaveLines (statements (take l.line-index l.lines))
