use Rattle.std.proofs.Common.{◌≡◌, ◌↔◌, ◌++◌, List, length}
use Rattle.asm86_line_types.specs.declared.line.Stmt86.{Stmt86}
use Rattle.text_check.proofs.frame.behind.Given as goal

-- what is behind what is left is behind the whole
abbrev pub invariant-loop-expected : goal.invariant-loop-expected
invariant-loop-expected l = (after : List Stmt86) → (l.text ≡ l.first ++ after) ↔ (l.rest ≡ l.left ++ after)

abbrev pub decreases-loop-expected : goal.decreases-loop-expected
decreases-loop-expected l = length l.left
