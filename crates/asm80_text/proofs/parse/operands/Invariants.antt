use Rattle.std.proofs.Common.{◌≡◌, ◌++◌, List, map, length}
use Rattle.asm80_types.specs.Tree.{Operand, operand_of}
use Rattle.asm80_text.specs.Statement.{AreOperands}
use Rattle.asm80_text.proofs.parse.operands.Given as goal

abbrev pub invariant-loop-args : goal.invariant-loop-args
invariant-loop-args l = record {
  holds : (others : List Operand) → AreOperands l.rest others → AreOperands l.tokens (map operand_of l.args.items ++ others);
  only : (others : List Operand) → AreOperands l.tokens others → (more : List Operand) × (others ≡ map operand_of l.args.items ++ more) × AreOperands l.rest more;
}

abbrev pub decreases-loop-args : goal.decreases-loop-args
decreases-loop-args l = length l.rest
