use Rattle.std.proofs.Common.{◌≡◌, take, Some}
use Rattle.asm86_line_reader.specs.Operands.{each, operand_in}
use Rattle.asm86_line_reader.proofs.operands.each_operand.Given as goal

abbrev pub invariant-loop-part : goal.invariant-loop-part
invariant-loop-part l = each (λ part. operand_in part.now) (take l.part-index l.parts) ≡ Some l.operands.items
