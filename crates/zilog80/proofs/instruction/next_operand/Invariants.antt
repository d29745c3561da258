use Rattle.std.proofs.Common.{◌≡◌, ◌+◌, drop}
use Rattle.zilog80.specs.Read.{operand_len}
use Rattle.zilog80.proofs.instruction.next_operand.Given as goal

abbrev pub invariant-loop-i : goal.invariant-loop-i
invariant-loop-i l = operand_len l.tokens ≡ l.i + operand_len (drop l.i l.tokens)
