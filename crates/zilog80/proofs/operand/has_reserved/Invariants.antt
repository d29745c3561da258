use Rattle.std.proofs.Common.{◌≡◌, drop}
use Rattle.zilog80.specs.Operands.{has_reserved}
use Rattle.zilog80.proofs.operand.has_reserved.Given as goal

abbrev pub invariant-loop-token : goal.invariant-loop-token
invariant-loop-token l = has_reserved (drop l.token-index l.tokens) ≡ has_reserved l.tokens
