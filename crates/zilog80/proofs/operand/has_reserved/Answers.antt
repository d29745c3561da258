use Rattle.zilog80.proofs.Reading.{passes_unreserved, reserved_at}
use Rattle.zilog80.proofs.operand.has_reserved.Goals as goal

pub loop-token-preserved : goal.loop-token-preserved
loop-token-preserved c = passes_unreserved c.args.tokens.now c.loop-token.token-index c.token-item.result c.loop-token-test.true c.token-item.is c.loop-token.invariant c.in_default.not-Register

pub returns-in-Register : goal.returns-in-Register
returns-in-Register c = reserved_at c.args.tokens.now c.loop-token.token-index c.token-item.result _ c.loop-token-test.true c.token-item.is c.loop-token.invariant c.in-Register.is
