use Rattle.zilog80.proofs.Reading.{passes_token, comma_at, comma_nowhere}
use Rattle.zilog80.proofs.instruction.next_operand.Goals as goal

pub loop-i-preserved : goal.loop-i-preserved
loop-i-preserved c = passes_token c.args.tokens.now c.loop-i.i _ c.loop-i-test.true c.loop-i.invariant c.in_default.not-Comma

pub returns-in-Comma : goal.returns-in-Comma
returns-in-Comma c = comma_at c.args.tokens.now c.loop-i.i _ c.loop-i-test.true c.loop-i.invariant c.in-Comma.is

pub returns : goal.returns
returns c = comma_nowhere c.args.tokens.now c.loop-i.i c.loop-i-test.false c.loop-i.invariant
