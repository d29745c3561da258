use Rattle.cpu80.specs.Call.{NoInstruction, OddCall}
use Rattle.cpu80.proofs.plain.Plain80.step.Goals as goal

pub returns-in-NoInstruction-clause-step : goal.returns-in-NoInstruction-clause-step
returns-in-NoInstruction-clause-step c = (NoInstruction c.in-NoInstruction.field-0, c.in-NoInstruction.ensures.step)

pub returns-in-NoInstruction-clause-said : goal.returns-in-NoInstruction-clause-said
returns-in-NoInstruction-clause-said c = (NoInstruction c.in-NoInstruction.field-0, c.in-NoInstruction.ensures.said)

pub returns-in-OddCall-clause-step : goal.returns-in-OddCall-clause-step
returns-in-OddCall-clause-step c = (OddCall c.in-OddCall.field-0, c.in-OddCall.ensures.step)

pub returns-in-OddCall-clause-said : goal.returns-in-OddCall-clause-said
returns-in-OddCall-clause-said c = (OddCall c.in-OddCall.field-0, c.in-OddCall.ensures.said)
