use Rattle.cpu80.specs.ProcessorState.{untagged_state}
use Rattle.cpu80.proofs.Asking.{asked_is, stopped_is, same_asked}
use Rattle.cpu80.proofs.machine.Untagged80.call_system.Goals as goal

pub invariant_of-self : goal.invariant_of-self
invariant_of-self c = record { asked = λ kept other same. same_asked (untagged_state c.args.self.now.processor) c.in-Some.shape kept c.args.back other c.in-Some.ensures same }

pub returns-in-Some-clause-step : goal.returns-in-Some-clause-step
returns-in-Some-clause-step c = asked_is (untagged_state c.args.self.now.processor) c.in-Some.shape c.if-self-eq0.false c.in-Some.ensures

pub returns-in-None-clause-step : goal.returns-in-None-clause-step
returns-in-None-clause-step c = stopped_is (untagged_state c.args.self.now.processor) c.if-self-eq0.false c.in-None.ensures
