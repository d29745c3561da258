use Rattle.std.proofs.Common.{sym, ap, ◌∙◌}
use Rattle.cpu86.specs.ProcessorState.{state_of_86, memory_of_86}
use Rattle.cpu86.specs.Step.{step86}
use Rattle.dialogue.specs.Calls.{stepped_by}
use Rattle.dialogue.proofs.Called.{told}
use Rattle.cpu86.specs.Standing.{standing, said_by, status_of}
use Rattle.cpu86.proofs.cpu.Cpu86.step.Goals as goal

pub returns-in-Nothing-clause-step : goal.returns-in-Nothing-clause-step
returns-in-Nothing-clause-step c fetch h =
    c.run_one.ensures.step fetch h
    ∙ sym (ap (λ p. stepped_by (step86 fetch) (state_of_86 c.args.self.now.processor) c.args.choice (said_by p (memory_of_86 c.args.self.now.processor.memory))) c.in-Nothing.is)

pub returns-in-Nothing-clause-told : goal.returns-in-Nothing-clause-told
returns-in-Nothing-clause-told c fetch h none =
    told (step86 fetch (state_of_86 c.args.self.now.processor) c.args.choice) (status_of c.run_one.result) (state_of_86 c.args.self.now.processor) (standing c.run_one.new.self) (c.run_one.ensures.step fetch h)
