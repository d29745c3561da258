use Rattle.dialogue.proofs.Called.{calls_run}
use Rattle.cpu80.specs.Step.{untagged_machine}
use Rattle.cpu80.specs.Histories.{CallsGiveRuns}
use Rattle.cpu80.proofs.laws.calls_give_runs.Goals as goal

pub returns : goal.returns
unfolding CallsGiveRuns
returns c fetch s choices = calls_run (untagged_machine fetch) choices s
