use Rattle.dialogue.proofs.Called.{calls_run}
use Rattle.cpu86.specs.Step.{machine86}
use Rattle.cpu86.specs.Start.{start86}
use Rattle.cpu86.specs.Histories.{CallsGiveRuns}
use Rattle.cpu86.proofs.laws.calls_give_runs.Goals as goal

pub returns : goal.returns
unfolding CallsGiveRuns
returns c fetch image page fill start choices = calls_run (machine86 fetch) choices (start86 image page fill start)
