use Rattle.std.proofs.Common.{[]}
use Rattle.cpu80_tagged.specs.Start.{start80}
use Rattle.cpu80_tagged.specs.Step.{machine80}
use Rattle.cpu80.specs.Step.{untagged_machine}
use Rattle.i80_bytes.specs.Start.{start_of_bytes}
use Rattle.cpu86.specs.Start.{start86}
use Rattle.cpu86.specs.Step.{machine86}
use Rattle.emulator_loop.proofs.OneRun.{one_run}
use Rattle.emulators.specs.Courses.{why80, why86}
use Rattle.emulators.specs.ByteCourses.{why_bytes}
use Rattle.emulators.proofs.laws.runs_are_one.Goals as goal

pub returns-clause-of_80 : goal.returns-clause-of_80
returns-clause-of_80 c = λ p page. one_run (machine80 p) [] why80 (start80 p page)

pub returns-clause-of_86 : goal.returns-clause-of_86
returns-clause-of_86 c = λ fetch image page fill start choices. one_run (machine86 fetch) choices why86 (start86 image page fill start)

pub returns-clause-of_bytes : goal.returns-clause-of_bytes
returns-clause-of_bytes c = λ fetch cells top page fill choices. one_run (untagged_machine fetch) choices why_bytes (start_of_bytes cells top page fill)
