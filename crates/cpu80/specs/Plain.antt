-- The machine with a program, whose steps do not tell why it stops.
use Rattle.asm80_types.specs.Program.{Program}
use Rattle.dialogue.specs.Run.{Status, Going, Waiting, Over, Stopped}
use Rattle.dialogue.specs.Calls.{Standing}
use Rattle.cpu80.specs.State.{UntaggedState}
use Rattle.cpu80.specs.Call.{Stop}
use Rattle.cpu80.specs.Step.{program_fetch}
use Rattle.cpu80.specs.declared.plain.StepPlain.{StepPlain}
use Rattle.cpu80.specs.declared.plain.StepPlain.TheVariants.{Ran, Asked, Ended, Stopped as DidStop}
use Rattle.cpu80.specs.declared.plain.Plain80.{Plain80}
use Rattle.cpu80.specs.Standing.{standing, IsMachineOf}

abbrev pub plain_standing : Plain80 → Standing UntaggedState
plain_standing c = standing c.machine

-- what holds of how the run stands, which `StepPlain` tells but for why the machine stops
abbrev pub OfStatus : StepPlain → (Status Stop → Type 0) → Type 0
OfStatus Ran P = P Going
OfStatus Asked P = P Waiting
OfStatus Ended P = P Over
OfStatus DidStop P = (why : Stop) × P (Stopped why)

-- while the machine asks, it does so in this program: it goes on where the program's instruction does
abbrev pub IsPlainOf : Program → Plain80 → Type 0
IsPlainOf p c = IsMachineOf (program_fetch p) c.machine
