-- What the end of a run over devices is to a command.
use Rattle.std.specs.Prelude.{ℕ, Result, Ok, Err}
use Rattle.host.specs.declared.HostFault.{HostFault}
use Rattle.host.specs.declared.HostFault.TheVariants.{Failed, Memory}
use Rattle.emulator_loop.specs.declared.emulator.Why.{Why}
use Rattle.emulator_loop.specs.declared.emulator.Why.TheVariants.{Left, NoInstruction as None86, StackSegment as Segment86, OddCall as Odd86}
use Rattle.emulator_loop.specs.declared.fault.TalkFault.{TalkFault}
use Rattle.emulator_loop.specs.declared.fault.TalkFault.TheVariants.{Unsaid as Untold, Memory as NoMemory}
use Rattle.emulator_loop.specs.declared.running.Conversation.{Conversation}
use Rattle.emulator_loop.specs.declared.running.RunEnd.{RunEnd}
use Rattle.emulator_loop.specs.declared.running.RunEnd.TheVariants.{Ended, Stopped, StepLimit as Limit, InputEnded as NoInput, NoDrive as Drive}
use Rattle.cmd_common.specs.declared.stop.Stop.{Stop}
use Rattle.cmd_common.specs.declared.stop.Stop.TheVariants.{OutOfMemory, LeftProfile, StepLimit, InputEnded, NoInstruction, StackSegment, OddCall, NoDrive}
use Rattle.cmd_runs.specs.declared.halt.Halt.{Halt}
use Rattle.cmd_runs.specs.declared.halt.Halt.TheVariants.{By, Unsaid}

-- why a machine stopped; an 8080 does so at the instruction of a line
abbrev pub stop_of_why : ℕ → Why → Stop
stop_of_why line (Left place rule) = LeftProfile line rule
stop_of_why line (None86 offset) = NoInstruction offset
stop_of_why line (Segment86 offset) = StackSegment offset
stop_of_why line (Odd86 offset function) = OddCall offset function

-- how many instructions ran, where the last of them ended the program
abbrev pub came_by_end : ℕ → ℕ → ℕ → RunEnd → Result ℕ Stop
came_by_end limit line steps Ended = Ok steps
came_by_end limit line steps (Stopped why) = Err (stop_of_why line why)
came_by_end limit line steps Limit = Err (StepLimit limit)
came_by_end limit line steps NoInput = Err InputEnded
came_by_end limit line steps (Drive function) = Err (NoDrive function)

abbrev pub came_to : ℕ → ℕ → Conversation → Result ℕ Stop
came_to limit line c = came_by_end limit line c.steps c.end

-- after a line of the run that was not said nothing more is said
abbrev pub halt_of_talk : TalkFault → Halt
halt_of_talk (Untold fault) = Unsaid fault
halt_of_talk NoMemory = By OutOfMemory

-- the status then
abbrev pub unsaid_status : HostFault → ℕ
unsaid_status Failed = 4
unsaid_status Memory = 5

-- a command halts by a stop for this cause
abbrev pub Halts : (Stop → Type 0) → Halt → Type 0
Halts stops (By stop) = stops stop
Halts stops (Unsaid fault) = ⊥
