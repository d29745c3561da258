-- How a machine stands between its calls, and how its run stands by what a step answers.
use Rattle.std.specs.Prelude.{ℕ, List, Option, Some, None}
use Rattle.dialogue.specs.declared.request.Event.{Event}
use Rattle.dialogue.specs.declared.request.Event.TheVariants.{Call, In, Out, End}
use Rattle.dialogue.specs.Shape.{request_of}
use Rattle.dialogue.specs.ByteMemory.{seen_by}
use Rattle.dialogue.specs.Run.{Status, Going, Waiting, Over, Stopped}
use Rattle.dialogue.specs.Calls.{Standing}
use Rattle.cpu86.specs.State.{State86}
use Rattle.cpu86.specs.Call.{Stop, NoInstruction, StackSegment, OddCall}
use Rattle.cpu86.specs.ProcessorState.{state_of_86}
use Rattle.cpu86.specs.declared.cpu.Pending.{Pending}
use Rattle.cpu86.specs.declared.cpu.Pending.TheVariants.{Nothing, Answer, Byte, Taking, Ending}
use Rattle.cpu86.specs.declared.cpu.Step86.{Step86}
use Rattle.cpu86.specs.declared.cpu.Step86.TheVariants.{Ran, Asked, Ended, NoInstruction as HasNone, StackSegment as HasSegment, OddCall as HasOdd}
use Rattle.cpu86.specs.declared.cpu.Cpu86.{Cpu86}

-- what the machine has said last, by what it keeps, if that is still open
abbrev pub said_by : Pending → (ℕ → ℕ) → Option Event
said_by Nothing mem = None
said_by (Answer shape) mem = Some (Call (request_of shape (seen_by mem)))
said_by (Byte port) mem = Some (In port)
said_by (Taking port byte) mem = Some (Out port byte)
said_by Ending mem = Some End

abbrev pub standing : Cpu86 → Standing State86
standing c = record { state = state_of_86 c.processor; said = said_by c.pending (state_of_86 c.processor).mem }

abbrev pub code_kept : Cpu86 → List ℕ
code_kept c = c.code.items

-- a step answers how the run stands after it
abbrev pub status_of : Step86 → Status Stop
status_of Ran = Going
status_of Asked = Waiting
status_of Ended = Over
status_of (HasNone ip) = Stopped (NoInstruction ip)
status_of (HasSegment ip) = Stopped (StackSegment ip)
status_of (HasOdd function) = Stopped (OddCall function)
