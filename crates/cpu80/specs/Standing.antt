-- How a machine stands between its calls, and how its run stands by what a step answers.
use Rattle.std.specs.Prelude.{◌≡◌, ℕ, Option, Some, None}
use Rattle.dialogue.specs.declared.request.Event.{Event}
use Rattle.dialogue.specs.declared.request.Event.TheVariants.{Call, In, Out, End}
use Rattle.cells.specs.declared.Place.TheVariants.{At}
use Rattle.i80.specs.declared.Instr80.{Instr80}
use Rattle.i80.specs.declared.Instr80.TheVariants.{Jmp, Jif}
use Rattle.dialogue.specs.Shape.{request_of}
use Rattle.dialogue.specs.ByteMemory.{seen_by}
use Rattle.dialogue.specs.Run.{Status, Going, Waiting, Over, Stopped}
use Rattle.dialogue.specs.Calls.{Standing}
use Rattle.cpu80.specs.State.{UntaggedState}
use Rattle.cpu80.specs.Call.{Stop, NoInstruction, OddCall, Return, popped_return}
use Rattle.cpu80.specs.Step.{Fetch, return_at}
use Rattle.cpu80.specs.ProcessorState.{untagged_state}
use Rattle.cpu80.specs.Back.{back_of}
use Rattle.cpu80.specs.declared.machine.Pending.{Pending}
use Rattle.cpu80.specs.declared.machine.Pending.TheVariants.{Nothing, Answer, Byte, Taking, Ending}
use Rattle.cpu80.specs.declared.machine.UntaggedStep.{UntaggedStep}
use Rattle.cpu80.specs.declared.machine.UntaggedStep.TheVariants.{Ran, Asked, Ended, NoInstruction as HasNone, OddCall as HasOdd}
use Rattle.cpu80.specs.declared.machine.Untagged80.{Untagged80}

-- what the machine has said last, by what it keeps, if that is still open
abbrev pub said_by : Pending → (ℕ → ℕ) → Option Event
said_by Nothing mem = None
said_by (Answer shape back) mem = Some (Call (request_of shape (seen_by mem)))
said_by (Byte port back) mem = Some (In port)
said_by (Taking port byte back) mem = Some (Out port byte)
said_by Ending mem = Some End

abbrev pub standing : Untagged80 → Standing UntaggedState
standing c = record { state = untagged_state c.processor; said = said_by c.pending (untagged_state c.processor).mem }

-- a step answers how the run stands after it
abbrev pub status_of : UntaggedStep → Status Stop
status_of Ran = Going
status_of Asked = Waiting
status_of Ended = Over
status_of (HasNone address) = Stopped (NoInstruction address)
status_of (HasOdd function) = Stopped (OddCall function)

-- where the machine asks, it keeps the return that is expected, and the state `t` is still the state `s`
abbrev pub Keeps : Option Return → UntaggedState → UntaggedState → Pending → Type 0
Keeps expected s t Nothing = Unit {0}
Keeps expected s t (Answer shape back) = (expected ≡ Some (back_of back)) × (t ≡ s)
Keeps expected s t (Byte port back) = (expected ≡ Some (back_of back)) × (t ≡ s)
Keeps expected s t (Taking port byte back) = (expected ≡ Some (back_of back)) × (t ≡ s)
Keeps expected s t Ending = Unit {0}

-- while the machine asks, it does so where instructions are taken so: it goes on where the instruction that asks does
abbrev pub IsMachineOf : Fetch → Untagged80 → Type 0
IsMachineOf fetch c = Keeps (return_at fetch (untagged_state c.processor) (untagged_state c.processor).place) (untagged_state c.processor) (untagged_state c.processor) c.pending

-- where an instruction goes on if it asks; `next` is the address after it
abbrev pub goes_on_at : UntaggedState → ℕ → Instr80 → Option Return
goes_on_at u next (Jmp t) = Some (popped_return u)
goes_on_at u next (Jif c t) = Some (popped_return u)
goes_on_at u next i = Some (record { place = At next; sp = u.sp })
