-- How the runs of the two processors go, as they are seen from outside.
use Rattle.std.specs.Prelude.{◌≡◌, ℕ, true, List, [], ◌∷◌, Option, None, Some}
use Rattle.cells.specs.declared.Rule.{Rule}
use Rattle.i86.specs.declared.Instr86.{Instr86}
use Rattle.i86.specs.Code.{ReadsCode}
use Rattle.i86.specs.Decoder.{decoded}
use Rattle.dialogue.specs.declared.request.Reply.{Reply}
use Rattle.dialogue.specs.declared.request.Event.{Event}
use Rattle.dialogue.specs.Run.{Asks}
use Rattle.asm80_types.specs.Program.{Program}
use Rattle.asm86_line_types.specs.Image.{Image}
use Rattle.cpu80_tagged.specs.State.{State80}
use Rattle.cpu80_tagged.specs.Start.{run80}
use Rattle.cpu80_tagged.specs.Step.{step80, machine80}
use Rattle.cpu86.specs.State.{State86}
use Rattle.cpu86.specs.Call.{Stop, NoInstruction, StackSegment, OddCall}
use Rattle.cpu86.specs.Start.{Start, run86}
use Rattle.cpu86.specs.Step.{machine86}
use Rattle.cpu80_tagged.specs.declared.processor.Cpu80.{Cpu80}
use Rattle.cpu80_tagged.specs.ProcessorState.{tagged_state, asks}
use Rattle.cpu80_tagged.specs.Machine.{IsMachineOf}
use Rattle.cpu86.specs.declared.cpu.Cpu86.{Cpu86}
use Rattle.cpu86.specs.Standing.{standing, code_kept}
use Rattle.emulator_loop.specs.declared.emulator.Why.{Why}
use Rattle.emulator_loop.specs.declared.emulator.Why.TheVariants.{Left, NoInstruction as HasNone, StackSegment as HasSegment, OddCall as HasOdd}
use Rattle.emulator_loop.specs.Talk.{SeenRun, seen}
use Rattle.emulator_loop.specs.Turns.{Course, course_from}

-- the 8080 left the profile by a rule, at its state's place
abbrev pub why80 : State80 → Rule → Why
why80 s rule = Left s.place rule

-- the 8086 stopped; where a call is odd, at its state's ip
abbrev pub why86 : State86 → Stop → Why
why86 s (NoInstruction at) = HasNone at
why86 s (StackSegment at) = HasSegment at
why86 s (OddCall function) = HasOdd s.ip function

-- how a run goes, by the replies that it is given and the number of turns
abbrev pub course80 : Program → List ℕ → List Reply → ℕ → SeenRun
course80 p page replies n = seen why80 (run80 p page replies n)

abbrev pub course86 : (ℕ → Option Instr86) → Image → List ℕ → List ℕ → Start → List ℕ → List Reply → ℕ → SeenRun
course86 fetch image page fill start choices replies n =
    seen why86 (run86 fetch image page fill start choices replies n)

-- the same from a state on
abbrev pub course80_from : Program → State80 → Course
course80_from p s = course_from (machine80 p) [] why80 s

abbrev pub course86_from : List ℕ → ℕ → State86 → Course
course86_from code choice s = course_from (machine86 (decoded code)) (choice ∷ []) why86 s

-- the 8080 waits for the reply to this
abbrev pub Waits80 : Program → Cpu80 → Event → Type 0
Waits80 p c e = IsMachineOf p c × (asks c ≡ true) × (step80 p (tagged_state c) ≡ Asks e (tagged_state c))

-- the 8086 has nothing open, or waits for the reply to this
abbrev pub Runs86 : Cpu86 → Type 0
Runs86 c = ((standing c).said ≡ None) × ReadsCode (code_kept c) (decoded (code_kept c))

abbrev pub Waits86 : Cpu86 → Event → Type 0
Waits86 c e = ((standing c).said ≡ Some e) × ReadsCode (code_kept c) (decoded (code_kept c))
