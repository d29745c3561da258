-- How the runs of the 8080 that fetches bytes go, as they are seen from outside.
use Rattle.std.specs.Prelude.{◌≡◌, ℕ, List, [], ◌∷◌, Some, None}
use Rattle.dialogue.specs.declared.request.Reply.{Reply}
use Rattle.dialogue.specs.declared.request.Event.{Event}
use Rattle.cpu80.specs.State.{UntaggedState}
use Rattle.cpu80.specs.Call.{Stop, NoInstruction, OddCall}
use Rattle.cpu80.specs.Start.{address_of}
use Rattle.cpu80.specs.Step.{Fetch, untagged_machine}
use Rattle.i80_bytes.specs.Start.{run_bytes}
use Rattle.i80_bytes.specs.declared.machine.Byte80.{Byte80}
use Rattle.i80_bytes.specs.Fetch.{fetch_of_bytes}
use Rattle.i80_bytes.specs.Standing.{byte_standing, IsByteMachine}
use Rattle.emulator_loop.specs.declared.emulator.Why.{Why}
use Rattle.emulator_loop.specs.declared.emulator.Why.TheVariants.{NoInstruction as HasNone, OddCall as HasOdd}
use Rattle.emulator_loop.specs.Talk.{SeenRun, seen}
use Rattle.emulator_loop.specs.Turns.{Course, course_from}

-- the machine stopped; where a call is odd, at the address of its state's place
abbrev pub why_bytes : UntaggedState → Stop → Why
why_bytes u (NoInstruction at) = HasNone at
why_bytes u (OddCall function) = HasOdd (address_of u.place) function

-- how a run over cells goes, by the replies that it is given and the number of turns
abbrev pub course_bytes : Fetch → List (ℕ × ℕ) → ℕ → List ℕ → List ℕ → List ℕ → List Reply → ℕ → SeenRun
course_bytes fetch cells top page fill choices replies n =
    seen why_bytes (run_bytes fetch cells top page fill choices replies n)

-- the same from a state on, by one choice
abbrev pub course_bytes_from : ℕ → UntaggedState → Course
course_bytes_from choice u = course_from (untagged_machine fetch_of_bytes) (choice ∷ []) why_bytes u

-- the machine has nothing open, or waits for the reply to this
abbrev pub RunsBytes : Byte80 → Type 0
RunsBytes c = ((byte_standing c).said ≡ None) × IsByteMachine c

abbrev pub WaitsBytes : Byte80 → Event → Type 0
WaitsBytes c e = ((byte_standing c).said ≡ Some e) × IsByteMachine c
