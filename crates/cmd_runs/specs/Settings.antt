-- How a run over devices is made and said: by the courses that it may take, up to so many instructions, in lines that begin with a
-- prefix. And how the two machines run.
use Rattle.std.specs.Prelude.{◌≡◌, ℕ, List, [], ◌∷◌, Option}
use Rattle.i86.specs.declared.Instr86.{Instr86}
use Rattle.i86.specs.Code.{ReadsCode}
use Rattle.dialogue.specs.declared.request.Reply.{Reply}
use Rattle.asm80_types.specs.Program.{Program}
use Rattle.asm86_line_types.specs.Image.{Image}
use Rattle.host.specs.Host.{HostState, SameFaults, OnlySays}
use Rattle.bdos_small.specs.Supply.{Supply}
use Rattle.emulator_loop.specs.declared.fault.TalkFault.{TalkFault}
use Rattle.emulator_loop.specs.declared.running.Conversation.{Conversation}
use Rattle.emulator_loop.specs.Talk.{SeenRun, SaysRun, IsCutOff}
use Rattle.emulators.specs.Courses.{course80, course86}
use Rattle.emulators.specs.Starts.{start_by}
use Rattle.cmd_runs.specs.Supplies.{fill_by}

-- a course says how a run goes, by the replies that it is given and the number of turns. An 8080 has one; an 8086 has one for whatever
-- reads its code
pub record RunSetting : Type 1 where
  pub IsCourse : (List Reply → ℕ → SeenRun) → Type 0
  pub limit : ℕ
  pub prefix : List ℕ

module _ (setting : RunSetting) (supply : Supply) where
  -- by each of its courses the run comes to this end, says its whole dialogue and leaves this; and no call of the host failed
  pub record RunComesTo (end : Conversation) (left : Supply) (old new : HostState) : Type 0 where
    pub says : (course : List Reply → ℕ → SeenRun) → setting.IsCourse course → SaysRun course supply setting.limit setting.prefix end left old new
    pub only : OnlySays old new
    pub counted : SameFaults old new

  -- by each of its courses a fault cut it off, and its first events were said
  pub record IsRunCutOff (fault : TalkFault) (old new : HostState) : Type 0 where
    pub cut : (course : List Reply → ℕ → SeenRun) → setting.IsCourse course → IsCutOff course supply setting.limit setting.prefix old new fault
    pub only : OnlySays old new

-- the course of the tagged 8080 with a program and a start page
abbrev pub IsCourse80 : List ℕ → Program → (List Reply → ℕ → SeenRun) → Type 0
IsCourse80 page program course = course ≡ course80 program page

-- a course of the 8086 with an image and a start page, by a choice: the memory is filled with the choice's lowest byte, registers and
-- flags hold its lowest bits, and the choice gives each undefined result
pub record IsCourse86 (page : List ℕ) (choice : ℕ) (image : Image) (course : List Reply → ℕ → SeenRun) : Type 0 where
  pub fetch : ℕ → Option Instr86
  pub reads : ReadsCode image.code fetch
  pub is : course ≡ course86 fetch image page (fill_by choice) (start_by choice) (choice ∷ [])

abbrev pub setting80 : List ℕ → Program → ℕ → List ℕ → RunSetting
setting80 page program limit prefix = record { IsCourse = IsCourse80 page program; limit = limit; prefix = prefix }

abbrev pub setting86 : List ℕ → ℕ → Image → ℕ → List ℕ → RunSetting
setting86 page choice image limit prefix = record { IsCourse = IsCourse86 page choice image; limit = limit; prefix = prefix }
