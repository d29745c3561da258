-- What `runhex` is among the commands that run something: the cells of a HEX file run on the 8080 that fetches bytes, by a choice.
use Rattle.std.specs.Prelude.{◌≡◌, ℕ, List, [], ◌∷◌}
use Rattle.dialogue.specs.declared.request.Reply.{Reply}
use Rattle.hex_file.specs.declared.fault.HexFault.{HexFault}
use Rattle.hex_file.specs.declared.fault.HexFault.TheVariants.{Bad, Memory}
use Rattle.hex_file.specs.HexFile.{IsHexOf, IsHexFaultOf}
use Rattle.i80_bytes.specs.InMemory.{IsFetchOfBytes}
use Rattle.i80_bytes.specs.Fetch.{fetch_of_bytes}
use Rattle.emulator_loop.specs.Talk.{SeenRun}
use Rattle.emulators.specs.ByteCourses.{course_bytes}
use Rattle.cmd_arguments.specs.Words.{RunHex}
use Rattle.cmd_common.specs.declared.stop.Stop.{Stop}
use Rattle.cmd_common.specs.declared.stop.Stop.TheVariants.{BadHex, OutOfMemory}
use Rattle.cmd_common.specs.Files.{input_limit}
use Rattle.cmd_runs.specs.Supplies.{fill_by}
use Rattle.cmd_runs.specs.Settings.{RunSetting}
use Rattle.cmd_runs.specs.Kinds.{RunKind}
use Rattle.cmd_runs.specs.Works.{RunWork, work_of_one}

-- why bytes are no HEX file
abbrev pub HexIsRefused : List ℕ → Stop → Type 0
HexIsRefused bytes stop = (line : ℕ) × IsHexFaultOf bytes (Bad line) × (stop ≡ BadHex line)

-- what a fault of its reading is to the command
abbrev pub stop_of_hex : HexFault → Stop
stop_of_hex (Bad line) = BadHex line
stop_of_hex Memory = OutOfMemory

-- why bytes give no cells: they are no HEX file, or memory ran out
abbrev pub HexStops : List ℕ → Stop → Type 0
HexStops bytes stop = (fault : HexFault) × IsHexFaultOf bytes fault × (stop ≡ stop_of_hex fault)

-- the course of cells below a top, with a start page, by a choice: the memory is filled with the choice's lowest byte, from which the
-- registers and flags are taken too, and the choice gives each result that is unknown. What the machine fetches at an address is the
-- instruction whose encoding the bytes of memory begin with there
pub record IsCourseOfBytes (page : List ℕ) (top choice : ℕ) (cells : List (ℕ × ℕ)) (course : List Reply → ℕ → SeenRun) : Type 0 where
  pub fetches : IsFetchOfBytes fetch_of_bytes
  pub is : course ≡ course_bytes fetch_of_bytes cells top page (fill_by choice) (choice ∷ [])

abbrev pub setting_of_bytes : List ℕ → ℕ → ℕ → List (ℕ × ℕ) → ℕ → List ℕ → RunSetting
setting_of_bytes page top choice cells limit prefix = record { IsCourse = IsCourseOfBytes page top choice cells; limit = limit; prefix = prefix }

-- a file that is a HEX file gives its cells, and any other file is refused at the first line that fits nowhere; the cells have a course,
-- since there is a fetch of bytes, and no line stands with a stop
abbrev pub kind_hex : RunHex → RunKind (List (ℕ × ℕ))
kind_hex c = record {
  file = c.file;
  most = input_limit;
  options = c.run;
  IsGiven = λ bytes cells. IsHexOf bytes cells;
  IsRefused = λ bytes stop. HexIsRefused bytes stop;
  IsReadable = λ cells. IsFetchOfBytes fetch_of_bytes;
  IsCourse = λ cells course. IsCourseOfBytes c.run.page c.top c.choice cells course;
  IsStopLine = λ cells end line. line ≡ 0;
}

abbrev pub work_hex : RunHex → RunWork
work_hex c = work_of_one (kind_hex c)
