-- What `run80` is among the commands that run something: the program of a source runs on the tagged 8080.
use Rattle.std.specs.Prelude.{◌≡◌, ℕ, Bool, List, Some}
use Rattle.cells.specs.declared.Place.{Place}
use Rattle.cells.specs.declared.Place.TheVariants.{At, Exit}
use Rattle.asm80_types.specs.Program.{Program, line_at}
use Rattle.asm80_source_def.specs.Source.{IsSource}
use Rattle.cmd_arguments.specs.Words.{RunOptions, Run80}
use Rattle.emulator_loop.specs.declared.emulator.Why.TheVariants.{Left, NoInstruction, StackSegment, OddCall}
use Rattle.emulator_loop.specs.declared.running.RunEnd.{RunEnd}
use Rattle.emulator_loop.specs.declared.running.RunEnd.TheVariants.{Ended, Stopped, StepLimit, InputEnded, NoDrive}
use Rattle.cmd_common.specs.Files.{input_limit}
use Rattle.cmd_common.specs.Sources.{SourceStops, reading_of}
use Rattle.cmd_runs.specs.Settings.{IsCourse80}
use Rattle.cmd_runs.specs.Kinds.{RunKind}
use Rattle.cmd_runs.specs.Works.{RunWork, work_of_one}

-- the line of the instruction at a place
abbrev pub IsLineAt : Program → Place → ℕ → Type 0
IsLineAt p (At a) line = line_at p a ≡ Some line
IsLineAt p Exit line = ⊥

-- the line of the instruction at which a run left the profile, where the machine still stands; any other end has none
abbrev pub IsLineOf : Program → RunEnd → ℕ → Type 0
IsLineOf p Ended line = line ≡ 0
IsLineOf p (Stopped (Left place rule)) line = IsLineAt p place line
IsLineOf p (Stopped (NoInstruction offset)) line = line ≡ 0
IsLineOf p (Stopped (StackSegment offset)) line = line ≡ 0
IsLineOf p (Stopped (OddCall offset function)) line = line ≡ 0
IsLineOf p StepLimit line = line ≡ 0
IsLineOf p InputEnded line = line ≡ 0
IsLineOf p (NoDrive function) line = line ≡ 0

-- the words of a source's name, its spelling, a top and the options
abbrev pub words_of : List ℕ → Bool → ℕ → RunOptions → Run80
words_of source zilog top run = record { source = source; zilog = zilog; top = top; run = run }

-- a file that is the source of a program gives it, and any other file is refused by its line and rule; the program has one course, and
-- where it leaves the profile that line stands with the stop
abbrev pub kind80 : Run80 → RunKind Program
kind80 c = record {
  file = c.source;
  most = input_limit;
  options = c.run;
  IsGiven = λ bytes program. IsSource (reading_of c.zilog) bytes c.top program;
  IsRefused = λ bytes stop. SourceStops (reading_of c.zilog) bytes c.top stop;
  IsReadable = λ program. Unit {0};
  IsCourse = λ program course. IsCourse80 c.run.page program course;
  IsStopLine = λ program end line. IsLineOf program end line;
}

abbrev pub work80 : Run80 → RunWork
work80 c = work_of_one (kind80 c)
