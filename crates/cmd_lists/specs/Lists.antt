-- What a command that lists something of a source's program is among the commands that make something of one file: it writes nothing, and
-- says lines.
use Rattle.std.specs.Prelude.{ℕ, List, [], None}
use Rattle.std.specs.List.{concat}
use Rattle.asm80_types.specs.Program.{Program}
use Rattle.asm80_source_def.specs.Source.{IsSource}
use Rattle.cmd_arguments.specs.Words.{Listing}
use Rattle.cmd_common.specs.Files.{input_limit}
use Rattle.cmd_common.specs.Sources.{SourceStops, reading_of}
use Rattle.cmd_common.specs.Kinds.{MakeKind}

-- a program, and lines
pub record LinesOfProgram : Type 0 where
  pub program : Program
  pub lines : List (List ℕ)

-- the lines that are listed of a program
module _ (AreLines : Program → List (List ℕ) → Type 0) (c : Listing) where
  -- the bytes are the source of the program, by the reading that the words ask for, and these are its lines
  pub record GivesLines (bytes : List ℕ) (m : LinesOfProgram) : Type 0 where
    pub source : IsSource (reading_of c.zilog) bytes c.top m.program
    pub lines : AreLines m.program m.lines

  -- a file that is a source gives its program's lines, and any other file is refused by its line and rule
  abbrev pub list_kind : MakeKind LinesOfProgram
  list_kind = record {
    file = c.source;
    most = input_limit;
    output = None;
    IsGiven = λ bytes m. GivesLines bytes m;
    IsRefused = λ bytes stop. SourceStops (reading_of c.zilog) bytes c.top stop;
    content = λ m. [];
    report = λ m. concat m.lines;
  }
