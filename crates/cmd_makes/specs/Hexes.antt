-- What `hex80` is among the commands that make something of one file: it writes the HEX file of a source's program.
use Rattle.std.specs.Prelude.{ℕ, List, Some, length, All}
use Rattle.host.specs.Host.{HostState, IsFile, Rewrites}
use Rattle.dialogue.specs.declared.request.Reply.{Reply}
use Rattle.dialogue.specs.Run.{IsNotStopped}
use Rattle.dialogue.specs.Fill.{IsFill}
use Rattle.hex_file.specs.HexFile.{IsHexOf}
use Rattle.hex_file.specs.Written.{IsWritten}
use Rattle.asm80_types.specs.Program.{Program}
use Rattle.asm80_source_def.specs.Source.{IsSource}
use Rattle.cpu80_tagged.specs.Start.{IsPage, run80}
use Rattle.cpu80.specs.Step.{Fetch}
use Rattle.cpu80.specs.Follows.{WritesBytes, HasFollowed}
use Rattle.i80_bytes.specs.InMemory.{IsFetchOfBytes}
use Rattle.i80_bytes.specs.Start.{run_bytes}
use Rattle.i80_bytes.specs.Cells.{program_cells}
use Rattle.cmd_arguments.specs.Words.{Hex80}
use Rattle.cmd_common.specs.Lines.{hex_line}
use Rattle.cmd_common.specs.Files.{input_limit}
use Rattle.cmd_common.specs.Sources.{SourceStops, reading_of}
use Rattle.cmd_common.specs.Kinds.{MakeKind}

-- a program and a text
pub record HexOfProgram : Type 0 where
  pub program : Program
  pub text : List ℕ

-- the bytes are the source of the program, by the reading that the words ask for, and the text is what is written of its cells: its
-- encodings and its data
pub record GivesHex (c : Hex80) (bytes : List ℕ) (m : HexOfProgram) : Type 0 where
  pub source : IsSource (reading_of c.zilog) bytes c.top m.program
  pub written : IsWritten (program_cells m.program) m.text

-- a file that is a source gives its program's HEX file, and any other file is refused by its line and rule
abbrev pub hex_kind : Hex80 → MakeKind HexOfProgram
hex_kind c = record {
  file = c.source;
  most = input_limit;
  output = Some c.output;
  IsGiven = λ bytes m. GivesHex c bytes m;
  IsRefused = λ bytes stop. SourceStops (reading_of c.zilog) bytes c.top stop;
  content = λ m. m.text;
  report = λ m. hex_line (length (program_cells m.program));
}

-- where the program's run on the tagged 8080 has stayed in the profile, the run of these cells on an 8080 that fetches bytes, from any fill
-- of memory and with any choices, has said the same and has not stopped
abbrev pub CellsFollow : Program → ℕ → List (ℕ × ℕ) → Type 0
CellsFollow p top cells =
    (fetch : Fetch) (page fill choices : List ℕ) (replies : List Reply) (n : ℕ) →
    IsFetchOfBytes fetch →
    IsPage page →
    IsFill fill →
    All WritesBytes replies →
    IsNotStopped (run80 p page replies n).status →
    HasFollowed (run80 p page replies n) (run_bytes fetch cells top page fill choices replies n)

-- what stands after status 0: the source's file, where the host tells it, is the source of a program; the output is the HEX file of its
-- cells, and is read as these; and they run as the program does
pub record HasHexFile (c : Hex80) (old new : HostState) : Type 0 where
  pub source : List ℕ
  pub program : Program
  pub text : List ℕ
  pub given : IsFile (old.file c.source) source
  pub is_source : IsSource (reading_of c.zilog) source c.top program
  pub output : Rewrites old new c.output text
  pub written : IsWritten (program_cells program) text
  pub reads : IsHexOf text (program_cells program)
  pub follows : CellsFollow program c.top (program_cells program)
