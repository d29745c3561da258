-- What `cmdshow` is among the commands that make something of one file: it tells how large the groups of a command file are.
use Rattle.std.specs.Prelude.{◌≡◌, ℕ, List, [], None, length}
use Rattle.cmd_file.specs.CommandFile.{CommandFile, IsCommandFile}
use Rattle.cmd_file.specs.declared.fault.CmdFault.{CmdFault}
use Rattle.cmd_file.specs.declared.fault.CmdFault.TheVariants.{Bad, Memory}
use Rattle.cmd_file.specs.Reading.{IsCmdFaultOf}
use Rattle.cmd_arguments.specs.Words.{CmdShow}
use Rattle.cmd_common.specs.declared.stop.Stop.{Stop}
use Rattle.cmd_common.specs.declared.stop.Stop.TheVariants.{BadCommandFile, OutOfMemory}
use Rattle.cmd_common.specs.Lines.{groups_line}
use Rattle.cmd_common.specs.Files.{input_limit}
use Rattle.cmd_common.specs.Kinds.{MakeKind}

-- why bytes are no command file
abbrev pub FileIsRefused : List ℕ → Stop → Type 0
FileIsRefused bytes stop = (place : ℕ) × IsCmdFaultOf bytes (Bad place) × (stop ≡ BadCommandFile place)

-- a command file gives its groups, any other file is refused at the first byte at which it cannot go on, and nothing is written
abbrev pub cmd_show_kind : CmdShow → MakeKind CommandFile
cmd_show_kind c = record {
  file = c.file;
  most = input_limit;
  output = None;
  IsGiven = λ bytes file. IsCommandFile bytes file;
  IsRefused = λ bytes stop. FileIsRefused bytes stop;
  content = λ file. [];
  report = λ file. groups_line (length file.code) (length file.data);
}

-- what a fault of its reading is to the command
abbrev pub stop_of_file : CmdFault → Stop
stop_of_file (Bad place) = BadCommandFile place
stop_of_file Memory = OutOfMemory
