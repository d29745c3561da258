-- The files that a command reads, and their names.
use Rattle.std.specs.Prelude.{ℕ, List, []}
use Rattle.cmd_common.specs.declared.names.InputFile.{InputFile}
use Rattle.cmd_common.specs.declared.names.InputFile.TheVariants.{First, Text, Console, Disk, Ports}
use Rattle.cmd_common.specs.declared.names.InputNames.{InputNames}

-- the name of a command's first file, and those of the text beside it, of the console's input, of the disk and of the ports' bytes; the
-- name is empty where a command reads no such file
pub record FileNames : Type 0 where
  pub first : List ℕ
  pub text : List ℕ
  pub console : List ℕ
  pub disk : List ℕ
  pub ports : List ℕ

abbrev pub name_of : FileNames → InputFile → List ℕ
name_of names First = names.first
name_of names Text = names.text
name_of names Console = names.console
name_of names Disk = names.disk
name_of names Ports = names.ports

-- the names that the code holds
abbrev pub names_read : InputNames → FileNames
names_read n = record { first = n.first.now; text = n.text.now; console = n.console.now; disk = n.disk.now; ports = n.ports.now }

-- of a command that reads one file
abbrev pub one_name : List ℕ → FileNames
one_name name = record { first = name; text = []; console = []; disk = []; ports = [] }

-- of a command that reads a source, and a text beside it
abbrev pub two_names : List ℕ → List ℕ → FileNames
two_names source text = record { first = source; text = text; console = []; disk = []; ports = [] }
