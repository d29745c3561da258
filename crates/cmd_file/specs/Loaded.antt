-- What a command file is loaded to: its code from offset 0 up, and its data from address 0 up, of which the first 100H bytes are the
-- system's and no cells (CP/M-86 System Guide, section 2, "Base Page Initialization").
use Rattle.std.specs.Prelude.{[], drop}
use Rattle.std.specs.List.{enumerate_from}
use Rattle.asm86_line_types.specs.Image.{Image}
use Rattle.cmd_file.specs.CommandFile.{CommandFile}

abbrev pub loaded : CommandFile → Image
loaded file = record { code = file.code; cells = enumerate_from 0x100 (drop 0x100 file.data); labels = [] }
