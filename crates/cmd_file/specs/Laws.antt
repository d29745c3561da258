-- What is true of each image that is kept in a command file.
use Rattle.std.specs.Prelude.{List}
use Rattle.asm80_types.specs.Program.{Program}
use Rattle.asm86_line_types.specs.declared.line.Line86.{Line86}
use Rattle.asm86_line_types.specs.Image.{Image, IsImage}
use Rattle.simulation_def.specs.Same.{Same}
use Rattle.cmd_file.specs.Written.{command_file_of}
use Rattle.cmd_file.specs.Loaded.{loaded}

-- loaded from its command file, an image means the same
abbrev pub LoadedIsSame : Type 0
LoadedIsSame = (p : Program) (lines : List Line86) (image : Image) → IsImage lines image → Same p image → Same p (loaded (command_file_of image))
