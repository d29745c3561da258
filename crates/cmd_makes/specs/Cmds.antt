-- What `cmd` is among the commands that make something of one file: it writes the command file of a text's image.
use Rattle.std.specs.Prelude.{◌≡◌, ℕ, List, Some, length}
use Rattle.host.specs.Host.{HostState, IsFile, Rewrites}
use Rattle.asm86_line_types.specs.declared.line.Line86.{Line86}
use Rattle.asm86_line_types.specs.Image.{Image, IsImage}
use Rattle.asm86.specs.Images.{HasImage}
use Rattle.asm80_types.specs.Program.{Program}
use Rattle.simulation_def.specs.Same.{Same}
use Rattle.cmd_file.specs.CommandFile.{IsCommandFile}
use Rattle.cmd_file.specs.Written.{command_file_of, written}
use Rattle.cmd_file.specs.Loaded.{loaded}
use Rattle.cmd_arguments.specs.Words.{Cmd}
use Rattle.cmd_common.specs.Lines.{command_file_line}
use Rattle.cmd_common.specs.Files.{text_limit}
use Rattle.cmd_common.specs.Texts.{TextIsRefused}
use Rattle.cmd_common.specs.Kinds.{MakeKind}
use Rattle.cmd_common.specs.Makes.{HasMade}

-- the bytes of an image's command file
abbrev pub file_of : Image → List ℕ
file_of image = written (command_file_of image)

-- a file that is a text with an image gives it, and any other file is refused by the rule that it breaks
abbrev pub cmd_kind : Cmd → MakeKind Image
cmd_kind c = record {
  file = c.text;
  most = text_limit;
  output = Some c.output;
  IsGiven = λ text image. HasImage text image;
  IsRefused = λ text stop. TextIsRefused text stop;
  content = λ image. file_of image;
  report = λ image. command_file_line (length (file_of image));
}

-- these are the bytes of the command file of the image that lines have
pub record HasFile (lines : List Line86) (bytes : List ℕ) : Type 0 where
  pub image : Image
  pub made : IsImage lines image
  pub spelt : bytes ≡ file_of image
  pub is_file : IsCommandFile (file_of image) (command_file_of image)

-- the command file was written, and its line is to be said
pub record HasWritten (c : Cmd) (old new : HostState) (line : List ℕ) : Type 0 where
  pub has : HasMade (cmd_kind c) old new line
  pub is_file : IsCommandFile (file_of has.made) (command_file_of has.made)

-- what stands after status 0: the text's file, where the host tells it, is a text with an image; the output is the command file of that
-- image; and whatever program makes the same system calls as the image, makes the same as what the file loads to
pub record HasCommandFile (c : Cmd) (old new : HostState) : Type 0 where
  pub text : List ℕ
  pub image : Image
  pub given : IsFile (old.file c.text) text
  pub has_image : HasImage text image
  pub output : Rewrites old new c.output (file_of image)
  pub is_file : IsCommandFile (file_of image) (command_file_of image)
  pub same : (p : Program) → Same p image → Same p (loaded (command_file_of image))
