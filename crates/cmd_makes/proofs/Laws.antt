-- What is known of texts and command files, to the command.
use Rattle.std.proofs.Common.{◌≡◌, ℕ, List, arith}
use Rattle.host.specs.Host.{HostState}
use Rattle.asm86_line_types.specs.declared.line.Line86.{Line86}
use Rattle.asm86_line_types.specs.Image.{Image, IsImage}
use Rattle.asm86.specs.declared.fault.ImageFault.{ImageFault}
use Rattle.asm86.specs.Images.{HasImage, IsNoImage}
use Rattle.asm80_types.specs.Program.{Program}
use Rattle.simulation_def.specs.Same.{Same}
use Rattle.cmd_file.specs.Written.{command_file_of}
use Rattle.cmd_file.specs.Loaded.{loaded}
use Rattle.cmd_arguments.specs.Words.{Cmd}
use Rattle.cmd_common.specs.Said.{IsDone, whole, failed, no_memory}
use Rattle.cmd_common.proofs.Texts.{one_stop}
use Rattle.cmd_common.proofs.WriteEnds.{writes_on}
use Rattle.cmd_common.specs.Kinds.{KindLaws}
use Rattle.cmd_makes.specs.Cmds.{file_of, cmd_kind, HasWritten, HasCommandFile}

pub laws_of_cmd : ((text : List ℕ) (a b : Image) → HasImage text a → HasImage text b → a ≡ b) →
    ((text : List ℕ) (a b : ImageFault) → IsNoImage text a → IsNoImage text b → a ≡ b) →
    ((text : List ℕ) (a : Image) (fault : ImageFault) → HasImage text a → IsNoImage text fault → ⊥) →
    (c : Cmd) → KindLaws (cmd_kind c)
laws_of_cmd image fault apart c = record {
  one = image;
  refusal = one_stop fault;
  apart = λ text a stop is stops. apart text a stops.0 is stops.1;
}

-- the file that was written is that of the image, and loads to what is the same
pub has_command_file : (c : Cmd) (old mid new : HostState) →
    ((p : Program) (lines : List Line86) (image : Image) → IsImage lines image → Same p image → Same p (loaded (command_file_of image))) →
    (line : List ℕ) → HasWritten c old mid line → (status : ℕ) → status ≡ 0 → IsDone line mid new status → HasCommandFile c old new
has_command_file c old mid new loads line w _ e (whole only s same) = record {
  text = w.has.is.bytes;
  image = w.has.made;
  given = w.has.is.file.0;
  has_image = w.has.is.gives;
  output = (writes_on old mid new c.output (file_of w.has.made) only w.has.output.0).text;
  is_file = w.is_file;
  same = λ p same. loads p w.has.is.gives.lines w.has.made w.has.is.gives.assembled same;
}
has_command_file c old mid new loads line w _ e (failed s) = absurd (omega (arith, e))
has_command_file c old mid new loads line w _ e (no_memory s) = absurd (omega (arith, e))
