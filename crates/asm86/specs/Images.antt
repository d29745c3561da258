-- Which texts have an image, and why others have none: the first rule that a line breaks, or that the image breaks.
use Rattle.std.specs.Prelude.{ℕ, List, Ok, Err}
use Rattle.asm86_line_types.specs.declared.line.Line86.{Line86}
use Rattle.asm86_line_types.specs.declared.line.TextRule.{TextRule}
use Rattle.asm86_line_types.specs.Image.{Image, IsImage}
use Rattle.asm86.specs.Stream.{TextGives}
use Rattle.asm86.specs.declared.fault.ImageFault.{ImageFault}
use Rattle.asm86.specs.declared.fault.ImageFault.TheVariants.{Line}
use Rattle.asm86.specs.Refusals.{ImageRefused}

-- the bytes are a text whose lines have this image
pub record HasImage (bytes : List ℕ) (image : Image) : Type 0 where
  pub lines : List Line86
  pub reads : TextGives bytes (Ok lines)
  pub assembled : IsImage lines image

-- the bytes are a text with no image
pub data IsNoImage (bytes : List ℕ) : ImageFault → Type 0 where
  unread : {line : ℕ} {rule : TextRule} → TextGives bytes (Err (line, rule)) → IsNoImage bytes (Line line rule)
  refused : {fault : ImageFault} (lines : List Line86) → TextGives bytes (Ok lines) → ImageRefused lines fault → IsNoImage bytes fault
