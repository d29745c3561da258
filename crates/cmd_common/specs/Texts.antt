-- What the file of a text is to a command: its lines, its image, and why it has none: the first rule that its lines break, or that
-- its image breaks.
use Rattle.std.specs.Prelude.{◌≡◌, ℕ, ◌⊎◌, List, Result, Ok, Err}
use Rattle.std.specs.Global.{Vec}
use Rattle.i86.specs.Decode.{HasReader}
use Rattle.host.specs.Host.{HostState}
use Rattle.asm86_line_types.specs.declared.line.Line86.{Line86}
use Rattle.asm86_line_types.specs.declared.line.TextRule.{TextRule}
use Rattle.asm86_line_types.specs.Image.{Image, IsImage}
use Rattle.asm86.specs.Stream.{TextGives}
use Rattle.asm86.specs.declared.fault.ImageFault.{ImageFault}
use Rattle.asm86.specs.declared.fault.ImageFault.TheVariants.{Line, CodeTooLarge, Short, Memory}
use Rattle.asm86.specs.Refusals.{ImageRefused}
use Rattle.asm86.specs.Images.{IsNoImage}
use Rattle.cmd_common.specs.declared.stop.Stop.{Stop}
use Rattle.cmd_common.specs.declared.stop.Stop.TheVariants.{TextLine, ShortJump, CodeTooLarge as TooLarge, OutOfMemory}
use Rattle.cmd_common.specs.Files.{IsWholeFile, text_limit}

-- lines have this image, whose code has one reader
pub record HasOneImage (lines : List Line86) (image : Image) : Type 0 where
  pub made : IsImage lines image
  pub reader : HasReader image.code

abbrev pub stop_of_image : ImageFault → Stop
stop_of_image (Line line rule) = TextLine line rule
stop_of_image (CodeTooLarge size) = TooLarge size
stop_of_image (Short line) = ShortJump line
stop_of_image Memory = OutOfMemory

-- why the bytes of a text give no image
abbrev pub TextIsRefused : List ℕ → Stop → Type 0
TextIsRefused text stop = (fault : ImageFault) × IsNoImage text fault × (stop ≡ stop_of_image fault)

-- why lines have no image, or memory ran out
pub record ImageStops (lines : List Line86) (stop : Stop) : Type 0 where
  pub fault : ImageFault
  pub refused : (fault ≡ Memory) ⊎ ImageRefused lines fault
  pub is : stop ≡ stop_of_image fault

-- why bytes give no lines: the first rule that one of them breaks
pub data LinesStop (bytes : List ℕ) : Stop → Type 0 where
  breaks : {line : ℕ} {rule : TextRule} → TextGives bytes (Err (line, rule)) → LinesStop bytes (TextLine line rule)

-- what bytes are: the lines of a text, or none
abbrev pub BytesGiveLines : List ℕ → Result (Vec Line86) Stop → Type 0
BytesGiveLines bytes (Ok lines) = TextGives bytes (Ok lines.items)
BytesGiveLines bytes (Err stop) = LinesStop bytes stop

-- a whole file, and what its bytes are
pub record ReadsTextFile (old : HostState) (name : List ℕ) (outcome : Result (Vec Line86) Stop) : Type 0 where
  pub bytes : List ℕ
  pub file : IsWholeFile old name text_limit bytes
  pub gives : BytesGiveLines bytes outcome
