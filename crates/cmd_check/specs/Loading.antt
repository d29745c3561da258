-- What a source and a text that were read are together.
use Rattle.std.specs.Prelude.{◌≡◌, Result, Ok, Err}
use Rattle.std.specs.Global.{Vec}
use Rattle.asm86_line_types.specs.declared.line.Line86.{Line86}
use Rattle.asm80_types.specs.Program.{Program}
use Rattle.cmd_common.specs.declared.stop.Stop.{Stop}
use Rattle.cmd_common.specs.Texts.{HasOneImage, ImageStops}
use Rattle.cmd_check.specs.declared.inputs.Loaded.{Loaded}

module _ (source : Result Program Stop) (text : Result (Vec Line86) Stop) where
  -- a program, and lines with their image
  pub record AreLoaded (l : Loaded) : Type 0 where
    pub lines : Vec Line86
    pub program : source ≡ Ok l.program
    pub gives : text ≡ Ok lines
    pub same : l.text.lines.items ≡ lines.items
    pub image : HasOneImage lines.items l.text.image

  -- or the source is refused; or else a line of the text; or else its image, or memory ran out for it
  pub data NotLoaded : Stop → Type 0 where
    no_program : {stop : Stop} → source ≡ Err stop → NotLoaded stop
    no_lines : {stop : Stop} (p : Program) → source ≡ Ok p → text ≡ Err stop → NotLoaded stop
    no_image : {stop : Stop} (p : Program) (lines : Vec Line86) → source ≡ Ok p → text ≡ Ok lines → ImageStops lines.items stop → NotLoaded stop
