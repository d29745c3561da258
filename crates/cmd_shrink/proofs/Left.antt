-- What is left of lines is a text that can be loaded.
use Rattle.std.proofs.Common.{◌∙◌, ◌<◌, ⊎_elim, List, length, refl, sym, ap, subst, arith}
use Rattle.asm86_line_types.specs.declared.line.Line86.{Line86}
use Rattle.asm86_line_types.specs.Image.{Assembles, image_of}
use Rattle.asm86.specs.Refusals.{NotBoth}
use Rattle.asm80_types.specs.Program.{Program}
use Rattle.cmd_common.specs.declared.stop.Stop.{Stop}
use Rattle.cmd_common.specs.Texts.{ImageStops, stop_of_image}
use Rattle.cmd_shrink.specs.Shrinks.{line_of_left, LeftStops, no_memory}

-- the line is not empty
pub line_some : (lines left : List Line86) → 0 < length (line_of_left lines left)
line_some lines left = omega arith

-- only memory may be wanting for an image of lines that have one
pub left_stops : NotBoth → (p : Program) (lines left : List Line86) → Assembles left → (stop : Stop) → ImageStops left stop → LeftStops p lines stop
left_stops apart p lines left a stop h =
    ⊎_elim
    (λ m. subst (LeftStops p lines) (sym (h.is ∙ ap stop_of_image m)) no_memory)
    (λ r. absurd (apart left (image_of left) h.fault (record { assembles = a; is = refl }) r))
    h.refused
