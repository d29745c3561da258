-- A text whose lines or whose image are refused.
use Rattle.std.proofs.Common.{◌≡◌, ◌⊎◌, ⊎_elim, inl, inr, ℕ, List, refl, sym, ap, ◌∙◌}
use Rattle.std.specs.Prelude.{Ok}
use Rattle.asm86_line_types.specs.declared.line.Line86.{Line86}
use Rattle.asm86.specs.Stream.{TextGives}
use Rattle.asm86.specs.declared.fault.ImageFault.{ImageFault}
use Rattle.asm86.specs.declared.fault.ImageFault.TheVariants.{Line}
use Rattle.asm86.specs.Images.{IsNoImage, unread, refused}
use Rattle.cmd_common.specs.declared.stop.Stop.{Stop}
use Rattle.cmd_common.specs.declared.stop.Stop.TheVariants.{OutOfMemory}
use Rattle.cmd_common.specs.Texts.{stop_of_image, TextIsRefused, ImageStops, LinesStop, breaks}

-- a text of which a line breaks a rule
pub lines_refused : (text : List ℕ) (stop : Stop) → LinesStop text stop → TextIsRefused text stop
lines_refused text _ (breaks {line = line} {rule = rule} h) = (Line line rule, unread h, refl)

-- a text whose lines have no image, or memory ran out
pub image_refused : (text : List ℕ) (lines : List Line86) → TextGives text (Ok lines) → (stop : Stop) → ImageStops lines stop → (stop ≡ OutOfMemory) ⊎ TextIsRefused text stop
image_refused text lines reads stop h =
    ⊎_elim
    (λ m. inl (h.is ∙ ap stop_of_image m))
    (λ r. inr (h.fault, refused lines reads r, h.is))
    h.refused

-- a text is refused by one stop
pub one_stop : ((text : List ℕ) (a b : ImageFault) → IsNoImage text a → IsNoImage text b → a ≡ b) → (text : List ℕ) (s t : Stop) → TextIsRefused text s → TextIsRefused text t → s ≡ t
one_stop one text s t x y = x.2 ∙ ap stop_of_image (one text x.0 y.0 x.1 y.1) ∙ sym y.2
