use Rattle.std.proofs.Common.{ℕ, List, Option, Some, None, Ok, refl, sym, subst}
use Rattle.asm80_types.specs.Program.{Program}
use Rattle.asm86_line_types.specs.declared.line.Line86.{Line86}
use Rattle.asm86_line_types.specs.Image.{Image}
use Rattle.asm86_line_types.specs.Written.{written_text}
use Rattle.templates.specs.declared.translation.Mode.{Mode}
use Rattle.templates.specs.Translation.{IsText}
use Rattle.asm86.specs.Images.{HasImage}
use Rattle.asm86.specs.Stream.{TextGives}
use Rattle.commented_text.specs.Commented.{IsWrittenText}
use Rattle.commented_text.specs.Reading.{ReadsAs}
use Rattle.commented_text.proofs.Reading.{read_woven, image_woven}
use Rattle.commented_text.proofs.Rising.{text_rises}
use Rattle.commented_text.proofs.Texts.{text_weaves}
use Rattle.commented_text.proofs.laws.commented_texts_read_back.Goals as goal

output_reads : (kept : Option (List ℕ)) (mode : Mode) (p : Program) (lines : List Line86) (text : List ℕ) → IsText mode p lines → IsWrittenText kept p lines text → TextGives (written_text lines) (Ok lines) → ReadsAs lines text
output_reads None mode p lines text t is gives = record { read = lines; gives = subst (λ b. TextGives b (Ok lines)) (sym is) gives; same = refl; rises = text_rises mode p lines t }
output_reads (Some source) mode p lines text t is gives = read_woven (written_text lines) text lines (text_weaves source p lines text is) gives (text_rises mode p lines t)

output_image : (kept : Option (List ℕ)) (p : Program) (lines : List Line86) (text : List ℕ) (image : Image) → IsWrittenText kept p lines text → HasImage (written_text lines) image → HasImage text image
output_image None p lines text image is has = subst (λ t. HasImage t image) (sym is) has
output_image (Some source) p lines text image is has = image_woven (written_text lines) text image (text_weaves source p lines text is) has

pub returns-clause-reads : goal.returns-clause-reads
returns-clause-reads c kept mode p lines text t is gives = output_reads kept mode p lines text t is gives

pub returns-clause-image : goal.returns-clause-image
returns-clause-image c kept p lines text image is has = output_image kept p lines text image is has
