-- What a program's own text comes to.
use Rattle.std.proofs.Common.{◌≡◌, ◌∙◌, ℕ, inl, inr, ⊎_elim, List, Option, refl, ap, subst}
use Rattle.std.specs.Prelude.{Result, Ok}
use Rattle.host.specs.Host.{HostState}
use Rattle.asm86_line_types.specs.declared.line.Line86.{Line86}
use Rattle.asm86_line_types.specs.Image.{Assembles, Image, image_of, statements}
use Rattle.asm86_line_types.specs.Written.{written_text}
use Rattle.asm86.specs.Images.{HasImage}
use Rattle.asm86.specs.Stream.{TextGives}
use Rattle.asm86.proofs.Outcomes.{same_lines}
use Rattle.asm80_types.specs.Program.{Program, IsProgram}
use Rattle.commented_text.specs.Commented.{kept_of, IsWrittenText}
use Rattle.commented_text.specs.Reading.{ReadsAs}
use Rattle.templates.specs.declared.translation.Mode.{Mode}
use Rattle.templates.specs.Translation.{IsText, CodeFits}
use Rattle.xlt_core.specs.Names.{Finding, Shown, IsFinding}
use Rattle.cmd_arguments.specs.Words.{Check}
use Rattle.cmd_common.specs.declared.stop.Stop.{Stop}
use Rattle.cmd_common.specs.OneEnd.{came_status}
use Rattle.cmd_check.specs.Completes.{found_count, FilesComeTo, refused, no_image, loaded, CountIsFound, CheckCompletes}
use Rattle.cmd_check.specs.Laws.{CheckLaws}
use Rattle.cmd_check.specs.OwnTexts.{IsTranslation, ShowsOwnText}
use Rattle.cmd_check.proofs.Files.{has_none}

-- what is known of the texts that a program is translated to, and of what is written for them
pub record OwnLaws : Type 0 where
  pub reads : (mode : Mode) (p : Program) (lines : List Line86) → IsProgram p → IsText mode p lines → TextGives (written_text lines) (Ok lines)
  pub assembles : (mode : Mode) (p : Program) (lines : List Line86) → IsProgram p → IsText mode p lines → CodeFits lines → Assembles lines
  pub shown : (mode : Mode) (p : Program) (lines others : List Line86) (f : Finding) → IsProgram p → IsText mode p lines → CodeFits lines → statements others ≡ statements lines → IsFinding p others f → (blocks : ℕ) × (f ≡ Shown blocks)
  pub output_reads : (kept : Option (List ℕ)) (mode : Mode) (p : Program) (lines : List Line86) (text : List ℕ) → IsText mode p lines → IsWrittenText kept p lines text → TextGives (written_text lines) (Ok lines) → ReadsAs lines text
  pub output_image : (kept : Option (List ℕ)) (p : Program) (lines : List Line86) (text : List ℕ) (image : Image) → IsWrittenText kept p lines text → HasImage (written_text lines) image → HasImage text image

module _ (law : CheckLaws) (own : OwnLaws) (c : Check) (source text : List ℕ) (t : IsTranslation c.zilog source c.top text) where
  lawful : IsProgram t.program
  lawful = t.is_source.program.program.lawful

  alone_gives : TextGives (written_text t.lines) (Ok t.lines)
  alone_gives = own.reads t.mode t.program t.lines lawful t.is_text

  reading : ReadsAs t.lines text
  reading = own.output_reads (kept_of t.comments source) t.mode t.program t.lines text t.is_text t.is alone_gives

  image : HasImage text (image_of t.lines)
  image =
      own.output_image (kept_of t.comments source) t.program t.lines text (image_of t.lines) t.is
      (record { lines = t.lines; reads = alone_gives; assembled = record { assembles = own.assembles t.mode t.program t.lines lawful t.is_text t.fits; is = refl } })

  -- whatever lines the text is read as have the statements of the translation
  same : (lines : List Line86) → TextGives text (Ok lines) → statements lines ≡ statements t.lines
  same lines give = ap statements (same_lines lines reading.read (law.files.reading text (Ok lines) (Ok reading.read) give reading.gives)) ∙ reading.same

  found_shown : (p : Program) (lines : List Line86) (f : Finding) → p ≡ t.program → TextGives text (Ok lines) → IsFinding p lines f → (blocks : ℕ) × (f ≡ Shown blocks)
  found_shown p lines f program give h =
      own.shown t.mode t.program t.lines lines f lawful t.is_text t.fits (same lines give) (subst (λ (q : Program). IsFinding q lines f) program h)

  came : (r : Result ℕ Stop) → FilesComeTo c CountIsFound source text r → came_status r ≡ 0
  came r (refused line rule none e) = absurd ((law.files.source c.zilog).apart source c.top line t.program rule t.is_source none)
  came r (no_image p fault is none e) = absurd (has_none law.files c text image.lines fault image.reads image.assembled.assembles none)
  came r (loaded p lines is give stand h) =
      let shown = found_shown p lines h.0 ((law.files.source c.zilog).program source c.top p t.program is t.is_source) give h.1 in
      ap came_status (h.2 ∙ ap found_count shown.1)

pub shows_own_text : CheckLaws → OwnLaws → (c : Check) (old new : HostState) (status : ℕ) → CheckCompletes c old new status → ShowsOwnText c old new status
shows_own_text law own c old new status completes none source text first second t =
    ⊎_elim (λ e. inr e) (λ a. inl (a.2 ∙ came law own c source text t a.0 a.1.comes)) (completes none source text first second)
