-- The status of a command that reads a source and a text is that of the one thing that both come to, as far as it comes of their bytes.
use Rattle.std.proofs.Common.{◌≡◌, ◌∙◌, ℕ, ◌⊎◌, inl, inr, ⊎_elim, List, refl, ap, subst}
use Rattle.std.specs.Prelude.{Result, Ok, Err}
use Rattle.host.specs.Host.{HostState}
use Rattle.asm86_line_types.specs.declared.line.Line86.{Line86}
use Rattle.asm86_line_types.specs.Image.{Assembles, image_of}
use Rattle.asm86.specs.Stream.{TextGives}
use Rattle.asm86.proofs.Outcomes.{same_lines}
use Rattle.asm86.specs.declared.fault.ImageFault.{ImageFault}
use Rattle.asm86.specs.Images.{IsNoImage}
use Rattle.asm86.proofs.OneOutcome.{never_both, one_fault}
use Rattle.asm80_types.specs.Program.{Program}
use Rattle.asm80_source_def.specs.Source.{IsSource, SourceRule, IsNoSource, OfLine, OfProgram}
use Rattle.cmd_arguments.specs.Words.{Check}
use Rattle.cmd_common.specs.Names.{FileNames, two_names}
use Rattle.cmd_common.specs.declared.names.InputFile.TheVariants.{First, Text}
use Rattle.cmd_common.specs.declared.stop.Stop.{Stop}
use Rattle.cmd_common.specs.Lines.{status_of}
use Rattle.cmd_common.specs.Said.{Closes}
use Rattle.cmd_common.specs.Files.{NoneFailed, FileIsTold, input_limit, text_limit}
use Rattle.cmd_common.specs.OneEnd.{came_status, IsOnlyEnd, HasStatus}
use Rattle.cmd_common.specs.Sources.{of_line, of_program, stop_of_rule, reading_of}
use Rattle.cmd_common.specs.Texts.{stop_of_image}
use Rattle.cmd_common.proofs.Told.{told_whole, read_stops, closes_reads, closes_status, memory_status}
use Rattle.cmd_check.specs.Checks.{Reads, Loads, LoadStops, no_source, no_text, refused as source_refused, no_image as image_wanting, out_of_memory}
use Rattle.cmd_check.specs.Laws.{FileLaws}
use Rattle.cmd_check.specs.Completes.{FilesComeTo, refused, no_image, loaded}
use Rattle.cmd_common.specs.declared.stop.Stop.TheVariants.{OutOfMemory}

module _ (law : FileLaws) (c : Check) where
  -- a text that has an image has no fault
  pub has_none : (text : List ℕ) (lines : List Line86) (fault : ImageFault) → TextGives text (Ok lines) → Assembles lines → IsNoImage text fault → ⊥
  has_none text lines fault gives stands none =
      never_both law.reading law.not_both text (image_of lines) fault (record { lines = lines; reads = gives; assembled = record { assembles = stands; is = refl } }) none

  module _ (Then : Program → List Line86 → Result ℕ Stop → Type 0) (one : (p : Program) (lines : List Line86) (r s : Result ℕ Stop) → Then p lines r → Then p lines s → r ≡ s) where
    -- each outcome is the only one
    after_refusal : (source text : List ℕ) (line : ℕ) (rule : SourceRule) → IsNoSource (reading_of c.zilog) source c.top line rule → (r : Result ℕ Stop) → FilesComeTo c Then source text r → r ≡ Err (stop_of_rule line rule)
    after_refusal source text line rule none r (refused n s other e) =
        let same = (law.source c.zilog).refusal source c.top n line s rule other none in
        e ∙ (ap (λ k. Err (stop_of_rule k s)) same.0 ∙ ap (λ k. Err (stop_of_rule line k)) same.1)
    after_refusal source text line rule none r (no_image p fault is n e) = absurd ((law.source c.zilog).apart source c.top line p rule is none)
    after_refusal source text line rule none r (loaded p lines is gives stands h) = absurd ((law.source c.zilog).apart source c.top line p rule is none)

    after_fault : (source text : List ℕ) (p : Program) (fault : ImageFault) → IsSource (reading_of c.zilog) source c.top p → IsNoImage text fault → (r : Result ℕ Stop) → FilesComeTo c Then source text r → r ≡ Err (stop_of_image fault)
    after_fault source text p fault is none r (refused n s other e) = absurd ((law.source c.zilog).apart source c.top n p s is other)
    after_fault source text p fault is none r (no_image q other also n e) = e ∙ ap (λ k. Err (stop_of_image k)) (one_fault law.reading law.refuses text other fault n none)
    after_fault source text p fault is none r (loaded q lines also gives stands h) = absurd (has_none text lines fault gives stands none)

    after_loading : (source text : List ℕ) (p : Program) (lines : List Line86) (s : Result ℕ Stop) → IsSource (reading_of c.zilog) source c.top p → TextGives text (Ok lines) → Assembles lines → Then p lines s → (r : Result ℕ Stop) → FilesComeTo c Then source text r → r ≡ s
    after_loading source text p lines s is gives stands h r (refused n rule other e) = absurd ((law.source c.zilog).apart source c.top n p rule is other)
    after_loading source text p lines s is gives stands h r (no_image q fault also n e) = absurd (has_none text lines fault gives stands n)
    after_loading source text p lines s is gives stands h r (loaded q others also give stand k) =
        let same = same_lines others lines (law.reading text (Ok others) (Ok lines) give gives) in
        one p lines r s (subst (λ l. Then p l r) same (subst (λ (z : Program). Then z others r) ((law.source c.zilog).program source c.top q p also is) k)) h

    module _ (old new : HostState) (none : NoneFailed old new) (source text : List ℕ) (first : FileIsTold old c.source input_limit source) (second : FileIsTold old c.text text_limit text) (status : ℕ) where
      abbrev names : FileNames
      names = two_names c.source c.text

      abbrev Answer : Type 0
      Answer = HasStatus (FilesComeTo c Then source text) status

      source_is : (mid : HostState) (s t : List ℕ) → Reads c old mid s t → s ≡ source
      source_is mid s t r = told_whole old c.source input_limit source s first r.source_file

      text_is : (mid : HostState) (s t : List ℕ) → Reads c old mid s t → t ≡ text
      text_is mid s t r = told_whole old c.text text_limit text t second r.text_file

      -- both were loaded, and this came of them
      pub by_loading : (mid : HostState) (p : Program) (lines : List Line86) (l : Loads c old mid p lines) (r : Result ℕ Stop) → Then p lines r → status ≡ came_status r → Answer
      by_loading mid p lines l r h e =
          let is = subst (λ b. IsSource (reading_of c.zilog) b c.top p) (source_is mid l.source l.text l.reads) l.is_source in
          let gives = subst (λ b. TextGives b (Ok lines)) (text_is mid l.source l.text l.reads) l.gives in
          inr (r, record { comes = loaded p lines is gives l.stands.made.assembles h; only = after_loading source text p lines r is gives l.stands.made.assembles h }, e)

      stopping : (stop : Stop) (is : IsOnlyEnd (FilesComeTo c Then source text) (Err stop)) → (status ≡ 5) ⊎ (status ≡ status_of stop) → Answer
      stopping stop is s = ⊎_elim (λ e. inl e) (λ e. inr (Err stop, is, e)) s

      by_refusal : (mid : HostState) (s t : List ℕ) → Reads c old mid s t → (line : ℕ) (rule : SourceRule) → IsNoSource (reading_of c.zilog) s c.top line rule → (status ≡ 5) ⊎ (status ≡ status_of (stop_of_rule line rule)) → Answer
      by_refusal mid s t r line rule wrong e =
          let here = subst (λ b. IsNoSource (reading_of c.zilog) b c.top line rule) (source_is mid s t r) wrong in
          stopping (stop_of_rule line rule) (record { comes = refused line rule here refl; only = after_refusal source text line rule here }) e

      -- they were not
      pub by_load_stop : (mid : HostState) (stop : Stop) → LoadStops c old mid stop → Closes names stop mid new status → Answer
      by_load_stop mid stop (no_source only s) closes =
          inl (memory_status names stop mid new status (read_stops old mid new First c.source input_limit source stop none (closes_reads names stop mid new status closes) first s) closes)
      by_load_stop mid stop (no_text bytes w only s) closes =
          inl (memory_status names stop mid new status (read_stops old mid new Text c.text text_limit text stop none (closes_reads names stop mid new status closes) second s) closes)
      by_load_stop mid _ (source_refused s t r (of_line {line = line} {rule = rule} wrong)) closes = by_refusal mid s t r line (OfLine rule) wrong (closes_status names (stop_of_rule line (OfLine rule)) mid new status closes)
      by_load_stop mid _ (source_refused s t r (of_program {line = line} {rule = rule} wrong)) closes = by_refusal mid s t r line (OfProgram rule) wrong (closes_status names (stop_of_rule line (OfProgram rule)) mid new status closes)
      by_load_stop mid stop (image_wanting s t p fault r is wrong e) closes =
          let source_here = subst (λ b. IsSource (reading_of c.zilog) b c.top p) (source_is mid s t r) is in
          let here = subst (λ b. IsNoImage b fault) (text_is mid s t r) wrong in
          stopping (stop_of_image fault) (record { comes = no_image p fault source_here here refl; only = after_fault source text p fault source_here here })
          (subst (λ k. (status ≡ 5) ⊎ (status ≡ status_of k)) e (closes_status names stop mid new status closes))
      by_load_stop mid _ (out_of_memory only) closes = inl (memory_status names OutOfMemory mid new status refl closes)
