-- What the steps of the work come to.
use Rattle.std.proofs.Common.{◌≡◌, ℕ, List, Option, refl, sym, ap, ◌∙◌, subst}
use Rattle.std.specs.Prelude.{Result}
use Rattle.host.specs.Host.{HostState, OnlyReads, SameFaults}
use Rattle.host.proofs.HostLemmas.{SameFaults-trans}
use Rattle.asm86_line_types.specs.declared.line.Line86.{Line86}
use Rattle.asm80_types.specs.Program.{Program}
use Rattle.asm80_source_def.specs.Source.{IsSource, OfLine, OfProgram}
use Rattle.commented_text.specs.Commented.{kept_of, IsWrittenText}
use Rattle.cmd_arguments.specs.Words.{Translate}
use Rattle.templates.specs.declared.translation.Mode.{Mode}
use Rattle.templates.specs.declared.translation.Mode.TheVariants.{Plain, Lean}
use Rattle.templates.specs.Plain.{plain_statements, numbered_from}
use Rattle.templates.specs.Style.{Style, plain_style, styled_statements, styled}
use Rattle.templates.specs.Lean.{lean_style}
use Rattle.templates.specs.Translation.{IsText, CodeFits}
use Rattle.cmd_common.specs.declared.stop.Stop.{Stop}
use Rattle.cmd_common.specs.Files.{IsWholeFile, input_limit}
use Rattle.cmd_common.specs.Sources.{SourceStops, of_line, of_program, reading_of}
use Rattle.cmd_translate.specs.Translates.{mode_of, Accepts}
use Rattle.cmd_translate.specs.TranslateWork.{TextStops, is_large, no_room, WritesOut, WritesText, LosesText, no_text, not_written, Works, StopsBy, refused, too_large, no_memory, unwritten}
use Rattle.cmd_common.proofs.WriteEnds.{writes_behind, fails_behind, wrote}

-- the text of each mode is a text in a style
pub text_style : ((p : Program) → styled_statements plain_style p ≡ plain_statements p) → (mode : Mode) (p : Program) (lines : List Line86) → IsText mode p lines → (s : Style) × (lines ≡ styled s p)
text_style plain Plain p lines text = (plain_style, text ∙ ap (numbered_from 1) (sym (plain p)))
text_style plain Lean p lines text = (lean_style text.0 p, text.2)

-- what was written for lines that are a text of the program
pub written_out : ((p : Program) → styled_statements plain_style p ≡ plain_statements p) → (mode : Mode) (p : Program) (lines others : List Line86) → IsText mode p lines → others ≡ lines → (kept wanted : Option (List ℕ)) → kept ≡ wanted → (name : List ℕ) (mid new : HostState) {result : Result (Unit {0}) Stop} → ((s : Style) → others ≡ styled s p → WritesOut kept p others name mid new result) → WritesOut wanted p lines name mid new result
written_out plain mode p lines others text e kept wanted keeps name mid new {result} h =
    let s = text_style plain mode p lines text in
    subst (λ k. WritesOut k p lines name mid new result) keeps (subst (λ ls. WritesOut kept p ls name mid new result) e (h s.0 (e ∙ s.1)))

module _ (c : Translate) (old mid new : HostState) (bytes : List ℕ) (file : IsWholeFile old c.input input_limit bytes) (reads : OnlyReads old mid) (counted : SameFaults old mid) where
  -- the bytes were read, and are refused
  pub source_stop : (stop : Stop) → SourceStops (reading_of c.zilog) bytes c.top stop → StopsBy c old mid stop
  source_stop _ (of_line {line = line} {rule = rule} n) =
      refused line (OfLine rule) (record { bytes = bytes; file = file; refused = n }) refl reads counted
  source_stop _ (of_program {line = line} {rule = rule} n) =
      refused line (OfProgram rule) (record { bytes = bytes; file = file; refused = n }) refl reads counted

  -- they are the source of a program that has no text
  text_stop : (p : Program) → IsSource (reading_of c.zilog) bytes c.top p → (stop : Stop) → TextStops (mode_of c.plain) p stop → StopsBy c old mid stop
  text_stop p source _ (is_large {size = size} l) =
      too_large size (record { program = p; bytes = bytes; file = file; source = source; large = l }) refl reads counted
  text_stop p source _ no_room = no_memory reads

  module _ (p : Program) (source : IsSource (reading_of c.zilog) bytes c.top p) where
    abbrev accepts : (lines : List Line86) (out : List ℕ) → IsText (mode_of c.plain) p lines → CodeFits lines → IsWrittenText (kept_of c.comments bytes) p lines out → Accepts c old p lines
    accepts lines out text fits is = record { bytes = bytes; file = file; source = source; text = text; fits = fits; out = out; written = is }

    -- there is no text, or its writing failed
    pub lost : (stop : Stop) → LosesText (mode_of c.plain) (kept_of c.comments bytes) p c.output mid new stop → StopsBy c old new stop
    lost stop (no_text same s) = subst (λ h. StopsBy c old h stop) (sym same) (text_stop p source stop s)
    lost stop (not_written lines out text fits is w) =
        unwritten p lines (accepts lines out text fits is)
        (record { fault = w.fault; is = w.is; fails = fails_behind old mid new c.output out w.fault reads w.fails })

    -- the text was written
    pub works : (line : List ℕ) → WritesText (mode_of c.plain) (kept_of c.comments bytes) p c.output mid new line → Works c old new line
    works line w = record {
      program = p;
      lines = w.lines;
      accepts = accepts w.lines w.out w.text w.fits w.is;
      writes = writes_behind old mid new c.output w.out reads (wrote c.output w.out mid new w.only w.written);
      quiet = w.only.said ∙ reads.said;
      faults = SameFaults-trans counted w.counted;
      line = w.line_is;
    }
