-- A program's own text is shown.
use Rattle.std.specs.Prelude.{◌≡◌, ℕ, Bool, ◌⊎◌, List}
use Rattle.cmd_common.specs.Sources.{reading_of}
use Rattle.host.specs.Host.{HostState}
use Rattle.asm86_line_types.specs.declared.line.Line86.{Line86}
use Rattle.asm80_types.specs.Program.{Program}
use Rattle.asm80_source_def.specs.Source.{IsSource}
use Rattle.templates.specs.declared.translation.Mode.{Mode}
use Rattle.templates.specs.Translation.{IsText, CodeFits}
use Rattle.commented_text.specs.Commented.{kept_of, IsWrittenText}
use Rattle.cmd_arguments.specs.Words.{Check}
use Rattle.cmd_common.specs.Files.{NoneFailed, FileIsTold, input_limit, text_limit}

-- the bytes that a translation of a source's bytes writes for a top, in either mode, with the lines of the source as comments or without:
-- those of the text of its program, whose code fits
pub record IsTranslation (zilog : Bool) (source : List ℕ) (top : ℕ) (text : List ℕ) : Type 0 where
  pub mode : Mode
  pub program : Program
  pub lines : List Line86
  pub is_source : IsSource (reading_of zilog) source top program
  pub is_text : IsText mode program lines
  pub fits : CodeFits lines
  pub comments : Bool
  pub is : IsWrittenText (kept_of comments source) program lines text

-- where no call failed, and the host tells a source, within its limit, and as the text a translation of it for the same top, within its
-- limit, the status is 0, want of memory aside
abbrev pub ShowsOwnText : Check → HostState → HostState → ℕ → Type 0
ShowsOwnText c old new status =
    NoneFailed old new → (source text : List ℕ) → FileIsTold old c.source input_limit source → FileIsTold old c.text text_limit text → IsTranslation c.zilog source c.top text →
    (status ≡ 0) ⊎ (status ≡ 5)
