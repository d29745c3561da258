-- The one thing that `check` comes to by the whole bytes of its files, where no call of the host fails.
use Rattle.std.specs.Prelude.{◌≡◌, ℕ, List, Result, Ok, Err}
use Rattle.host.specs.Host.{HostState}
use Rattle.asm86_line_types.specs.declared.line.Line86.{Line86}
use Rattle.asm86_line_types.specs.Image.{Assembles}
use Rattle.asm86.specs.Stream.{TextGives}
use Rattle.asm86.specs.declared.fault.ImageFault.{ImageFault}
use Rattle.asm80_types.specs.Program.{Program}
use Rattle.asm80_source_def.specs.Source.{IsSource, IsNoSource, SourceRule}
use Rattle.xlt_core.specs.Names.{Finding, Shown, NotShown as NotFound, IsFinding}
use Rattle.cmd_arguments.specs.Words.{Check}
use Rattle.cmd_common.specs.declared.stop.Stop.{Stop}
use Rattle.cmd_common.specs.declared.stop.Stop.TheVariants.{NotShown}
use Rattle.cmd_common.specs.Files.{NoneFailed, FileIsTold, input_limit, text_limit}
use Rattle.cmd_common.specs.OneEnd.{HasStatus}
use Rattle.cmd_common.specs.Sources.{stop_of_rule, reading_of}
use Rattle.cmd_common.specs.Texts.{stop_of_image}
use Rattle.asm86.specs.Images.{IsNoImage}

-- What a source and a text come to: the source is refused; or it is that of a program, and the text is refused or has no image; or it
-- has, and then this comes of the program and the lines
pub data FilesComeTo (c : Check) (Then : Program → List Line86 → Result ℕ Stop → Type 0) (source text : List ℕ) : Result ℕ Stop → Type 0 where
  refused : {r : Result ℕ Stop} (line : ℕ) (rule : SourceRule) → IsNoSource (reading_of c.zilog) source c.top line rule → r ≡ Err (stop_of_rule line rule) → FilesComeTo c Then source text r
  no_image : {r : Result ℕ Stop} (p : Program) (fault : ImageFault) → IsSource (reading_of c.zilog) source c.top p → IsNoImage text fault → r ≡ Err (stop_of_image fault) → FilesComeTo c Then source text r
  loaded : {r : Result ℕ Stop} (p : Program) (lines : List Line86) → IsSource (reading_of c.zilog) source c.top p → TextGives text (Ok lines) → Assembles lines → Then p lines r → FilesComeTo c Then source text r

-- of a check: so many blocks are shown, or one is not
abbrev pub found_count : Finding → Result ℕ Stop
found_count (Shown blocks) = Ok blocks
found_count (NotFound at reason) = Err (NotShown at reason)

abbrev pub CountIsFound : Program → List Line86 → Result ℕ Stop → Type 0
CountIsFound p lines r = (f : Finding) × IsFinding p lines f × (r ≡ found_count f)

-- where both files are told and within their limits, the status is that of the one thing, want of memory aside
abbrev pub CheckCompletes : Check → HostState → HostState → ℕ → Type 0
CheckCompletes c old new status =
    NoneFailed old new → (source text : List ℕ) → FileIsTold old c.source input_limit source → FileIsTold old c.text text_limit text → HasStatus (FilesComeTo c CountIsFound source text) status
