-- What `check` gives, by its status: the causes, what is said, and after status 0 the headline.
use Rattle.std.specs.Prelude.{◌≡◌, ℕ, List, Ok}
use Rattle.host.specs.Host.{HostState, SameFaults, OnlyReads}
use Rattle.asm86_line_types.specs.declared.line.Line86.{Line86}
use Rattle.asm86_line_types.specs.Image.{image_of}
use Rattle.asm86.specs.Stream.{TextGives}
use Rattle.asm86.specs.declared.fault.ImageFault.{ImageFault}
use Rattle.asm80_types.specs.Program.{Program}
use Rattle.asm80_source_def.specs.Source.{IsSource}
use Rattle.sym_block_def.specs.declared.reason.Reason.{Reason}
use Rattle.xlt_core.specs.Names.{Same, Shown as IsFoundShown, NotShown as IsFoundNot, IsFinding}
use Rattle.cmd_arguments.specs.Words.{Check}
use Rattle.cmd_common.specs.Names.{two_names}
use Rattle.cmd_common.specs.declared.names.InputFile.TheVariants.{First, Text}
use Rattle.cmd_common.specs.declared.stop.Stop.{Stop}
use Rattle.cmd_common.specs.declared.stop.Stop.TheVariants.{OutOfMemory, NotShown}
use Rattle.cmd_common.specs.Lines.{shown_line}
use Rattle.cmd_common.specs.Said.{IsDone, Closes}
use Rattle.cmd_common.specs.Files.{IsWholeFile, ReadStops, input_limit, text_limit}
use Rattle.cmd_common.specs.Sources.{SourceStops, reading_of}
use Rattle.cmd_common.specs.Texts.{HasOneImage, stop_of_image}
use Rattle.asm86.specs.Images.{IsNoImage}

-- so many blocks are shown: the lines mean the same as the program
pub record IsShown (p : Program) (lines : List Line86) (blocks : ℕ) : Type 0 where
  pub finding : IsFinding p lines (IsFoundShown blocks)
  pub same : Same p (image_of lines)

-- the line says how many are
pub record SaysShown (p : Program) (lines : List Line86) (line : List ℕ) : Type 0 where
  pub count : ℕ
  pub shown : IsShown p lines count
  pub is : line ≡ shown_line count

-- why the lines are not shown, or memory ran out
pub data FindStops (p : Program) (lines : List Line86) : Stop → Type 0 where
  not_shown : {at : ℕ} {reason : Reason} → IsFinding p lines (IsFoundNot at reason) → FindStops p lines (NotShown at reason)
  no_memory : FindStops p lines OutOfMemory

module _ (c : Check) (old : HostState) where
  -- both files, and that nothing else was done and no call failed
  pub record Reads (new : HostState) (source text : List ℕ) : Type 0 where
    pub source_file : IsWholeFile old c.source input_limit source
    pub text_file : IsWholeFile old c.text text_limit text
    pub only : OnlyReads old new
    pub counted : SameFaults old new

  -- they are the source of a program and a text of lines with an image
  pub record Loads (new : HostState) (p : Program) (lines : List Line86) : Type 0 where
    pub source : List ℕ
    pub text : List ℕ
    pub reads : Reads new source text
    pub is_source : IsSource (reading_of c.zilog) source c.top p
    pub gives : TextGives text (Ok lines)
    pub stands : HasOneImage lines (image_of lines)

  -- the text is shown, and this is its line
  pub record Shows (new : HostState) (line : List ℕ) : Type 0 where
    pub program : Program
    pub lines : List Line86
    pub blocks : ℕ
    pub loads : Loads new program lines
    pub shown : IsShown program lines blocks
    pub is : line ≡ shown_line blocks

  -- why there is nothing to be checked: a file was not read; the source is refused; the text is, or has no image; or memory ran out
  pub data LoadStops (new : HostState) : Stop → Type 0 where
    no_source : {stop : Stop} → OnlyReads old new → ReadStops First c.source input_limit old new stop → LoadStops new stop
    no_text : {stop : Stop} (source : List ℕ) → IsWholeFile old c.source input_limit source → OnlyReads old new → ReadStops Text c.text text_limit old new stop → LoadStops new stop
    refused : {stop : Stop} (source text : List ℕ) → Reads new source text → SourceStops (reading_of c.zilog) source c.top stop → LoadStops new stop
    no_image : {stop : Stop} (source text : List ℕ) (p : Program) (fault : ImageFault) → Reads new source text → IsSource (reading_of c.zilog) source c.top p → IsNoImage text fault → stop ≡ stop_of_image fault → LoadStops new stop
    out_of_memory : OnlyReads old new → LoadStops new OutOfMemory

  -- why the text is not shown: there is nothing to be checked, or a block is not shown, or memory ran out
  pub data Stops (new : HostState) : Stop → Type 0 where
    unloaded : {stop : Stop} → LoadStops new stop → Stops new stop
    unlike : {stop : Stop} (p : Program) (lines : List Line86) → Loads new p lines → FindStops p lines stop → Stops new stop

  -- what the command gives: the line is said, or its first bytes up to a fault, and then nothing more is; or the line of the stop
  pub data CheckGives (new : HostState) : ℕ → Type 0 where
    shown : {status : ℕ} (mid : HostState) (line : List ℕ) → Shows mid line → IsDone line mid new status → CheckGives new status
    stopped : {status : ℕ} (mid : HostState) (stop : Stop) → Stops mid stop → Closes (two_names c.source c.text) stop mid new status → CheckGives new status
