-- What `shrink` gives, by its status: the causes, what is written and said, and after status 0 what OUT is.
use Rattle.std.specs.Prelude.{◌≡◌, false, ℕ, ◌-◌, ◌<◌, ◌≤◌, List, length, Ok}
use Rattle.host.specs.Host.{HostState, IsFile, SameSaid, SameFaults, OnlyWrites, Rewrites}
use Rattle.i86.specs.Decode.{HasReader}
use Rattle.asm86_line_types.specs.declared.line.Line86.{Line86}
use Rattle.asm86_line_types.specs.Layout.{sizes_of}
use Rattle.asm86_line_types.specs.Image.{Image, image_of, statements}
use Rattle.asm86_line_types.specs.Written.{written_text}
use Rattle.asm86.specs.Stream.{TextGives}
use Rattle.asm86.specs.Images.{HasImage}
use Rattle.asm80_types.specs.Program.{Program}
use Rattle.asm80_text.specs.Intel.{intel_reading}
use Rattle.asm80_source_def.specs.Source.{IsSource}
use Rattle.xlt_core.specs.Names.{Same, IsFinding, Shown as IsFoundShown}
use Rattle.shrink.specs.Shrunk.{IsShrunk}
use Rattle.shrink.specs.Laws.{IsSublist}
use Rattle.cmd_arguments.specs.Words.{Check, Shrink}
use Rattle.cmd_common.specs.Names.{two_names}
use Rattle.cmd_common.specs.declared.stop.Stop.{Stop}
use Rattle.cmd_common.specs.declared.stop.Stop.TheVariants.{OutOfMemory, TooManyStatements}
use Rattle.cmd_common.specs.Lines.{shrunk_line}
use Rattle.cmd_common.specs.Said.{IsDone, Closes}
use Rattle.cmd_common.specs.Writing.{Writes, WriteStops}
use Rattle.cmd_check.specs.Checks.{Loads, LoadStops, FindStops}

-- the check of the text as it is
abbrev pub check_of_text : Shrink → Check
check_of_text c = record { source = c.source; text = c.text; zilog = false; top = c.top }

-- the most statements that a text may have
abbrev pub most_statements : ℕ
most_statements = 2048

-- how many lines were left out of a text, and how many bytes of code the others have
abbrev pub line_of_left : List Line86 → List Line86 → List ℕ
line_of_left lines left = shrunk_line (length lines - length left) (sizes_of (statements left))

-- What is left of the lines of a text, which has few enough of them and is shown: a part of them with no more code, whose text has an image,
-- whose code is read in one way, and which makes the same system calls as the program.
pub record TextIsLeft (p : Program) (lines left : List Line86) : Type 0 where
  pub few : length lines ≤ most_statements
  pub blocks : ℕ
  pub finding : IsFinding p lines (IsFoundShown blocks)
  pub is : IsShrunk p lines left
  pub among : IsSublist left lines
  pub shorter : sizes_of (statements left) ≤ sizes_of (statements lines)
  pub has_image : HasImage (written_text left) (image_of left)
  pub reader : HasReader (image_of left).code
  pub same : Same p (image_of left)

-- why nothing is left: the text has too many statements; it is not shown; or memory ran out
pub data LeftStops (p : Program) (lines : List Line86) : Stop → Type 0 where
  too_many : most_statements < length lines → LeftStops p lines (TooManyStatements (length lines))
  unlike : {stop : Stop} → length lines ≤ most_statements → FindStops p lines stop → LeftStops p lines stop
  no_memory : LeftStops p lines OutOfMemory

module _ (p : Program) (lines : List Line86) (name : List ℕ) (old new : HostState) where
  -- what is left was written to the file of a name, and this line says how much it is
  pub record WritesLeft (line : List ℕ) : Type 0 where
    pub left : List Line86
    pub is : TextIsLeft p lines left
    pub only : OnlyWrites old new name
    pub written : Rewrites old new name (written_text left)
    pub counted : SameFaults old new
    pub line_is : line ≡ line_of_left lines left

  -- or nothing is left, and nothing was done; or it was not written
  pub data LosesLeft : Stop → Type 0 where
    nothing_left : {stop : Stop} → new ≡ old → LeftStops p lines stop → LosesLeft stop
    left_unwritten : {stop : Stop} (left : List Line86) → TextIsLeft p lines left → WriteStops name (written_text left) old new stop → LosesLeft stop

module _ (c : Shrink) (old : HostState) where
  -- it was written, and this line is to be said
  pub record HasShrunk (new : HostState) (line : List ℕ) : Type 0 where
    pub read : HostState
    pub program : Program
    pub lines : List Line86
    pub left : List Line86
    pub loads : Loads (check_of_text c) old read program lines
    pub is_left : TextIsLeft program lines left
    pub writes : Writes c.output (written_text left) old new
    pub quiet : SameSaid old new
    pub counted : SameFaults old new
    pub line_is : line ≡ line_of_left lines left

  -- why it was not: the files were not loaded; nothing is left of the text; or a write failed
  pub data Stops (new : HostState) : Stop → Type 0 where
    unloaded : {stop : Stop} → LoadStops (check_of_text c) old new stop → Stops new stop
    unshrunk : {stop : Stop} (p : Program) (lines : List Line86) → Loads (check_of_text c) old new p lines → LeftStops p lines stop → Stops new stop
    unwritten : {stop : Stop} (read : HostState) (p : Program) (lines left : List Line86) → Loads (check_of_text c) old read p lines → TextIsLeft p lines left → WriteStops c.output (written_text left) old new stop → Stops new stop

  -- what the command gives: what is left was written and the line is said, or its first bytes up to a fault; or the command stops before,
  -- and the line of the stop is said
  pub data ShrinkGives (new : HostState) : ℕ → Type 0 where
    shrunk : {status : ℕ} (mid : HostState) (line : List ℕ) → HasShrunk mid line → IsDone line mid new status → ShrinkGives new status
    stopped : {status : ℕ} (mid : HostState) (stop : Stop) → Stops mid stop → Closes (two_names c.source c.text) stop mid new status → ShrinkGives new status

-- What stands after status 0: the files, where the host tells them, are the source of a program and a text of these lines; the output
-- holds the text of what is left of them, which is a part of them and has no more code; that text has an image, whose code is read in one
-- way; and the image makes the same system calls as the program, in the same order, and ends when it ends.
pub record ShrunkHeadline (c : Shrink) (old new : HostState) : Type 0 where
  pub source : List ℕ
  pub program : Program
  pub text : List ℕ
  pub lines : List Line86
  pub left : List Line86
  pub image : Image
  pub source_given : IsFile (old.file c.source) source
  pub is_source : IsSource intel_reading source c.top program
  pub text_given : IsFile (old.file c.text) text
  pub gives : TextGives text (Ok lines)
  pub is_left : IsShrunk program lines left
  pub among : IsSublist left lines
  pub shorter : length image.code ≤ length (image_of lines).code
  pub written : Rewrites old new c.output (written_text left)
  pub has_image : HasImage (written_text left) image
  pub reader : HasReader image.code
  pub same : Same program image
