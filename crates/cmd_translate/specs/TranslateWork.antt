-- What the work of `translate` comes to, before its last line is said.
use Rattle.std.specs.Prelude.{◌≡◌, ℕ, List, Option, Result, OnOk, IfErr}
use Rattle.host.specs.Host.{HostState, SameSaid, SameFaults, OnlyReads, OnlyWrites, Rewrites}
use Rattle.asm86_line_types.specs.declared.line.Line86.{Line86}
use Rattle.asm80_types.specs.Program.{Program}
use Rattle.asm80_source_def.specs.Source.{SourceRule}
use Rattle.commented_text.specs.Commented.{kept_of, IsWrittenText}
use Rattle.cmd_arguments.specs.Words.{Translate}
use Rattle.cmd_common.specs.declared.names.InputFile.TheVariants.{First}
use Rattle.cmd_common.specs.declared.stop.Stop.{Stop}
use Rattle.cmd_common.specs.declared.stop.Stop.TheVariants.{OutOfMemory, CodeTooLarge}
use Rattle.cmd_common.specs.Files.{IsWholeFile, ReadStops, input_limit}
use Rattle.cmd_common.specs.Sources.{SourceGives, reading_of, stop_of_rule}
use Rattle.templates.specs.declared.translation.Mode.{Mode}
use Rattle.templates.specs.Translation.{IsText, CodeFits, IsTooLarge}
use Rattle.cmd_common.specs.Writing.{Writes, WriteStops}
use Rattle.cmd_translate.specs.Translates.{line_of_text, Accepts, Refuses, Exceeds}

-- a program has no text in a mode: its code is too large, or memory ran out
pub data TextStops (mode : Mode) (p : Program) : Stop → Type 0 where
  is_large : {size : ℕ} → IsTooLarge mode p size → TextStops mode p (CodeTooLarge size)
  no_room : TextStops mode p OutOfMemory

-- the source's bytes were read and give a program or a refusal, and are kept where its lines are to stand in the text
pub record ReadsKept (c : Translate) (old : HostState) (outcome : Result Program Stop) (kept : Option (List ℕ)) : Type 0 where
  pub bytes : List ℕ
  pub file : IsWholeFile old c.input input_limit bytes
  pub gives : SourceGives (reading_of c.zilog) bytes c.top outcome
  pub keeps : kept ≡ kept_of c.comments bytes

-- what is written for a program's lines took the place of what the file of a name held, or the write ended early
pub record WritesOut (kept : Option (List ℕ)) (p : Program) (lines : List Line86) (name : List ℕ) (old new : HostState) (result : Result (Unit {0}) Stop) : Type 0 where
  pub out : List ℕ
  pub is : IsWrittenText kept p lines out
  pub written : OnOk result (Rewrites old new name out)
  pub stopped : IfErr result (WriteStops name out old new)

module _ (mode : Mode) (kept : Option (List ℕ)) (p : Program) (name : List ℕ) (old new : HostState) where
  -- what is written for a program's text in a mode, whose code fits, was written to the file of a name; this line says how much it is
  pub record WritesText (line : List ℕ) : Type 0 where
    pub lines : List Line86
    pub text : IsText mode p lines
    pub fits : CodeFits lines
    pub out : List ℕ
    pub is : IsWrittenText kept p lines out
    pub only : OnlyWrites old new name
    pub written : Rewrites old new name out
    pub counted : SameFaults old new
    pub line_is : line ≡ line_of_text p lines

  -- or there is no such text, and nothing was done; or it was not written
  pub data LosesText : Stop → Type 0 where
    no_text : {stop : Stop} → new ≡ old → TextStops mode p stop → LosesText stop
    not_written : {stop : Stop} (lines : List Line86) (out : List ℕ) → IsText mode p lines → CodeFits lines → IsWrittenText kept p lines out → WriteStops name out old new stop → LosesText stop

-- the source was read and the text of its program written; the line says how much it was
pub record Works (c : Translate) (old new : HostState) (text : List ℕ) : Type 0 where
  pub program : Program
  pub lines : List Line86
  pub accepts : Accepts c old program lines
  pub writes : Writes c.output accepts.out old new
  pub quiet : SameSaid old new
  pub faults : SameFaults old new
  pub line : text ≡ line_of_text program lines

module _ (c : Translate) (old new : HostState) where
  -- why the work ended early
  pub data StopsBy : Stop → Type 0 where
    unread : {stop : Stop} → ReadStops First c.input input_limit old new stop → OnlyReads old new → StopsBy stop
    refused : {stop : Stop} (line : ℕ) (rule : SourceRule) → Refuses c old line rule → stop ≡ stop_of_rule line rule → OnlyReads old new → SameFaults old new → StopsBy stop
    too_large : {stop : Stop} (size : ℕ) → Exceeds c old size → stop ≡ CodeTooLarge size → OnlyReads old new → SameFaults old new → StopsBy stop
    no_memory : OnlyReads old new → StopsBy OutOfMemory
    unwritten : {stop : Stop} (p : Program) (lines : List Line86) → (a : Accepts c old p lines) → WriteStops c.output a.out old new stop → StopsBy stop
