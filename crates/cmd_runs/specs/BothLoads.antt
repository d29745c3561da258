-- What `both` has before its runs: the program of the source and what the devices have, as `run80` has them, and then the image of
-- the program's lean text.
use Rattle.std.specs.Prelude.{ℕ, List}
use Rattle.i86.specs.Decode.{HasReader}
use Rattle.asm80_types.specs.Program.{Program}
use Rattle.asm86_line_types.specs.declared.line.Line86.{Line86}
use Rattle.asm86_line_types.specs.Image.{Image, IsImage}
use Rattle.host.specs.Host.{HostState, SameFaults}
use Rattle.bdos_small.specs.Supply.{Supply}
use Rattle.cmd_arguments.specs.Words.{Run80, Both}
use Rattle.cmd_common.specs.declared.stop.Stop.{Stop}
use Rattle.cmd_common.specs.declared.stop.Stop.TheVariants.{OutOfMemory, CodeTooLarge}
use Rattle.cmd_runs.specs.Kinds.{IsToRun, NothingToRun}
use Rattle.cmd_runs.specs.Runs80.{kind80}
use Rattle.templates_law.specs.Names.{Same}
use Rattle.templates.specs.declared.translation.Mode.TheVariants.{Lean}
use Rattle.templates.specs.Translation.{IsText, CodeFits, IsTooLarge}

-- what `both` does on the 8080 is what `run80` does by these words
abbrev pub source_of : Both → Run80
source_of c = record { source = c.source; zilog = c.zilog; top = c.top; run = c.run }

-- the image of a program's lean text, whose code fits and is read in one way; and the headline, that it means the same
pub record HasLean (p : Program) (image : Image) : Type 0 where
  pub lines : List Line86
  pub text : IsText Lean p lines
  pub fits : CodeFits lines
  pub assembled : IsImage lines image
  pub reader : HasReader image.code
  pub same : Same p image

-- a program has no such image: the code is too large, or memory ran out
pub data LeanStops (p : Program) : Stop → Type 0 where
  is_large : {size : ℕ} → IsTooLarge Lean p size → LeanStops p (CodeTooLarge size)
  no_room : LeanStops p OutOfMemory

module _ (c : Both) (old : HostState) where
  -- the program of the source and what the devices have, and the image
  pub record AreToRun (program : Program) (image : Image) (supply : Supply) : Type 0 where
    pub source : IsToRun (kind80 (source_of c)) old program supply
    pub lean : HasLean program image

  -- why there is nothing to run: as in `run80`; or the code of the lean text is too large, which is told after the disk; or memory
  -- ran out
  pub data NeitherToRun (new : HostState) : Stop → Type 0 where
    unloaded : {stop : Stop} → NothingToRun (kind80 (source_of c)) old new stop → NeitherToRun new stop
    no_image : {stop : Stop} (program : Program) (supply : Supply) → IsToRun (kind80 (source_of c)) old program supply → SameFaults old new → LeanStops program stop → NeitherToRun new stop
    no_memory : NeitherToRun new OutOfMemory
