-- What the program answers: the headline, the statuses that there are, and what is answered to each command. What each status of a
-- command says stands with the command.
use Rattle.std.specs.Prelude.{◌≡◌, ℕ, true, List, [], ◌∷◌, Contains}
use Rattle.host.specs.Host.{HostState, IsFile, SameFiles, Rewrites}
use Rattle.i86.specs.Decode.{HasReader}
use Rattle.asm86_line_types.specs.Image.{Image}
use Rattle.asm80_types.specs.Program.{Program, is_top}
use Rattle.cmd_common.specs.Sources.{reading_of}
use Rattle.asm80_source_def.specs.Source.{IsSource}
use Rattle.cmd_arguments.specs.Words.{Translate, Check, Listing, Run80, Run86, Both, Sample, Cmd, CmdShow, Hex80, RunHex, Command, Translates, Checks, ListsFlags, Runs80, Runs86, RunsBoth, MakesSample, MakesCmd, ShowsCmd, WritesHex, RunsHex, IsCommand, IsNoCommand, Shrink, ShrinksText, ListsLeaves, ExplainsText}
use Rattle.cmd_common.specs.Lines.{memory_line}
use Rattle.cmd_common.specs.Said.{IsRefusedWords, SaysLast}
use Rattle.asm86.specs.Images.{HasImage}
use Rattle.cmd_translate.specs.Translates as translation
use Rattle.cmd_translate.specs.Translates.{Same}
use Rattle.cmd_check.specs.Checks as checking
use Rattle.cmd_check.specs.Completes as checking_completes
use Rattle.cmd_check.specs.OwnTexts.{ShowsOwnText}
use Rattle.cmd_sample.specs.Samples as making
use Rattle.cmd_lists.specs.Saves.{flags_kind}
use Rattle.cmd_lists.specs.Departures.{leaves_kind, HasDepartures}
use Rattle.cmd_runs.specs.Keeping.{DiskAlone}
use Rattle.cmd_runs.specs.Works.{WorkGives}
use Rattle.cmd_runs.specs.Outcomes.{RunCompletes}
use Rattle.cmd_runs.specs.Runs80.{kind80, work80}
use Rattle.cmd_runs.specs.Runs86.{kind86, work86}
use Rattle.cmd_runs.specs.RunsHex.{kind_hex, work_hex}
use Rattle.cmd_runs.specs.BothRuns.{work_both}
use Rattle.cmd_runs.specs.BothCompletes.{BothComplete}
use Rattle.cmd_common.specs.Makes.{MakeGives, MakeCompletes}
use Rattle.cmd_makes.specs.Cmds.{cmd_kind, HasCommandFile}
use Rattle.cmd_makes.specs.Shows.{cmd_show_kind}
use Rattle.cmd_makes.specs.Hexes.{hex_kind, HasHexFile}
use Rattle.cmd_explain.specs.Explains.{ExplainGives}
use Rattle.cmd_shrink.specs.Shrinks.{ShrinkGives, ShrunkHeadline}
use Rattle.cmd_shrink.specs.Completes.{ShrinkCompletes}

-- the headline: the source's file, where the host tells it, is the source of a program; the output's file holds a text with an
-- image, whose code is read in one way; and the image makes the same system calls as the program, in the same order, and ends
-- when it ends
pub record Headline (c : Translate) (old new : HostState) : Type 0 where
  pub source : List ℕ
  pub program : Program
  pub text : List ℕ
  pub image : Image
  pub given : IsFile (old.file c.input) source
  pub is_source : IsSource (reading_of c.zilog) source c.top program
  pub written : Rewrites old new c.output text
  pub has_image : HasImage text image
  pub reader : HasReader image.code
  pub same : Same program image

-- the headline of a check: the files, where the host tells them, are the source of a program and a text with an image, whose code is
-- read in one way; and the image makes the same system calls as the program, in the same order, and ends when it ends
pub record CheckedHeadline (c : Check) (old : HostState) : Type 0 where
  pub source : List ℕ
  pub program : Program
  pub text : List ℕ
  pub image : Image
  pub source_given : IsFile (old.file c.source) source
  pub is_source : IsSource (reading_of c.zilog) source c.top program
  pub text_given : IsFile (old.file c.text) text
  pub has_image : HasImage text image
  pub reader : HasReader image.code
  pub same : Same program image

-- the statuses that are answered
abbrev pub statuses : List ℕ
statuses = 0 ∷ (1 ∷ (2 ∷ (3 ∷ (4 ∷ (5 ∷ (6 ∷ (7 ∷ (8 ∷ (9 ∷ (10 ∷ (11 ∷ (12 ∷ (13 ∷ (14 ∷ (15 ∷ (16 ∷ (17 ∷ [])))))))))))))))))

abbrev pub IsStatus : ℕ → Type 0
IsStatus status = Contains statuses status

-- ---- what is answered to each command

-- each way to a status with its cause, what is said and what becomes of the files; and which status it is where no call of the host
-- failed. A check of what a translation writes shows it
pub record Translated (c : Translate) (old new : HostState) (status : ℕ) : Type 0 where
  pub gives : translation.TranslateGives c old new status
  pub completes : translation.Completes c old new status

pub record Checked (c : Check) (old new : HostState) (status : ℕ) : Type 0 where
  pub gives : checking.CheckGives c old new status
  pub completes : checking_completes.CheckCompletes c old new status
  pub own : ShowsOwnText c old new status
  pub files : SameFiles old new

pub record ListedFlags (c : Listing) (old new : HostState) (status : ℕ) : Type 0 where
  pub gives : MakeGives (flags_kind c) old new status
  pub completes : MakeCompletes (flags_kind c) old new status
  pub files : SameFiles old new

pub record Ran80 (c : Run80) (old new : HostState) (status : ℕ) : Type 0 where
  pub gives : WorkGives (work80 c) old new status
  pub completes : RunCompletes (kind80 c) old new status
  pub files : DiskAlone c.run.out_disk old new

pub record Ran86 (c : Run86) (old new : HostState) (status : ℕ) : Type 0 where
  pub gives : WorkGives (work86 c) old new status
  pub completes : RunCompletes (kind86 c) old new status
  pub files : DiskAlone c.run.out_disk old new

pub record RanBoth (c : Both) (old new : HostState) (status : ℕ) : Type 0 where
  pub gives : WorkGives (work_both c) old new status
  pub completes : BothComplete c old new status
  pub files : DiskAlone c.run.out_disk old new

pub record Made (c : Sample) (old new : HostState) (status : ℕ) : Type 0 where
  pub gives : making.SampleGives c old new status
  pub completes : making.Completes c old new status

pub record WroteCmd (c : Cmd) (old new : HostState) (status : ℕ) : Type 0 where
  pub gives : MakeGives (cmd_kind c) old new status
  pub completes : MakeCompletes (cmd_kind c) old new status
  pub loads : status ≡ 0 → HasCommandFile c old new

pub record ShowedCmd (c : CmdShow) (old new : HostState) (status : ℕ) : Type 0 where
  pub gives : MakeGives (cmd_show_kind c) old new status
  pub completes : MakeCompletes (cmd_show_kind c) old new status
  pub files : SameFiles old new

pub record WroteHex (c : Hex80) (old new : HostState) (status : ℕ) : Type 0 where
  pub gives : MakeGives (hex_kind c) old new status
  pub completes : MakeCompletes (hex_kind c) old new status
  pub file : status ≡ 0 → HasHexFile c old new

pub record RanHex (c : RunHex) (old new : HostState) (status : ℕ) : Type 0 where
  pub gives : WorkGives (work_hex c) old new status
  pub completes : RunCompletes (kind_hex c) old new status
  pub files : DiskAlone c.run.out_disk old new

pub record Shrunk (c : Shrink) (old new : HostState) (status : ℕ) : Type 0 where
  pub gives : ShrinkGives c old new status
  pub completes : ShrinkCompletes c old new status
  pub headline : status ≡ 0 → ShrunkHeadline c old new

pub record ListedLeaves (c : Listing) (old new : HostState) (status : ℕ) : Type 0 where
  pub gives : MakeGives (leaves_kind c) old new status
  pub completes : MakeCompletes (leaves_kind c) old new status
  pub files : SameFiles old new
  pub left : status ≡ 0 → HasDepartures c old new

pub record ExplainedText (c : Check) (old new : HostState) (status : ℕ) : Type 0 where
  pub gives : ExplainGives c old new status
  pub completes : checking_completes.CheckCompletes c old new status
  pub files : SameFiles old new

abbrev pub CommandAnswers : Command → HostState → HostState → ℕ → Type 0
CommandAnswers (Translates c) old new status = Translated c old new status
CommandAnswers (Checks c) old new status = Checked c old new status
CommandAnswers (ListsFlags c) old new status = ListedFlags c old new status
CommandAnswers (Runs80 c) old new status = Ran80 c old new status
CommandAnswers (Runs86 c) old new status = Ran86 c old new status
CommandAnswers (RunsBoth c) old new status = RanBoth c old new status
CommandAnswers (MakesSample c) old new status = Made c old new status
CommandAnswers (MakesCmd c) old new status = WroteCmd c old new status
CommandAnswers (ShowsCmd c) old new status = ShowedCmd c old new status
CommandAnswers (WritesHex c) old new status = WroteHex c old new status
CommandAnswers (RunsHex c) old new status = RanHex c old new status
CommandAnswers (ShrinksText c) old new status = Shrunk c old new status
CommandAnswers (ListsLeaves c) old new status = ListedLeaves c old new status
CommandAnswers (ExplainsText c) old new status = ExplainedText c old new status

-- ---- what is answered to words

-- words that are no command are refused, or there was no memory to read them
pub data IsNotRead (old new : HostState) (status : ℕ) : Type 0 where
  refused : IsRefusedWords old new status → IsNotRead old new status
  no_memory : status ≡ 5 → SaysLast memory_line old new → IsNotRead old new status

-- words that are no command, and no others, are refused; and what is answered to words that are one
pub record Outcomes (words : List (List ℕ)) (old new : HostState) (status : ℕ) : Type 0 where
  pub number : IsStatus status
  pub no_command : IsNoCommand words → IsNotRead old new status
  pub words_refused : status ≡ 2 → IsNoCommand words
  pub answered : (c : Command) → IsCommand words c → CommandAnswers c old new status

-- what words give a command: a top that a program area may have, a number of routines from 1 to 500
abbrev pub HasLawfulValues : Command → Type 0
HasLawfulValues (Translates c) = is_top c.top ≡ true
HasLawfulValues (Checks c) = is_top c.top ≡ true
HasLawfulValues (ListsFlags c) = is_top c.top ≡ true
HasLawfulValues (Runs80 c) = is_top c.top ≡ true
HasLawfulValues (Runs86 c) = Unit {0}
HasLawfulValues (RunsBoth c) = is_top c.top ≡ true
HasLawfulValues (MakesSample c) = making.IsCount c.count
HasLawfulValues (MakesCmd c) = Unit {0}
HasLawfulValues (ShowsCmd c) = Unit {0}
HasLawfulValues (WritesHex c) = is_top c.top ≡ true
HasLawfulValues (RunsHex c) = is_top c.top ≡ true
HasLawfulValues (ShrinksText c) = is_top c.top ≡ true
HasLawfulValues (ListsLeaves c) = is_top c.top ≡ true
HasLawfulValues (ExplainsText c) = is_top c.top ≡ true
