-- Each command answers one of the program's statuses, and 2 never.
use Rattle.std.proofs.Common.{◌≡◌, ℕ, List, refl, sym, subst, arith}
use Rattle.std.specs.Prelude.{Option, Result, Ok, Err}
use Rattle.host.specs.declared.HostFault.{HostFault}
use Rattle.host.specs.declared.HostFault.TheVariants.{Failed, Memory}
use Rattle.host.specs.Host.{HostState}
use Rattle.cmd_arguments.specs.Words.{Translate, Check, Sample, Command, Translates, Checks, ListsFlags, Runs80, Runs86, RunsBoth, MakesSample, MakesCmd, ShowsCmd, WritesHex, RunsHex, Shrink, ShrinksText, ListsLeaves, ExplainsText}
use Rattle.cmd_common.specs.Names.{FileNames}
use Rattle.cmd_common.specs.declared.stop.Stop.{Stop}
use Rattle.cmd_common.specs.declared.stop.Stop.TheVariants.{SourceLine, SourceProgram, ReadFailed, WriteFailed, OutOfMemory, LeftProfile, StepLimit, NotShown, InputEnded, TextLine, ShortJump, NoInstruction, StackSegment, OddCall, BadDisk, NoDrive, CodeTooLarge, FileTooLong, BadCommandFile, BadHex, TooManyStatements}
use Rattle.cmd_common.specs.Lines.{status_of}
use Rattle.cmd_common.specs.Said.{IsDone, whole, failed, no_memory, Closes, said, unsaid}
use Rattle.cmd_runs.specs.Ends.{unsaid_status}
use Rattle.cmd_runs.specs.Lasts.{steps_line, SaysEnd}
use Rattle.cmd_runs.specs.Works as running
use Rattle.cmd_runs.specs.Works.{RunWork, WorkGives, came_by}
use Rattle.cmd_runs.specs.Runs80.{work80}
use Rattle.cmd_runs.specs.Runs86.{work86}
use Rattle.cmd_runs.specs.RunsHex.{work_hex}
use Rattle.cmd_runs.specs.BothRuns.{work_both}
use Rattle.cmd_common.specs.Kinds.{MakeKind}
use Rattle.cmd_common.specs.Makes as files
use Rattle.cmd_common.specs.Makes.{MakeGives}
use Rattle.cmd_makes.specs.Cmds.{cmd_kind}
use Rattle.cmd_makes.specs.Shows.{cmd_show_kind}
use Rattle.cmd_makes.specs.Hexes.{hex_kind}
use Rattle.cmd_shrink.specs.Shrinks as shrinking
use Rattle.cmd_translate.specs.Translates as translation
use Rattle.cmd_check.specs.Checks as checking
use Rattle.cmd_explain.specs.Explains as explaining
use Rattle.cmd_lists.specs.Saves.{flags_kind}
use Rattle.cmd_lists.specs.Departures.{leaves_kind}
use Rattle.cmd_sample.specs.Samples as making
use Rattle.xlt_app.specs.Top.{IsStatus, CommandAnswers}

-- a status that is not that of refused words
pub record IsOfCommand (status : ℕ) : Type 0 where
  pub number : IsStatus status
  pub other : status ≡ 2 → ⊥

-- that of refused words
pub of_words : IsStatus 2
of_words = (2, omega arith, refl)

of_0 : IsOfCommand 0
of_0 = record { number = (0, omega arith, refl); other = λ e. absurd (omega arith) }

of_1 : IsOfCommand 1
of_1 = record { number = (1, omega arith, refl); other = λ e. absurd (omega arith) }

of_3 : IsOfCommand 3
of_3 = record { number = (3, omega arith, refl); other = λ e. absurd (omega arith) }

of_4 : IsOfCommand 4
of_4 = record { number = (4, omega arith, refl); other = λ e. absurd (omega arith) }

pub of_5 : IsOfCommand 5
of_5 = record { number = (5, omega arith, refl); other = λ e. absurd (omega arith) }

of_6 : IsOfCommand 6
of_6 = record { number = (6, omega arith, refl); other = λ e. absurd (omega arith) }

of_7 : IsOfCommand 7
of_7 = record { number = (7, omega arith, refl); other = λ e. absurd (omega arith) }

of_8 : IsOfCommand 8
of_8 = record { number = (8, omega arith, refl); other = λ e. absurd (omega arith) }

of_9 : IsOfCommand 9
of_9 = record { number = (9, omega arith, refl); other = λ e. absurd (omega arith) }

of_10 : IsOfCommand 10
of_10 = record { number = (10, omega arith, refl); other = λ e. absurd (omega arith) }

of_11 : IsOfCommand 11
of_11 = record { number = (11, omega arith, refl); other = λ e. absurd (omega arith) }

of_12 : IsOfCommand 12
of_12 = record { number = (12, omega arith, refl); other = λ e. absurd (omega arith) }

of_13 : IsOfCommand 13
of_13 = record { number = (13, omega arith, refl); other = λ e. absurd (omega arith) }

of_14 : IsOfCommand 14
of_14 = record { number = (14, omega arith, refl); other = λ e. absurd (omega arith) }

of_15 : IsOfCommand 15
of_15 = record { number = (15, omega arith, refl); other = λ e. absurd (omega arith) }

of_16 : IsOfCommand 16
of_16 = record { number = (16, omega arith, refl); other = λ e. absurd (omega arith) }

of_17 : IsOfCommand 17
of_17 = record { number = (17, omega arith, refl); other = λ e. absurd (omega arith) }

of_stop : (stop : Stop) → IsOfCommand (status_of stop)
of_stop (SourceLine line rule) = of_1
of_stop (SourceProgram line rule) = of_1
of_stop (ReadFailed file) = of_3
of_stop WriteFailed = of_4
of_stop OutOfMemory = of_5
of_stop (LeftProfile line rule) = of_6
of_stop (StepLimit steps) = of_7
of_stop (NotShown at reason) = of_8
of_stop InputEnded = of_9
of_stop (TextLine line rule) = of_10
of_stop (ShortJump line) = of_10
of_stop (NoInstruction offset) = of_11
of_stop (StackSegment offset) = of_11
of_stop (OddCall offset function) = of_11
of_stop (BadDisk place) = of_12
of_stop (NoDrive function) = of_12
of_stop (CodeTooLarge size) = of_13
of_stop (FileTooLong file) = of_14
of_stop (BadCommandFile place) = of_15
of_stop (BadHex line) = of_16
of_stop (TooManyStatements count) = of_17

of_closes : {names : FileNames} (stop : Stop) (old new : HostState) (status : ℕ) → Closes names stop old new status → IsOfCommand status
of_closes stop old new status (said e s) = subst IsOfCommand (sym e) (of_stop stop)
of_closes stop old new status (unsaid n e s) = subst IsOfCommand (sym e) of_5

of_done : (line : List ℕ) (old new : HostState) (status : ℕ) → IsDone line old new status → IsOfCommand status
of_done line old new _ (whole o s f) = of_0
of_done line old new _ (failed s) = of_4
of_done line old new _ (no_memory s) = of_5

of_unsaid : (fault : HostFault) → IsOfCommand (unsaid_status fault)
of_unsaid Failed = of_4
of_unsaid Memory = of_5

-- ---- the commands

of_translation : (c : Translate) (old new : HostState) (status : ℕ) → translation.TranslateGives c old new status → IsOfCommand status
of_translation c old new _ (translation.translated p lines a w s l f) = of_0
of_translation c old new _ (translation.refused line rule r l) = of_1
of_translation c old new _ (translation.too_large size x l) = of_13
of_translation c old new _ (translation.unread r l) = of_3
of_translation c old new _ (translation.unwritten p lines a w s) = of_4
of_translation c old new _ (translation.unsaid p lines a w f s) = of_4
of_translation c old new _ (translation.no_memory l) = of_5
of_translation c old new _ (translation.no_memory_to_write p lines a w s) = of_5
of_translation c old new _ (translation.no_memory_to_say p lines a w f s) = of_5
of_translation c old new _ (translation.too_long l s) = of_14

of_checking : (c : Check) (old new : HostState) (status : ℕ) → checking.CheckGives c old new status → IsOfCommand status
of_checking c old new status (checking.shown mid line h d) = of_done line mid new status d
of_checking c old new status (checking.stopped mid stop s k) = of_closes stop mid new status k

of_explaining : (c : Check) (old new : HostState) (status : ℕ) → explaining.ExplainGives c old new status → IsOfCommand status
of_explaining c old new status (explaining.shown mid line h d) = of_done line mid new status d
of_explaining c old new status (explaining.stopped mid stop s k) = of_closes stop mid new status k
of_explaining c old new status (explaining.explained {at = at} {reason = reason} mid p lines text l u (explaining.whole told o s f k)) = of_closes (NotShown at reason) told new status k
of_explaining c old new _ (explaining.explained mid p lines text l u (explaining.failed s)) = of_4
of_explaining c old new _ (explaining.explained mid p lines text l u (explaining.no_memory s)) = of_5

of_ending : (names : FileNames) (second : Option ℕ) (came : Result ℕ Stop) (old new : HostState) (status : ℕ) → SaysEnd names second came old new status → IsOfCommand status
of_ending names second (Ok steps) old new status e = of_done (steps_line second steps) old new status e
of_ending names second (Err stop) old new status e = of_closes stop old new status e

of_work : (w : RunWork) (old new : HostState) (status : ℕ) → WorkGives w old new status → IsOfCommand status
of_work w old new status (running.ran kept m h e) = of_ending w.names m.second (came_by w m) kept new status e
of_work w old new status (running.unsaid fault e k) = subst IsOfCommand (sym e) (of_unsaid fault)
of_work w old new status (running.stopped mid stop s k) = of_closes stop mid new status k

of_file : {Made : Type 0} (k : MakeKind Made) (old new : HostState) (status : ℕ) → MakeGives k old new status → IsOfCommand status
of_file k old new status (files.made mid line h d) = of_done line mid new status d
of_file k old new status (files.stopped mid stop s c) = of_closes stop mid new status c

of_making : (c : Sample) (old new : HostState) (status : ℕ) → making.SampleGives c old new status → IsOfCommand status
of_making c old new _ (making.made line is w s f) = of_0
of_making c old new _ (making.unwritten w s) = of_4
of_making c old new _ (making.unsaid line is w f s) = of_4
of_making c old new _ (making.no_memory l) = of_5
of_making c old new _ (making.no_memory_to_write w s) = of_5
of_making c old new _ (making.no_memory_to_say line is w f s) = of_5

of_shrinking : (c : Shrink) (old new : HostState) (status : ℕ) → shrinking.ShrinkGives c old new status → IsOfCommand status
of_shrinking c old new status (shrinking.shrunk mid line h d) = of_done line mid new status d
of_shrinking c old new status (shrinking.stopped mid stop s k) = of_closes stop mid new status k

pub of_answer : (c : Command) (old new : HostState) (status : ℕ) → CommandAnswers c old new status → IsOfCommand status
of_answer (Translates c) old new status a = of_translation c old new status a.gives
of_answer (Checks c) old new status a = of_checking c old new status a.gives
of_answer (ListsFlags c) old new status a = of_file (flags_kind c) old new status a.gives
of_answer (Runs80 c) old new status a = of_work (work80 c) old new status a.gives
of_answer (Runs86 c) old new status a = of_work (work86 c) old new status a.gives
of_answer (RunsBoth c) old new status a = of_work (work_both c) old new status a.gives
of_answer (MakesSample c) old new status a = of_making c old new status a.gives
of_answer (MakesCmd c) old new status a = of_file (cmd_kind c) old new status a.gives
of_answer (ShowsCmd c) old new status a = of_file (cmd_show_kind c) old new status a.gives
of_answer (WritesHex c) old new status a = of_file (hex_kind c) old new status a.gives
of_answer (RunsHex c) old new status a = of_work (work_hex c) old new status a.gives
of_answer (ShrinksText c) old new status a = of_shrinking c old new status a.gives
of_answer (ListsLeaves c) old new status a = of_file (leaves_kind c) old new status a.gives
of_answer (ExplainsText c) old new status a = of_explaining c old new status a.gives
