-- The one thing that a command that runs something comes to, by the whole bytes of its files, where no call of the host fails.
use Rattle.std.specs.Prelude.{◌≡◌, ℕ, List, Result, Err}
use Rattle.dialogue.specs.declared.request.Reply.{Reply}
use Rattle.host.specs.Host.{HostState}
use Rattle.bdos_small.specs.DiskFile.{IsBadAt}
use Rattle.bdos_small.specs.Supply.{Supply}
use Rattle.emulator_loop.specs.declared.running.Conversation.{Conversation}
use Rattle.emulator_loop.specs.Talk.{SeenRun, IsOutcome}
use Rattle.cmd_common.specs.declared.stop.Stop.{Stop}
use Rattle.cmd_common.specs.declared.stop.Stop.TheVariants.{BadDisk}
use Rattle.cmd_common.specs.Files.{NoneFailed, FileIsTold}
use Rattle.cmd_common.specs.OneEnd.{HasStatus}
use Rattle.cmd_runs.specs.Ends.{came_to}
use Rattle.cmd_runs.specs.Supplies.{Given, SupplyIsTold, HasDisk}
use Rattle.cmd_runs.specs.Kinds.{RunKind}

-- a run over devices comes to this
abbrev pub ComesTo : (List Reply → ℕ → SeenRun) → Supply → ℕ → Conversation → Type 0
ComesTo course supply limit o = (run : SeenRun) × IsOutcome course supply limit o run

-- ---- a command that makes one run

module _ {Loaded : Type 0} (k : RunKind Loaded) where
  -- the file's bytes are refused, or the disk's file is none, or what they give runs over the devices and comes to an end
  pub data FilesComeTo (bytes : List ℕ) (given : Given) : Result ℕ Stop → Type 0 where
    refuses : {stop : Stop} → k.IsRefused bytes stop → FilesComeTo bytes given (Err stop)
    of_disk : (loaded : Loaded) (place : ℕ) → k.IsGiven bytes loaded → IsBadAt given.disk place → FilesComeTo bytes given (Err (BadDisk place))
    runs : {r : Result ℕ Stop} (loaded : Loaded) (course : List Reply → ℕ → SeenRun) (supply : Supply) (o : Conversation) (line : ℕ) → k.IsGiven bytes loaded → k.IsCourse loaded course → HasDisk given supply → ComesTo course supply k.options.steps o → k.IsStopLine loaded o.end line → r ≡ came_to k.options.steps line o → FilesComeTo bytes given r

  -- where every file is told and within its limit, the status is that of the one thing that the command comes to
  abbrev pub RunCompletes : HostState → HostState → ℕ → Type 0
  RunCompletes old new status =
      NoneFailed old new → (bytes : List ℕ) (given : Given) → FileIsTold old k.file k.most bytes → SupplyIsTold k.options old given → HasStatus (FilesComeTo bytes given) status
