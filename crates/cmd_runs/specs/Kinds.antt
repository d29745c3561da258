-- A command that runs what one file gives, over the devices that its options name: what there is to run, and why there is nothing.
use Rattle.std.specs.Prelude.{ℕ, List}
use Rattle.dialogue.specs.declared.request.Reply.{Reply}
use Rattle.host.specs.Host.{HostState, SameFaults, OnlyReads}
use Rattle.bdos_small.specs.Supply.{Supply}
use Rattle.emulator_loop.specs.declared.running.RunEnd.{RunEnd}
use Rattle.emulator_loop.specs.Talk.{SeenRun}
use Rattle.cmd_arguments.specs.Words.{RunOptions}
use Rattle.cmd_common.specs.declared.names.InputFile.TheVariants.{First}
use Rattle.cmd_common.specs.declared.stop.Stop.{Stop}
use Rattle.cmd_common.specs.declared.stop.Stop.TheVariants.{OutOfMemory}
use Rattle.cmd_common.specs.Files.{IsWholeFile, ReadStops}
use Rattle.cmd_runs.specs.Supplies.{Given, IsSupplied, SupplyStops, HasDisk, DiskStops}
use Rattle.cmd_runs.specs.Settings.{RunSetting}

-- the kinds differ in this: the name of the file and the most bytes that it may have, the options of the run, what the file's bytes give
-- to run, by which stop they give nothing, what has to be known of the reading of what runs, how it runs, and which line of the file
-- stands with a stop, 0 where none does
pub record RunKind (Loaded : Type 0) : Type 1 where
  pub file : List ℕ
  pub most : ℕ
  pub options : RunOptions
  pub IsGiven : List ℕ → Loaded → Type 0
  pub IsRefused : List ℕ → Stop → Type 0
  pub IsReadable : Loaded → Type 0
  pub IsCourse : Loaded → (List Reply → ℕ → SeenRun) → Type 0
  pub IsStopLine : Loaded → RunEnd → ℕ → Type 0

-- this stands by the host's files, and then they were only read, and no call of the host failed
pub record HasRead (Stands : Type 0) (old new : HostState) : Type 0 where
  pub stands : Stands
  pub reads : OnlyReads old new
  pub counted : SameFaults old new

module _ {Loaded : Type 0} (k : RunKind Loaded) where
  -- how it runs, in lines that begin with this
  abbrev pub run_setting : List ℕ → Loaded → RunSetting
  run_setting prefix loaded = record { IsCourse = k.IsCourse loaded; limit = k.options.steps; prefix = prefix }

  module _ (old : HostState) where
    -- the file gives this to run, and these are the bytes of the devices' files
    pub record IsNamed (loaded : Loaded) (given : Given) : Type 0 where
      pub bytes : List ℕ
      pub file : IsWholeFile old k.file k.most bytes
      pub gives : k.IsGiven bytes loaded
      pub supplied : IsSupplied k.options old given

    -- the same, it can be read, and this is what the devices have
    pub record IsToRun (loaded : Loaded) (supply : Supply) : Type 0 where
      pub given : Given
      pub named : IsNamed loaded given
      pub readable : k.IsReadable loaded
      pub devices : HasDisk given supply

    -- the same before there are devices, of which these are the bytes of the files
    pub record CanBeRun (loaded : Loaded) (given : Given) : Type 0 where
      pub named : IsNamed loaded given
      pub readable : k.IsReadable loaded

    -- why there is nothing to run: the file, or what the devices have, was not read, or the file's bytes are refused, or the disk's file
    -- is none, or memory ran out
    pub data NothingToRun (new : HostState) : Stop → Type 0 where
      no_file : {stop : Stop} → ReadStops First k.file k.most old new stop → NothingToRun new stop
      no_supply : {stop : Stop} (bytes : List ℕ) → IsWholeFile old k.file k.most bytes → SupplyStops k.options old new stop → NothingToRun new stop
      is_refused : {stop : Stop} (bytes : List ℕ) (given : Given) → IsWholeFile old k.file k.most bytes → IsSupplied k.options old given → SameFaults old new → k.IsRefused bytes stop → NothingToRun new stop
      no_disk : {stop : Stop} (loaded : Loaded) (given : Given) → IsNamed loaded given → SameFaults old new → DiskStops given.disk stop → NothingToRun new stop
      no_memory : NothingToRun new OutOfMemory
