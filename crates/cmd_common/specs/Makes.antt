-- What a command that makes something of one file gives, by its status: said once of all of them.
use Rattle.std.specs.Prelude.{◌≡◌, ◌≢◌, ℕ, ◌⊎◌, List, Option, Some, None}
use Rattle.host.specs.Host.{HostState, Says, SameSaid, SameFaults, OnlyReads}
use Rattle.cmd_common.specs.Names.{one_name}
use Rattle.cmd_common.specs.declared.names.InputFile.TheVariants.{First}
use Rattle.cmd_common.specs.declared.stop.Stop.{Stop}
use Rattle.cmd_common.specs.declared.stop.Stop.TheVariants.{OutOfMemory}
use Rattle.cmd_common.specs.Lines.{status_of, line_of_stop}
use Rattle.cmd_common.specs.Said.{SaysLine, IsDone, Closes}
use Rattle.cmd_common.specs.Files.{IsWholeFile, ReadStops, NoneFailed, FileIsTold}
use Rattle.cmd_common.specs.Writing.{Writes, WriteStops}
use Rattle.cmd_common.specs.Kinds.{MakeKind}

-- the bytes were written to the file, if there is one, and nothing was said
abbrev pub IsOutput : Option (List ℕ) → List ℕ → HostState → HostState → Type 0
IsOutput None bytes old new = OnlyReads old new
IsOutput (Some name) bytes old new = Writes name bytes old new × SameSaid old new

-- they were not all written
abbrev pub LosesOutput : Option (List ℕ) → List ℕ → HostState → HostState → Stop → Type 0
LosesOutput None bytes old new stop = ⊥
LosesOutput (Some name) bytes old new stop = WriteStops name bytes old new stop

module _ {Made : Type 0} (k : MakeKind Made) (old : HostState) where
  -- the whole bytes of the file give this
  pub record IsMade (m : Made) : Type 0 where
    pub bytes : List ℕ
    pub file : IsWholeFile old k.file k.most bytes
    pub gives : k.IsGiven bytes m

  module _ (new : HostState) where
    -- why there is nothing to write: the file was not read, or its whole bytes are refused, or memory ran out
    pub data NothingMade : Stop → Type 0 where
      no_file : {stop : Stop} → ReadStops First k.file k.most old new stop → NothingMade stop
      is_refused : {stop : Stop} (bytes : List ℕ) → IsWholeFile old k.file k.most bytes → SameFaults old new → k.IsRefused bytes stop → NothingMade stop
      no_memory : NothingMade OutOfMemory

    -- why the command stops before its last line
    pub data MakeStops : Stop → Type 0 where
      unmade : {stop : Stop} → OnlyReads old new → NothingMade stop → MakeStops stop
      unwritten : {stop : Stop} (m : Made) → IsMade m → LosesOutput k.output (k.content m) old new stop → MakeStops stop

    -- or else this is said, a line or several
    pub record HasMade (line : List ℕ) : Type 0 where
      pub made : Made
      pub is : IsMade made
      pub output : IsOutput k.output (k.content made) old new
      pub counted : SameFaults old new
      pub line_is : line ≡ k.report made

  module _ (new : HostState) where
    -- what the command gives, by its status: what the file gives was written, if it is to be, and its line is said, or its first bytes
    -- up to a fault; or the command stops before, and the line of the stop is said
    pub data MakeGives : ℕ → Type 0 where
      made : {status : ℕ} (mid : HostState) (line : List ℕ) → HasMade mid line → IsDone line mid new status → MakeGives status
      stopped : {status : ℕ} (mid : HostState) (stop : Stop) → MakeStops mid stop → Closes (one_name k.file) stop mid new status → MakeGives status

    -- what the status of whole bytes is, want of memory aside: 0 with the line of what they give, or that of the stop by which they are
    -- refused, with its line, which only a want of memory of the host's cuts off; and one of these it is
    pub record Decides (bytes : List ℕ) (status : ℕ) : Type 0 where
      pub accepted : (m : Made) → k.IsGiven bytes m → (status ≡ 0) × Says old new (k.report m)
      pub refused : (stop : Stop) → k.IsRefused bytes stop → (status ≡ status_of stop) × SaysLine old new (line_of_stop (one_name k.file) stop)
      pub one : ((status ≡ 0) × (m : Made) × k.IsGiven bytes m) ⊎ ((stop : Stop) × k.IsRefused bytes stop × (status ≡ status_of stop))

    -- so it is where no call failed and the host tells the file within its limit
    abbrev pub MakeCompletes : ℕ → Type 0
    MakeCompletes status =
        NoneFailed old new → (bytes : List ℕ) → FileIsTold old k.file k.most bytes → status ≢ 5 → Decides bytes status
