-- A command that reads the bytes of its file, then the files of the devices, and then looks at the bytes.
use Rattle.std.proofs.Common.{◌≡◌, ℕ, List}
use Rattle.std.specs.Prelude.{Result, IfErr, IsErrAnd}
use Rattle.host.proofs.HostLemmas.{OnlyReads-trans, SameFaults-trans}
use Rattle.host.specs.Host.{HostState, OnlyReads, SameFaults}
use Rattle.cmd_common.specs.declared.stop.Stop.{Stop}
use Rattle.cmd_common.specs.Files.{IsWholeFile}
use Rattle.cmd_common.proofs.Told.{handed_on}
use Rattle.cmd_runs.specs.declared.halt.Halt.{Halt}
use Rattle.cmd_runs.specs.declared.halt.Halt.TheVariants.{By}
use Rattle.cmd_runs.specs.declared.last.Last.{Last}
use Rattle.cmd_runs.specs.Supplies.{Given, IsSupplied, SupplyStops}
use Rattle.cmd_runs.specs.Kinds.{RunKind, HasRead, CanBeRun, NothingToRun, no_supply}
use Rattle.cmd_runs.specs.Works.{WorkHalts, unloaded, work_of_one}
use Rattle.cmd_runs.proofs.Loading.{supply_before, supply_stops_before}

module _ {Loaded : Type 0} (k : RunKind Loaded) (old new : HostState) where
  -- there is nothing to run
  pub nothing_halts : (r : Result Last Halt) (stop : Stop) → IsErrAnd r (λ e. e ≡ By stop) → OnlyReads old new → NothingToRun k old new stop → IfErr r (WorkHalts (work_of_one k) old new)
  nothing_halts r stop e only s = handed_on r (By stop) (WorkHalts (work_of_one k) old new) e (unloaded only s)

  module _ (mid : HostState) (bytes : List ℕ) (file : IsWholeFile old k.file k.most bytes) (only : OnlyReads old mid) (counted : SameFaults old mid) (more : OnlyReads mid new) where
    -- the files of the devices were not read
    pub supplies_halt : (r : Result Last Halt) (stop : Stop) → IsErrAnd r (λ e. e ≡ By stop) → SupplyStops k.options mid new stop → IfErr r (WorkHalts (work_of_one k) old new)
    supplies_halt r stop e s = nothing_halts r stop e (OnlyReads-trans only more) (no_supply bytes file (supply_stops_before old mid new only counted k.options stop s))

    module _ (given : Given) (also : SameFaults mid new) (supplied : IsSupplied k.options mid given) where
      -- or they were read, and the bytes are refused
      pub bytes_halt : (r : Result Last Halt) (stop : Stop) → IsErrAnd r (λ e. e ≡ By stop) → (IsSupplied k.options old given → SameFaults old new → NothingToRun k old new stop) → IfErr r (WorkHalts (work_of_one k) old new)
      bytes_halt r stop e s = nothing_halts r stop e (OnlyReads-trans only more) (s (supply_before old mid new only counted k.options given supplied) (SameFaults-trans counted also))

      -- or they give what can be run
      pub files_read : (loaded : Loaded) → k.IsGiven bytes loaded → k.IsReadable loaded → HasRead (CanBeRun k old loaded given) old new
      files_read loaded gives readable = record {
        stands = record {
          named = record { bytes = bytes; file = file; gives = gives; supplied = supply_before old mid new only counted k.options given supplied };
          readable = readable;
        };
        reads = OnlyReads-trans only more;
        counted = SameFaults-trans counted also;
      }
