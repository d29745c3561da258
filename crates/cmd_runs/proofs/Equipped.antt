-- What was read, with the devices of a run or without them.
use Rattle.std.proofs.Common.{◌≡◌, sym, subst}
use Rattle.std.specs.Prelude.{Result, Ok, Err, IfOk, IfErr, IsErrAnd, MatchResult}
use Rattle.std.proofs.lemmas.Result.{IfOk-weaker, IfErr-weaker}
use Rattle.host.specs.Host.{HostState}
use Rattle.bdos_small.specs.Supply.{Supply}
use Rattle.cmd_common.specs.declared.stop.Stop.{Stop}
use Rattle.cmd_common.proofs.Told.{handed_on}
use Rattle.cmd_runs.specs.declared.halt.Halt.{Halt}
use Rattle.cmd_runs.specs.declared.halt.Halt.TheVariants.{By}
use Rattle.cmd_runs.specs.declared.last.Last.{Last}
use Rattle.cmd_runs.specs.Supplies.{Given, HasDisk, DiskStops}
use Rattle.cmd_runs.specs.Kinds.{RunKind, HasRead, CanBeRun, IsToRun, no_disk}
use Rattle.cmd_runs.specs.Works.{HasLastFrom, HaltsFrom, unloaded, work_of_one}

-- an error that is handed on is judged as it was
pub handed_to : {T E : Type 0} (r : Result T E) (error : E) (P : T → Type 0) (Q : E → Type 0) → IsErrAnd r (λ e. e ≡ error) → Q error → MatchResult r P Q
handed_to (Ok x) error P Q e q = absurd e
handed_to (Err found) error P Q e q = subst Q (sym e) q

module _ {Loaded : Type 0} (k : RunKind Loaded) (loaded : Loaded) (given : Given) (start : HostState) where
  -- without devices the command halts
  pub devices_halt : (r : Result Last Halt) (stop : Stop) → IsErrAnd r (λ e. e ≡ By stop) → DiskStops given.disk stop → IfErr r (HaltsFrom (work_of_one k) (λ begin. CanBeRun k begin loaded given) start start)
  devices_halt r stop e s =
      handed_on r (By stop) (HaltsFrom (work_of_one k) (λ begin. CanBeRun k begin loaded given) start start) e
      (λ begin read. unloaded read.reads (no_disk loaded given read.stands.named read.counted s))

  -- with them there is a run
  module _ (new : HostState) (supply : Supply) (has : HasDisk given supply) (r : Result Last Halt) where
    equipped : (begin : HostState) → HasRead (CanBeRun k begin loaded given) begin start → HasRead (IsToRun k begin loaded supply) begin start
    equipped begin read = record {
      stands = record { given = given; named = read.stands.named; readable = read.stands.readable; devices = has };
      reads = read.reads;
      counted = read.counted;
    }

    pub equipped_has : IfOk r (HasLastFrom (work_of_one k) (λ begin. IsToRun k begin loaded supply) start new) → IfOk r (HasLastFrom (work_of_one k) (λ begin. CanBeRun k begin loaded given) start new)
    equipped_has h =
        IfOk-weaker r (HasLastFrom (work_of_one k) (λ begin. IsToRun k begin loaded supply) start new) (HasLastFrom (work_of_one k) (λ begin. CanBeRun k begin loaded given) start new)
        (λ last has_last begin read. has_last begin (equipped begin read)) h

    pub equipped_halts : IfErr r (HaltsFrom (work_of_one k) (λ begin. IsToRun k begin loaded supply) start new) → IfErr r (HaltsFrom (work_of_one k) (λ begin. CanBeRun k begin loaded given) start new)
    equipped_halts h =
        IfErr-weaker r (HaltsFrom (work_of_one k) (λ begin. IsToRun k begin loaded supply) start new) (HaltsFrom (work_of_one k) (λ begin. CanBeRun k begin loaded given) start new)
        (λ halt halts begin read. halts begin (equipped begin read)) h
