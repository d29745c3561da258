-- What a command that runs something comes to, by what it did: how it halts, what it has to say last, what it gives; and that no file
-- changes but that of the disk.
use Rattle.std.proofs.Common.{◌≡◌, ℕ, List, Option, sym, ◌∙◌, subst}
use Rattle.std.specs.Prelude.{Result, Ok, Err, IfOk, IfErr}
use Rattle.std.proofs.lemmas.Result.{IfOk-weaker, IfErr-weaker}
use Rattle.host.specs.Host.{HostState, SameFiles}
use Rattle.bdos_small.specs.Stored.{Stored}
use Rattle.emulator_loop.specs.declared.fault.TalkFault.{TalkFault}
use Rattle.emulator_loop.specs.declared.fault.TalkFault.TheVariants.{Unsaid as Untold, Memory as NoMemory}
use Rattle.cmd_common.specs.declared.stop.Stop.{Stop}
use Rattle.cmd_common.proofs.Said.{closes_files}
use Rattle.cmd_runs.specs.declared.halt.Halt.{Halt}
use Rattle.cmd_runs.specs.declared.halt.Halt.TheVariants.{By, Unsaid}
use Rattle.cmd_runs.specs.declared.last.Last.{Last}
use Rattle.cmd_runs.specs.Ends.{Halts, halt_of_talk}
use Rattle.cmd_runs.specs.Keeping.{is_disk_kept, kept_disk_name, KeepsDisk, DiskKeepStops, DiskAlone}
use Rattle.cmd_runs.specs.Lasts.{SaysEnd}
use Rattle.cmd_runs.specs.Finishing.{RunsAreLeft, LeaveStops, no_line as wants_line, unkept as loses_disk, IsClosed}
use Rattle.cmd_runs.specs.Kinds.{HasRead}
use Rattle.cmd_runs.specs.Works.{RunsMade, RunWork, came_by, RunsAreKept, WorkStops, unloaded, no_memory, no_line, unkept, WorkHalts, WorkHasLast, HasLastFrom, HaltsFrom, WorkGives, ran, unsaid, stopped}
use Rattle.cmd_runs.proofs.Kept.{same_alone, alone_after, alone_then, alone_kept, alone_lost, ending_files}

module _ (w : RunWork) where
  -- where a fault cut a run off, the command halts
  pub cut_halts : (old new : HostState) (fault : TalkFault) → w.AreCutOff old new fault → WorkHalts w old new (halt_of_talk fault)
  cut_halts old new (Untold fault) cut = cut
  cut_halts old new NoMemory cut = no_memory cut

  -- where the runs were made, what is left to do was done, or the command halts
  module _ (old mid new : HostState) (m : RunsMade) (made : w.AreMade old mid m) (came : Result ℕ Stop) (name : Option (List ℕ)) (disk : List Stored) (came_is : came ≡ came_by w m) (name_is : name ≡ kept_disk_name w.out_disk m.end.end) (disk_is : disk ≡ m.left.system.disk) where
    has_last : (last : Last) → RunsAreLeft came m.second name disk mid new last → WorkHasLast w old new last
    has_last last left = record {
      made = m;
      kept = record {
        mid = mid;
        made = made;
        keeps = subst (λ d. KeepsDisk (kept_disk_name w.out_disk m.end.end) d mid new) disk_is (subst (λ n. KeepsDisk n disk mid new) name_is left.keeps);
      };
      came = left.came_is ∙ came_is;
      second = left.second_is;
    }

    lost : (stop : Stop) → LeaveStops name disk mid new stop → WorkStops w old new stop
    lost _ (wants_line same) = no_line m (subst (λ h. w.AreMade old h m) (sym same) made)
    lost stop (loses_disk stops) = unkept (record {
      runs = m;
      mid = mid;
      made = made;
      stops = subst (λ d. DiskKeepStops (kept_disk_name w.out_disk m.end.end) d mid new stop) disk_is (subst (λ n. DiskKeepStops n disk mid new stop) name_is stops);
    })

    leaving_halts : (halt : Halt) → Halts (LeaveStops name disk mid new) halt → WorkHalts w old new halt
    leaving_halts (By stop) h = lost stop h
    leaving_halts (Unsaid fault) h = absurd h

  -- the same wherever the command began
  module _ (Stood : HostState → Type 0) (start mid new : HostState) (m : RunsMade) (made : (begin : HostState) → HasRead (Stood begin) begin start → w.AreMade begin mid m) (came : Result ℕ Stop) (name : Option (List ℕ)) (disk : List Stored) (came_is : came ≡ came_by w m) (name_is : name ≡ kept_disk_name w.out_disk m.end.end) (disk_is : disk ≡ m.left.system.disk)
      (r : Result Last Halt) where
    pub left_has : IfOk r (RunsAreLeft came m.second name disk mid new) → IfOk r (HasLastFrom w Stood start new)
    left_has h =
        IfOk-weaker r (RunsAreLeft came m.second name disk mid new) (HasLastFrom w Stood start new) (λ last left begin read. has_last begin mid new m (made begin read) came name disk came_is name_is disk_is last left) h

    pub left_halts : IfErr r (Halts (LeaveStops name disk mid new)) → IfErr r (HaltsFrom w Stood start new)
    left_halts h =
        IfErr-weaker r (Halts (LeaveStops name disk mid new)) (HaltsFrom w Stood start new) (λ halt stops begin read. leaving_halts begin mid new m (made begin read) came name disk came_is name_is disk_is halt stops) h

  -- and it began here
  module _ (Stood : HostState → Type 0) (old start new : HostState) (read : HasRead (Stood old) old start) (r : Result Last Halt) where
    pub begun_has : IfOk r (HasLastFrom w Stood start new) → IfOk r (WorkHasLast w old new)
    begun_has h = IfOk-weaker r (HasLastFrom w Stood start new) (WorkHasLast w old new) (λ last has. has old read) h

    pub begun_halts : IfErr r (HaltsFrom w Stood start new) → IfErr r (WorkHalts w old new)
    begun_halts h = IfErr-weaker r (HaltsFrom w Stood start new) (WorkHalts w old new) (λ halt halts. halts old read) h

  -- what the command gives, by what is said then
  pub gives : (old mid new : HostState) (status : ℕ) (worked : Result Last Halt) → IfOk worked (WorkHasLast w old mid) → IfErr worked (WorkHalts w old mid) → IsClosed w.names worked mid new status → WorkGives w old new status
  gives old mid new status (Ok last) has halts closed =
      ran mid has.made has.kept
      (subst (λ second. SaysEnd w.names second (came_by w has.made) mid new status) has.second (subst (λ came. SaysEnd w.names last.second came mid new status) has.came closed))
  gives old mid new status (Err (By stop)) has halts closed = stopped mid stop halts closed
  gives old mid new status (Err (Unsaid fault)) has halts closed =
      unsaid fault closed.1 (subst (λ h. w.AreCutOff old h (Untold fault)) (sym closed.0) halts)

  -- ---- the files

  -- the runs change no file
  pub record FilesStay : Type 0 where
    pub made : (old new : HostState) (m : RunsMade) → w.AreMade old new m → SameFiles old new
    pub cut : (old new : HostState) (fault : TalkFault) → w.AreCutOff old new fault → SameFiles old new

  module _ (stay : FilesStay) (old : HostState) where
    stops_alone : (new : HostState) (stop : Stop) → WorkStops w old new stop → DiskAlone w.out_disk old new
    stops_alone new stop (unloaded only s) = same_alone w.out_disk old new only.files
    stops_alone new _ (no_memory cut) = same_alone w.out_disk old new (stay.cut old new NoMemory cut)
    stops_alone new _ (no_line m made) = same_alone w.out_disk old new (stay.made old new m made)
    stops_alone new stop (unkept l) =
        alone_after w.out_disk old l.mid new (stay.made old l.mid l.runs l.made)
        (alone_lost (is_disk_kept l.runs.end.end) w.out_disk l.runs.left.system.disk l.mid new stop l.stops)

    kept_alone : (new : HostState) (m : RunsMade) → RunsAreKept w old new m → DiskAlone w.out_disk old new
    kept_alone new m h =
        alone_after w.out_disk old h.mid new (stay.made old h.mid m h.made)
        (alone_kept (is_disk_kept m.end.end) w.out_disk m.left.system.disk h.mid new h.keeps)

    -- what is given changes none but that of the disk
    pub gives_alone : (new : HostState) (status : ℕ) → WorkGives w old new status → DiskAlone w.out_disk old new
    gives_alone new status (ran kept m h says) =
        alone_then w.out_disk old kept new (kept_alone kept m h) (ending_files w.names m.second (came_by w m) kept new status says)
    gives_alone new status (unsaid fault e cut) = same_alone w.out_disk old new (stay.cut old new (Untold fault) cut)
    gives_alone new status (stopped mid stop s closes) =
        alone_then w.out_disk old mid new (stops_alone mid stop s) (closes_files w.names stop mid new status closes)
