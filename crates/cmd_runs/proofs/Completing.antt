-- The status of a command that runs something is that of the one thing that it comes to, where no call of the host fails.
use Rattle.std.proofs.Common.{ℕ, inl, inr, ⊎_elim, Option, refl}
use Rattle.std.specs.Prelude.{Result, Ok, Err}
use Rattle.host.specs.declared.HostFault.TheVariants.{Failed as CallFailed, Memory as CallWantedMemory}
use Rattle.host.proofs.HostLemmas.{SameFaults-trans}
use Rattle.host.specs.Host.{HostState, SameFaults}
use Rattle.emulator_loop.specs.declared.fault.TalkFault.TheVariants.{Unsaid as Untold}
use Rattle.cmd_common.specs.declared.stop.Stop.{Stop}
use Rattle.cmd_common.specs.declared.stop.Stop.TheVariants.{OutOfMemory}
use Rattle.cmd_common.specs.Said.{whole, failed, no_memory as unfinished, Closes}
use Rattle.cmd_common.specs.Files.{NoneFailed}
use Rattle.cmd_common.specs.OneEnd.{IsOnlyEnd, HasStatus}
use Rattle.cmd_common.proofs.Told.{not_unsaid, closes_status, memory_status}
use Rattle.cmd_runs.specs.Keeping.{kept_disk_name}
use Rattle.cmd_runs.specs.Lasts.{SaysEnd}
use Rattle.cmd_runs.specs.Works.{RunsMade, RunWork, came_by, RunsAreKept, WorkStops, unloaded, no_memory, no_line, unkept, WorkGives, ran, unsaid, stopped}
use Rattle.cmd_runs.proofs.Kept.{kept_counted, lost_by_memory, closes_writes}

module _ (w : RunWork) (old new : HostState) (none : NoneFailed old new) (Comes : Result ℕ Stop → Type 0) (counted : (mid : HostState) (m : RunsMade) → w.AreMade old mid m → SameFaults old mid)
    (uncut : w.AreCutOff old new (Untold CallFailed) → ⊥) (one : (mid : HostState) (m : RunsMade) → w.AreMade old mid m → IsOnlyEnd Comes (came_by w m)) (nothing : (mid : HostState) (stop : Stop) (status : ℕ) → w.HasNothing old mid stop → Closes w.names stop mid new status → HasStatus Comes status) where
  ended : (kept : HostState) (second : Option ℕ) (came : Result ℕ Stop) (status : ℕ) → IsOnlyEnd Comes came → SameFaults old kept → SaysEnd w.names second came kept new status → HasStatus Comes status
  ended kept second (Ok steps) _ is same (whole only s counted) = inr (Ok steps, is, refl)
  ended kept second (Ok steps) _ is same (failed s) = absurd (not_unsaid old kept new none same s.cause)
  ended kept second (Ok steps) _ is same (unfinished s) = inl refl
  ended kept second (Err stop) status is same closes = ⊎_elim (λ s. inl s) (λ s. inr (Err stop, is, s)) (closes_status w.names stop kept new status closes)

  halted : (mid : HostState) (stop : Stop) (status : ℕ) → WorkStops w old mid stop → Closes w.names stop mid new status → HasStatus Comes status
  halted mid stop status (unloaded only s) closes = nothing mid stop status s closes
  halted mid _ status (no_memory cut) closes = inl (memory_status w.names OutOfMemory mid new status refl closes)
  halted mid _ status (no_line m made) closes = inl (memory_status w.names OutOfMemory mid new status refl closes)
  halted mid stop status (unkept l) closes =
      inl (memory_status w.names stop mid new status (lost_by_memory old l.mid mid new none (counted l.mid l.runs l.made) (closes_writes w.names stop mid new status closes) (kept_disk_name w.out_disk l.runs.end.end) l.runs.left.system.disk stop l.stops) closes)

  faultless : (kept : HostState) (m : RunsMade) → RunsAreKept w old kept m → SameFaults old kept
  faultless kept m h =
      let after = kept_counted (kept_disk_name w.out_disk m.end.end) m.left.system.disk h.mid kept h.keeps in
      let before = counted h.mid m h.made in
      SameFaults-trans before after

  pub work_completes : (status : ℕ) → WorkGives w old new status → HasStatus Comes status
  work_completes status (ran kept m h says) = ended kept m.second (came_by w m) status (one h.mid m h.made) (faultless kept m h) says
  work_completes status (unsaid CallFailed e cut) = absurd (uncut cut)
  work_completes status (unsaid CallWantedMemory e cut) = inl e
  work_completes status (stopped mid stop s closes) = halted mid stop status s closes
