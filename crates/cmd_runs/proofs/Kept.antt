-- What is written and said after a run changes no file but that of the disk.
use Rattle.std.proofs.Common.{◌≡◌, ℕ, ◌≤◌, inl, inr, ⊎_elim, List, Bool, true, false, Option, Some, None, refl, ap, sym, subst, ◌∙◌, arith}
use Rattle.std.specs.Prelude.{Result, Ok, Err}
use Rattle.host.specs.Host.{HostState, HasRisen, SameFiles, OnlyFileChanged, SameFaults}
use Rattle.host.proofs.HostLemmas.{SameFaults-refl}
use Rattle.bdos_small.specs.Stored.{Stored}
use Rattle.cmd_common.specs.Names.{FileNames}
use Rattle.cmd_common.specs.declared.stop.Stop.{Stop}
use Rattle.cmd_common.specs.declared.stop.Stop.TheVariants.{OutOfMemory}
use Rattle.cmd_common.specs.Said.{Closes, said, unsaid}
use Rattle.cmd_common.proofs.Said.{closes_files}
use Rattle.cmd_common.specs.Files.{NoneFailed}
use Rattle.cmd_common.proofs.Told.{done_files}
use Rattle.cmd_runs.specs.Keeping.{named_if, KeepsDisk, DiskWriteStops, no_memory, failed, host_memory, DiskKeepStops, DiskAlone}
use Rattle.cmd_runs.specs.Lasts.{steps_line, SaysEnd}

-- ---- the disk's file alone

pub same_alone : (name : Option (List ℕ)) (old new : HostState) → SameFiles old new → DiskAlone name old new
same_alone None old new s = s
same_alone (Some name) old new s = λ other ne. s other

pub alone_after : (name : Option (List ℕ)) (old mid new : HostState) → SameFiles old mid → DiskAlone name mid new → DiskAlone name old new
alone_after None old mid new s d = λ other. d other ∙ s other
alone_after (Some name) old mid new s d = λ other ne. d other ne ∙ s other

pub alone_then : (name : Option (List ℕ)) (old mid new : HostState) → DiskAlone name old mid → SameFiles mid new → DiskAlone name old new
alone_then None old mid new d s = λ other. s other ∙ d other
alone_then (Some name) old mid new d s = λ other ne. s other ∙ d other ne

same_file : (old new : HostState) → new ≡ old → SameFiles old new
same_file old new e = λ other. ap (λ (h : HostState). h.file other) e

pub alone_kept : (b : Bool) (name : Option (List ℕ)) (d : List Stored) (old new : HostState) → KeepsDisk (named_if b name) d old new → DiskAlone name old new
alone_kept true None d old new k = same_file old new k
alone_kept true (Some name) d old new k = k.only.files
alone_kept false name d old new k = same_alone name old new (same_file old new k)

lost_files : (name : List ℕ) (d : List Stored) (old new : HostState) (stop : Stop) → DiskWriteStops name d old new stop → OnlyFileChanged old new name
lost_files name d old new _ (no_memory e) = λ other ne. same_file old new e other
lost_files name d old new _ (failed f) = f.only.files
lost_files name d old new _ (host_memory f) = f.only.files

pub alone_lost : (b : Bool) (name : Option (List ℕ)) (d : List Stored) (old new : HostState) (stop : Stop) → DiskKeepStops (named_if b name) d old new stop → DiskAlone name old new
alone_lost true None d old new stop s = absurd s
alone_lost true (Some name) d old new stop s = lost_files name d old new stop s
alone_lost false name d old new stop s = absurd s

-- ---- the counts

pub kept_counted : (name : Option (List ℕ)) (d : List Stored) (old new : HostState) → KeepsDisk name d old new → SameFaults old new
kept_counted None d old new k = subst (SameFaults old) (sym k) (SameFaults-refl old)
kept_counted (Some name) d old new k = k.counted

-- where no call failed, only want of memory loses the disk
module _ (old run mid new : HostState) (none : NoneFailed old new) (same : SameFaults old run) (le : mid.write_faults ≤ new.write_faults) where
  not_failed : HasRisen run.write_faults mid.write_faults → ⊥
  not_failed f =
      let e = same.writes in
      none.writes (⊎_elim (λ r. inl (omega (arith, r, le, e))) (λ l. inr (omega (arith, l, le))) f)

  by_write : (name : List ℕ) (d : List Stored) (stop : Stop) → DiskWriteStops name d run mid stop → stop ≡ OutOfMemory
  by_write name d _ (no_memory e) = refl
  by_write name d _ (failed f) = absurd (not_failed f.cause)
  by_write name d _ (host_memory f) = refl

  pub lost_by_memory : (name : Option (List ℕ)) (d : List Stored) (stop : Stop) → DiskKeepStops name d run mid stop → stop ≡ OutOfMemory
  lost_by_memory None d stop s = absurd s
  lost_by_memory (Some name) d stop s = by_write name d stop s

-- ---- what is said last

pub closes_writes : (names : FileNames) (stop : Stop) (old new : HostState) (status : ℕ) → Closes names stop old new status → old.write_faults ≤ new.write_faults
closes_writes names stop old new status (said e s) = s.only.writes
closes_writes names stop old new status (unsaid n e s) = s.only.writes

pub ending_files : (names : FileNames) (second : Option ℕ) (came : Result ℕ Stop) (old new : HostState) (status : ℕ) → SaysEnd names second came old new status → SameFiles old new
ending_files names second (Ok steps) old new status e = done_files (steps_line second steps) old new status e
ending_files names second (Err stop) old new status e = closes_files names stop old new status e
