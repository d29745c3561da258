-- What is told of a file after a first read is told before it.
use Rattle.std.proofs.Common.{ℕ, inl, inr, ⊎_elim, List, sym, ◌∙◌, subst}
use Rattle.host.specs.Host.{HostState, IsFile, HasRisen, OnlyReads, SameFaults}
use Rattle.host.proofs.HostLemmas.{SameFaults-trans}
use Rattle.host_files.specs.Transfer.{IsLonger}
use Rattle.cmd_common.specs.declared.names.InputFile.{InputFile}
use Rattle.cmd_common.specs.declared.stop.Stop.{Stop}
use Rattle.cmd_common.specs.Files.{IsWholeFile, ReadStops, failed, too_long, no_memory}

pub whole_before : (old mid : HostState) → OnlyReads old mid → (name : List ℕ) (limit : ℕ) (bytes : List ℕ) → IsWholeFile mid name limit bytes → IsWholeFile old name limit bytes
whole_before old mid only name limit bytes w = (subst (λ f. IsFile f bytes) (only.files name) w.0, w.1)

pub stops_before : (old mid new : HostState) → OnlyReads old mid → SameFaults old mid → (file : InputFile) (name : List ℕ) (limit : ℕ) (stop : Stop) → ReadStops file name limit mid new stop → ReadStops file name limit old new stop
stops_before old mid new only counted file name limit _ (failed f) = failed (⊎_elim (λ r. inl (subst (λ n. HasRisen n new.read_faults) counted.reads r)) (λ m. inr (sym (only.files name) ∙ m)) f)
stops_before old mid new only counted file name limit _ (too_long l s) = too_long (subst (λ f. IsLonger f limit) (only.files name) l) (SameFaults-trans counted s)
stops_before old mid new only counted file name limit _ no_memory = no_memory
