-- A fault of the host, handed on by a reader of files.
use Rattle.std.proofs.Common.{◌≡◌, ℕ, List, Result, Ok, Err, ◌∙◌, sym, inl, inr, ⊎_elim}
use Rattle.std.specs.Prelude.{IsErrAnd}
use Rattle.host.specs.declared.HostFault.{HostFault}
use Rattle.host.specs.declared.HostFault.TheVariants.{Failed, Memory}
use Rattle.host.specs.Host.{HostState, OnlyReads, ReadFailed}
use Rattle.host.proofs.HostLemmas.{risen_after}
use Rattle.host_files.specs.declared.read.FileFault.{FileFault}
use Rattle.host_files.specs.declared.read.FileFault.TheVariants.{Failed as NoFile, TooLong, Memory as OutOfMemory}
use Rattle.host_files.specs.Transfer.{read_fault_of}

-- no answer is a fault
pub no_fault : {T : Type 0} (x : T) (e : FileFault) → ◌≡◌ {A = Result T FileFault} (Ok x) (Err e) → ⊥
no_fault x e is = cc

-- no fault of the host is that a file is too long
pub not_too_long : {T : Type 0} (r : Result T FileFault) (fault : HostFault) → IsErrAnd r (λ e. e ≡ read_fault_of fault) → r ≡ Err TooLong → ⊥
not_too_long (Ok x) fault is e = is
not_too_long (Err f) Failed is e = cc
not_too_long (Err f) Memory is e = cc

-- what failed after reads that met no fault
failed_after : {a b : HostState} (c : HostState) (name : List ℕ) → OnlyReads a b → ReadFailed b c name → ReadFailed a c name
failed_after {a = a} {b = b} c name only h =
    ⊎_elim (λ r. inl (risen_after a.read_faults b.read_faults c.read_faults only.reads r)) (λ none. inr (sym (only.files name) ∙ none)) h

pub read_failed_after : {T U : Type 0} {a b : HostState} (c : HostState) (r : Result T FileFault) (q : Result U HostFault) (fault : HostFault) (name : List ℕ) → IsErrAnd r (λ e. e ≡ read_fault_of fault) → q ≡ Err fault → OnlyReads a b → (q ≡ Err Failed → ReadFailed b c name) → r ≡ Err NoFile → ReadFailed a c name
read_failed_after c (Ok x) q fault name is was only h e = absurd is
read_failed_after c (Err f) q Failed name is was only h e = failed_after c name only (h was)
read_failed_after c (Err f) q Memory name is was only h e = cc

-- want of memory is neither
pub wanted_memory : {T : Type 0} (r : Result T FileFault) → IsErrAnd r (λ e. e ≡ OutOfMemory) → r ≡ Err NoFile → ⊥
wanted_memory (Ok x) is e = is
wanted_memory (Err f) is e = cc

-- and a file that is too long was read
pub only_too_long : {T : Type 0} → ◌≡◌ {A = Result T FileFault} (Err TooLong) (Err NoFile) → ⊥
only_too_long e = cc
