-- Errors that are handed on; files that the host tells, where no call of it fails; what is said last.
use Rattle.std.proofs.Common.{◌≡◌, ℕ, ◌⊎◌, inl, inr, ⊎_elim, List, length, refl, sym, ap, ◌∙◌, subst, arith, Option, Some, None}
use Rattle.std.specs.Prelude.{Result, Ok, Err, IsErrAnd, IfErr}
use Rattle.host.specs.Host.{HostState, FileTold, Holds, Missing, IsFile, HasRisen, SameFiles, SameFaults}
use Rattle.host.specs.Host.{ReadFailed as ReadFails, WriteFailed as WriteFails}
use Rattle.host_files.specs.Transfer.{IsLonger}
use Rattle.cmd_common.specs.Names.{FileNames}
use Rattle.cmd_common.specs.declared.names.InputFile.{InputFile}
use Rattle.cmd_common.specs.declared.stop.Stop.{Stop}
use Rattle.cmd_common.specs.declared.stop.Stop.TheVariants.{OutOfMemory}
use Rattle.cmd_common.specs.Lines.{status_of}
use Rattle.cmd_common.specs.Said.{IsDone, whole, failed as unfinished, no_memory as out_of_memory, Closes, said, unsaid}
use Rattle.cmd_common.specs.Files.{input_limit, IsWholeFile, IsInput, ReadStops, failed, too_long, no_memory, InputStops, NoneFailed, FileIsTold, InputIsTold}

-- an error that is handed on is judged as it was
pub handed_on : {T E : Type 0} (r : Result T E) (error : E) (Q : E → Type 0) → IsErrAnd r (λ e. e ≡ error) → Q error → IfErr r Q
handed_on (Ok x) error Q e q = absurd e
handed_on (Err found) error Q e q = subst Q (sym e) q

-- what was read is what is told
told_file : (told : FileTold) (bytes read : List ℕ) → told ≡ Holds bytes → IsFile told read → bytes ≡ read
told_file told bytes read e h = subst (λ f. IsFile f read) e h

pub told_whole : (old : HostState) (name : List ℕ) (limit : ℕ) (bytes read : List ℕ) → FileIsTold old name limit bytes → IsWholeFile old name limit read → read ≡ bytes
told_whole old name limit bytes read t w = sym (told_file (old.file name) bytes read t.0 w.0)

pub told_input : (old : HostState) (i : Option (List ℕ)) (bytes read : List ℕ) → InputIsTold old i bytes → IsInput old i read → read ≡ bytes
told_input old None bytes read t w = w ∙ sym t
told_input old (Some name) bytes read t w = told_whole old name input_limit bytes read t w

-- only want of memory stops a read
not_failed : (old mid new : HostState) (name bytes : List ℕ) → NoneFailed old new → new.read_faults ≡ mid.read_faults → old.file name ≡ Holds bytes → ReadFails old mid name → ⊥
not_failed old mid new name bytes none e t f =
    ⊎_elim
    (λ r. none.reads (subst (HasRisen old.read_faults) (sym e) r))
    (λ m. let g : Holds bytes ≡ Missing = sym t ∙ m in cc)
    f

not_longer : (old : HostState) (name bytes : List ℕ) (limit : ℕ) → FileIsTold old name limit bytes → IsLonger (old.file name) limit → ⊥
not_longer old name bytes limit t l =
    let same : bytes ≡ l.0 = told_file (old.file name) bytes l.0 t.0 l.1 in
    let size : length bytes ≡ length l.0 = ap length same in
    let few = t.1 in
    let many = l.2 in
    omega (arith, size, few, many)

pub read_stops : (old mid new : HostState) (file : InputFile) (name : List ℕ) (limit : ℕ) (bytes : List ℕ) (stop : Stop) → NoneFailed old new → new.read_faults ≡ mid.read_faults → FileIsTold old name limit bytes → ReadStops file name limit old mid stop → stop ≡ OutOfMemory
read_stops old mid new file name limit bytes _ none e t (failed f) = absurd (not_failed old mid new name bytes none e t.0 f)
read_stops old mid new file name limit bytes _ none e t (too_long l s) = absurd (not_longer old name bytes limit t l)
read_stops old mid new file name limit bytes _ none e t no_memory = refl

pub input_stops : (old mid new : HostState) (file : InputFile) (i : Option (List ℕ)) (bytes : List ℕ) (stop : Stop) → NoneFailed old new → new.read_faults ≡ mid.read_faults → InputIsTold old i bytes → InputStops file i old mid stop → stop ≡ OutOfMemory
input_stops old mid new file None bytes stop none e t s = absurd s
input_stops old mid new file (Some name) bytes stop none e t s = read_stops old mid new file name input_limit bytes stop none e t s

-- no write failed behind what failed none
pub not_unsaid : (old mid new : HostState) → NoneFailed old new → SameFaults old mid → WriteFails mid new → ⊥
not_unsaid old mid new none same f = none.writes (subst (λ n. HasRisen n new.write_faults) same.writes f)

-- the reads are those before the last line
pub closes_reads : (names : FileNames) (stop : Stop) (mid new : HostState) (status : ℕ) → Closes names stop mid new status → new.read_faults ≡ mid.read_faults
closes_reads names stop mid new status (said e s) = s.only.reads
closes_reads names stop mid new status (unsaid n e s) = s.only.reads

pub closes_status : (names : FileNames) (stop : Stop) (mid new : HostState) (status : ℕ) → Closes names stop mid new status → (status ≡ 5) ⊎ (status ≡ status_of stop)
closes_status names stop mid new status (said e s) = inr e
closes_status names stop mid new status (unsaid n e s) = inl e

pub memory_status : (names : FileNames) (stop : Stop) (mid new : HostState) (status : ℕ) → stop ≡ OutOfMemory → Closes names stop mid new status → status ≡ 5
memory_status names stop mid new status e (said s l) = s ∙ ap status_of e
memory_status names stop mid new status e (unsaid n s l) = s

-- what is said last changes no file
pub done_files : (line : List ℕ) (old new : HostState) (status : ℕ) → IsDone line old new status → SameFiles old new
done_files line old new _ (whole only s counted) = only.files
done_files line old new _ (unfinished s) = s.only.files
done_files line old new _ (out_of_memory s) = s.only.files
