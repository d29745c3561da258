-- What a host tells of the files and of what was said, its counts of faults, and what a call may change.
use Rattle.std.specs.Prelude.{◌≡◌, ◌≢◌, ℕ, ◌+◌, ◌-◌, ◌^◌, ◌<◌, ◌≤◌, ◌⊎◌, ◌↔◌, List, ◌++◌, length, take, drop, Option, Some, None, Result, Ok, Err, if◌then◌else◌, nat_lt}
use Rattle.host.specs.declared.HostFault.{HostFault}
use Rattle.host.specs.declared.HostFault.TheVariants.{Failed, Memory}

-- what a host tells of the file of a name: nothing, that there is no such file, or the bytes that it holds
pub data FileTold : Type 0 where
  Untold : FileTold
  Missing : FileTold
  Holds : (bytes : List ℕ) → FileTold

-- a host as its callers see it: each file by the bytes of its name, what was said so far (None where the host does not
-- tell it), how many of its reads and how many of its writes (begin, append and say) failed, and how many of all its calls wanted
-- memory
pub record HostState : Type 0 where
  pub file : List ℕ → FileTold
  pub said : Option (List ℕ)
  pub read_faults : ℕ
  pub write_faults : ℕ
  pub memory_faults : ℕ

-- a count of faults is a 64-bit number, and stands still at the last of them
abbrev pub last_count : ℕ
last_count = 2 ^ 64 - 1

-- a count of faults after one more
abbrev pub one_more : ℕ → ℕ
one_more count = if nat_lt count last_count then count + 1 else count

-- a count of calls that failed after a call, by its answer: want of memory is not counted there
abbrev pub failures_by : HostFault → ℕ → ℕ
failures_by Failed count = one_more count
failures_by Memory count = count

abbrev pub failures_after : {T : Type 0} → Result T HostFault → ℕ → ℕ
failures_after (Ok answer) count = count
failures_after (Err fault) count = failures_by fault count

-- the count of calls that wanted memory after a call, by its answer
abbrev pub wants_by : HostFault → ℕ → ℕ
wants_by Failed count = count
wants_by Memory count = one_more count

abbrev pub wants_after : {T : Type 0} → Result T HostFault → ℕ → ℕ
wants_after (Ok answer) count = count
wants_after (Err fault) count = wants_by fault count

-- the count rose, or stands at its last value
abbrev pub HasRisen : ℕ → ℕ → Type 0
HasRisen old new = (old < new) ⊎ (last_count ≤ new)

-- these bytes are the file, where the host tells it
abbrev pub IsFile : FileTold → List ℕ → Type 0
IsFile Untold bytes = Unit {0}
IsFile Missing bytes = ⊥
IsFile (Holds held) bytes = held ≡ bytes

-- the file with these bytes in place of what it held
abbrev pub rewritten : FileTold → List ℕ → FileTold
rewritten Untold bytes = Untold
rewritten Missing bytes = Holds bytes
rewritten (Holds held) bytes = Holds bytes

-- the file with these bytes at its end; a file that is not there counts as empty
abbrev pub appended : FileTold → List ℕ → FileTold
appended Untold bytes = Untold
appended Missing bytes = Holds bytes
appended (Holds held) bytes = Holds (held ++ bytes)

-- what was said, with these bytes at its end
abbrev pub said_more : Option (List ℕ) → List ℕ → Option (List ℕ)
said_more None bytes = None
said_more (Some said) bytes = Some (said ++ bytes)

-- the first k bytes of `into` are those of the file from `at`; k is 0 exactly at or past the file's end
pub record ReadsBytes (held : List ℕ) (at k : ℕ) (into : List ℕ) : Type 0 where
  pub same : take k into ≡ take k (drop at held)
  pub within : k ≤ length held - at
  pub ends : (k ≡ 0) ↔ (length held ≤ at)

-- the same, where the host tells the file; a file that is told to be missing is never read
abbrev pub ReadsFile : FileTold → ℕ → ℕ → List ℕ → Type 0
ReadsFile Untold at k into = Unit {0}
ReadsFile Missing at k into = ⊥
ReadsFile (Holds held) at k into = ReadsBytes held at k into

module _ (old new : HostState) where
  -- every file is as before
  abbrev pub SameFiles : Type 0
  SameFiles = (name : List ℕ) → new.file name ≡ old.file name

  -- every file is as before, but maybe the one of this name
  abbrev pub OnlyFileChanged : List ℕ → Type 0
  OnlyFileChanged name = (other : List ℕ) → other ≢ name → new.file other ≡ old.file other

  -- nothing was said
  abbrev pub SameSaid : Type 0
  SameSaid = new.said ≡ old.said

  -- these bytes were said
  abbrev pub Says : List ℕ → Type 0
  Says bytes = new.said ≡ said_more old.said bytes

  -- the file of this name now holds these bytes and no others
  abbrev pub Rewrites : List ℕ → List ℕ → Type 0
  Rewrites name bytes = new.file name ≡ rewritten (old.file name) bytes

  -- these bytes were added at the end of the file of this name
  abbrev pub Appends : List ℕ → List ℕ → Type 0
  Appends name bytes = new.file name ≡ appended (old.file name) bytes

  -- no fault was counted
  pub record SameFaults : Type 0 where
    pub reads : new.read_faults ≡ old.read_faults
    pub writes : new.write_faults ≡ old.write_faults
    pub memory : new.memory_faults ≡ old.memory_faults

  -- every file and what was said are as before
  pub record IsUndisturbed : Type 0 where
    pub files : SameFiles
    pub said : SameSaid

  -- what reads may change: their own count and that of memory, which do not fall
  pub record OnlyReads : Type 0 where
    pub files : SameFiles
    pub said : SameSaid
    pub writes : new.write_faults ≡ old.write_faults
    pub reads : old.read_faults ≤ new.read_faults
    pub memory : old.memory_faults ≤ new.memory_faults

  -- what writes to the file of this name may change: that file, and their own count and that of memory, which do not fall
  pub record OnlyWrites (name : List ℕ) : Type 0 where
    pub files : OnlyFileChanged name
    pub said : SameSaid
    pub reads : new.read_faults ≡ old.read_faults
    pub writes : old.write_faults ≤ new.write_faults
    pub memory : old.memory_faults ≤ new.memory_faults

  -- what saying may change: what was said, and the counts of the writes and of memory, which do not fall
  pub record OnlySays : Type 0 where
    pub files : SameFiles
    pub reads : new.read_faults ≡ old.read_faults
    pub writes : old.write_faults ≤ new.write_faults
    pub memory : old.memory_faults ≤ new.memory_faults

  -- the cause of a read that failed: the count of such reads, or that there is no file of that name
  abbrev pub ReadFailed : List ℕ → Type 0
  ReadFailed name = HasRisen old.read_faults new.read_faults ⊎ (old.file name ≡ Missing)

  -- the cause of a `begin`, an `append` or a `say` that failed
  abbrev pub WriteFailed : Type 0
  WriteFailed = HasRisen old.write_faults new.write_faults

  -- the cause of any call that wanted memory
  abbrev pub MemoryWanted : Type 0
  MemoryWanted = HasRisen old.memory_faults new.memory_faults

  -- the cause of a `begin`, an `append` or a `say` that answers a fault
  abbrev pub WriteFault : HostFault → Type 0
  WriteFault Failed = WriteFailed
  WriteFault Memory = MemoryWanted

  -- a fault is counted as what it is alone: a failure is no want of memory, and want of memory no failure
  abbrev pub CountsAlone : HostFault → Type 0
  CountsAlone Failed = new.memory_faults ≡ old.memory_faults
  CountsAlone Memory = (new.read_faults ≡ old.read_faults) × (new.write_faults ≡ old.write_faults)
