-- What a `MemHost` holds, and what each of its calls does to it.
use Rattle.std.specs.Prelude.{◌≡◌, ◌≢◌, ℕ, min, List, Contains, Option, Some, None, option_map, Result}
use Rattle.std.specs.BTreeMap.{get_by_text}
use Rattle.host.specs.Host.{FileTold, Missing, Holds, HostState, one_more, failures_after}
use Rattle.host.specs.declared.HostFault.{HostFault}
use Rattle.host.specs.declared.mem.MemHost.{MemHost}

-- the bytes of the file of a name, None where there is no such file
abbrev pub file_in_mem_host : MemHost → List ℕ → Option (List ℕ)
file_in_mem_host host name = option_map (λ held. held.items) (get_by_text host.files name)

-- the bytes said so far
abbrev pub said_of : MemHost → List ℕ
said_of host = host.said.items

-- the calls that fail
abbrev pub fails_of : MemHost → List ℕ
fails_of host = host.fails.items

-- how many calls of `read`, `begin`, `append` and `say` there were
abbrev pub calls_of : MemHost → ℕ
calls_of host = host.calls

-- how many reads failed
abbrev pub read_faults_of : MemHost → ℕ
read_faults_of host = host.read_faults

-- how many writes failed
abbrev pub write_faults_of : MemHost → ℕ
write_faults_of host = host.write_faults

-- how many calls wanted memory
abbrev pub memory_faults_of : MemHost → ℕ
memory_faults_of host = host.memory_faults

-- what is told of a file
abbrev pub told_of : Option (List ℕ) → FileTold
told_of None = Missing
told_of (Some bytes) = Holds bytes

-- a `MemHost` tells everything
abbrev pub state_of_mem_host : MemHost → HostState
state_of_mem_host host = record {
  file = λ name. told_of (file_in_mem_host host name);
  said = Some (said_of host);
  read_faults = read_faults_of host;
  write_faults = write_faults_of host;
  memory_faults = memory_faults_of host;
}

-- the next call, counted from 1, is among those that fail
abbrev pub NextFails : MemHost → Type 0
NextFails host = Contains (fails_of host) (one_more (calls_of host))

-- the count of the reads that failed after a read: a file that is not there is not counted
abbrev pub read_count_after : {T : Type 0} → Option (List ℕ) → Result T HostFault → ℕ → ℕ
read_count_after None result count = count
read_count_after (Some held) result count = failures_after result count

-- how many bytes one call takes of those that are there
abbrev pub piece_of : ℕ → ℕ
piece_of count = min 4096 count

module _ (old new : MemHost) where
  -- one more call was made, and the same calls fail
  pub record CountsCall : Type 0 where
    pub calls : calls_of new ≡ one_more (calls_of old)
    pub fails : fails_of new ≡ fails_of old

  -- no call was made, no fault counted, and the same calls fail
  pub record CountsNothing : Type 0 where
    pub calls : calls_of new ≡ calls_of old
    pub fails : fails_of new ≡ fails_of old
    pub read_faults : read_faults_of new ≡ read_faults_of old
    pub write_faults : write_faults_of new ≡ write_faults_of old
    pub memory_faults : memory_faults_of new ≡ memory_faults_of old

  -- every file is as before
  abbrev pub KeepsFiles : Type 0
  KeepsFiles = (name : List ℕ) → file_in_mem_host new name ≡ file_in_mem_host old name

  -- the file of this name holds these bytes, and every other file is as before
  pub record PutsFile (name bytes : List ℕ) : Type 0 where
    pub file : file_in_mem_host new name ≡ Some bytes
    pub others : (other : List ℕ) → other ≢ name → file_in_mem_host new other ≡ file_in_mem_host old other
