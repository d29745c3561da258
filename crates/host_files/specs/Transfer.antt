-- What reading a whole file in pieces, and writing one, can come to.
use Rattle.std.specs.Prelude.{◌≡◌, ℕ, ◌<◌, ◌≤◌, ◌⊎◌, List, [], ◌∷◌, ◌++◌, length, take}
use Rattle.host.specs.declared.HostFault.{HostFault}
use Rattle.host.specs.declared.HostFault.TheVariants.{Failed, Memory}
use Rattle.host.specs.Host.{FileTold, HostState, IsFile, appended, Says, Rewrites}
use Rattle.host_files.specs.declared.read.FileFault.{FileFault}
use Rattle.host_files.specs.declared.read.FileFault.TheVariants.{Failed as ReadFailed, Memory as ReadMemory}

-- the file has more bytes than the limit, where the host tells it; a file that is told to be missing has none
abbrev pub IsLonger : FileTold → ℕ → Type 0
IsLonger told limit = (bytes : List ℕ) × IsFile told bytes × (limit < length bytes)

-- the whole file, of at most so many bytes, was given to what takes its bytes, behind those that it had
pub record GivesFile {S : Type 0} (has : S → List ℕ → Type 0) (told : FileTold) (limit : ℕ) (old new : S) : Type 0 where
  pub bytes : List ℕ
  pub whole : IsFile told bytes
  pub within : length bytes ≤ limit
  pub given : (before : List ℕ) → has old before → has new (before ++ bytes)

-- what a fault of the host is to the reader of a whole file
abbrev pub read_fault_of : HostFault → FileFault
read_fault_of Failed = ReadFailed
read_fault_of Memory = ReadMemory

-- the file with these bytes added at its end in any number of pieces: where there are none, none was added
abbrev pub extended : FileTold → List ℕ → FileTold
extended told [] = told
extended told (byte ∷ bytes) = appended told (byte ∷ bytes)

-- the file is as before, or holds first bytes of the text and no others: not all of them
abbrev pub IsBeforeOrPart : HostState → HostState → List ℕ → List ℕ → Type 0
IsBeforeOrPart old new name text = (new.file name ≡ old.file name) ⊎ ((k : ℕ) × (k < length text) × Rewrites old new name (take k text))

-- first bytes of a line were said: not all of them
pub record CutsLine (line : List ℕ) (old new : HostState) : Type 0 where
  pub count : ℕ
  pub short : count < length line
  pub said : Says old new (take count line)
