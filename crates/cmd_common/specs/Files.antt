-- The files that a run reads, and why one of them is not read.
use Rattle.std.specs.Prelude.{◌≡◌, ℕ, ◌≤◌, List, [], length, Option, Some, None}
use Rattle.host.specs.Host.{HostState, Holds, IsFile, HasRisen, SameFaults}
use Rattle.host.specs.Host.{ReadFailed as ReadFails}
use Rattle.host_files.specs.Transfer.{IsLonger}
use Rattle.cmd_common.specs.declared.names.InputFile.{InputFile}
use Rattle.cmd_common.specs.declared.stop.Stop.{Stop}
use Rattle.cmd_common.specs.declared.stop.Stop.TheVariants.{ReadFailed, OutOfMemory, FileTooLong}

-- the most bytes of a text, and of a source, the console's input or the bytes of the ports
abbrev pub text_limit : ℕ
text_limit = 16777216

abbrev pub input_limit : ℕ
input_limit = 1048576

-- these bytes are the file of a name, where the host tells it, and within a limit
abbrev pub IsWholeFile : HostState → List ℕ → ℕ → List ℕ → Type 0
IsWholeFile old name limit bytes = IsFile (old.file name) bytes × (length bytes ≤ limit)

-- the console's input, or the bytes of the ports: none, or a whole file
abbrev pub IsInput : HostState → Option (List ℕ) → List ℕ → Type 0
IsInput old None bytes = bytes ≡ []
IsInput old (Some name) bytes = IsWholeFile old name input_limit bytes

-- why a file of a command, of this name, was not read: a read failed, or it is longer than the limit, or memory ran out
pub data ReadStops (file : InputFile) (name : List ℕ) (limit : ℕ) (old new : HostState) : Stop → Type 0 where
  failed : ReadFails old new name → ReadStops file name limit old new (ReadFailed file)
  too_long : IsLonger (old.file name) limit → SameFaults old new → ReadStops file name limit old new (FileTooLong file)
  no_memory : ReadStops file name limit old new OutOfMemory

abbrev pub InputStops : InputFile → Option (List ℕ) → HostState → HostState → Stop → Type 0
InputStops file None old new stop = ⊥
InputStops file (Some name) old new stop = ReadStops file name input_limit old new stop

-- no call of the host failed: neither count of faults rose, or stands at its last value
pub record NoneFailed (old new : HostState) : Type 0 where
  pub reads : HasRisen old.read_faults new.read_faults → ⊥
  pub writes : HasRisen old.write_faults new.write_faults → ⊥

-- the host tells the file of a name, and it has these bytes, within a limit
abbrev pub FileIsTold : HostState → List ℕ → ℕ → List ℕ → Type 0
FileIsTold old name limit bytes = (old.file name ≡ Holds bytes) × (length bytes ≤ limit)

-- the console's input, or the bytes of the ports, likewise
abbrev pub InputIsTold : HostState → Option (List ℕ) → List ℕ → Type 0
InputIsTold old None bytes = bytes ≡ []
InputIsTold old (Some name) bytes = FileIsTold old name input_limit bytes
