-- What is said last, and the status that goes with it.
use Rattle.std.specs.Prelude.{◌≡◌, ℕ, ◌≤◌, ◌⊎◌, List, length, take, false, Result, Ok, Err}
use Rattle.host.specs.declared.HostFault.{HostFault}
use Rattle.host.specs.declared.HostFault.TheVariants.{Failed, Memory}
use Rattle.host.specs.Host.{HostState, Says, SameFaults, OnlySays, WriteFault}
use Rattle.host_files.specs.Transfer.{CutsLine}
use Rattle.cmd_common.specs.Names.{FileNames}
use Rattle.cmd_common.specs.declared.stop.Stop.{Stop}
use Rattle.cmd_common.specs.Lines.{status_of, is_fixed, line_of_stop, words_line, memory_line}

-- a line was said, or a prefix of it; the whole of it where no fault was counted, neither a write that failed nor a want of memory
pub record SaysLine (old new : HostState) (line : List ℕ) : Type 0 where
  pub count : ℕ
  pub said : Says old new (take count line)
  pub whole : (length line ≤ count) ⊎ ((fault : HostFault) × WriteFault old new fault)

-- a line is said whose fault changes no status
pub record SaysLast (text : List ℕ) (old new : HostState) : Type 0 where
  pub only : OnlySays old new
  pub line : SaysLine old new text

-- the words are refused
abbrev pub IsRefusedWords : HostState → HostState → ℕ → Type 0
IsRefusedWords old new status = (status ≡ 2) × SaysLast words_line old new

-- a fault cut a line off
pub record LosesLine (line : List ℕ) (fault : HostFault) (old new : HostState) : Type 0 where
  pub only : OnlySays old new
  pub cut : CutsLine line old new
  pub cause : WriteFault old new fault

-- what is said with status 0, a line or several, is said whole; or the host's fault is the status, 4 where a call failed and 5 where
-- one wanted memory, and it is not said whole
pub data IsDone (line : List ℕ) (old new : HostState) : ℕ → Type 0 where
  whole : OnlySays old new → Says old new line → SameFaults old new → IsDone line old new 0
  failed : LosesLine line Failed old new → IsDone line old new 4
  no_memory : LosesLine line Memory old new → IsDone line old new 5

-- the status by how what is said with status 0 was said
abbrev pub said_status : Result Unit HostFault → ℕ
said_status (Ok _) = 0
said_status (Err Failed) = 4
said_status (Err Memory) = 5

-- the line of a stop, with the name of its file, is said; want of memory for a line that needs some is a stop of its own
pub data Closes (names : FileNames) (stop : Stop) (old new : HostState) : ℕ → Type 0 where
  said : {status : ℕ} → status ≡ status_of stop → SaysLast (line_of_stop names stop) old new → Closes names stop old new status
  unsaid : {status : ℕ} → is_fixed stop ≡ false → status ≡ 5 → SaysLast memory_line old new → Closes names stop old new status
