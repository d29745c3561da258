-- What a disk file is read as, part by part.
use Rattle.std.specs.Prelude.{◌≡◌, ℕ, ◌+◌, ◌≤◌, List, ◌++◌, length, drop, Option}
use Rattle.std.specs.List.{All}
use Rattle.bdos_small.specs.Names.{IsNameBetween}
use Rattle.bdos_small.specs.declared.reading.Stop.{Stop}
use Rattle.bdos_small.specs.declared.reading.Stop.TheVariants.{At, Memory}
use Rattle.bdos_small.specs.declared.fault.DiskFault.{DiskFault}
use Rattle.bdos_small.specs.declared.fault.DiskFault.TheVariants.{Bad, Memory as HasNoMemory}
use Rattle.bdos_small.specs.Stored.{Stored}
use Rattle.bdos_small.specs.Disks.{AreFilesAfter, records_in}
use Rattle.bdos_small.specs.DiskFile.{file_bytes, IsBadAt}

-- so many files that come after a name and have at most so many records
pub record AreFiles (last : Option (List ℕ)) (count room : ℕ) (fs : List Stored) : Type 0 where
  pub files : AreFilesAfter last fs
  pub count_is : length fs ≡ count
  pub small : records_in fs ≤ room

-- the next of `after` + 1 such files, in front of the bytes
pub record IsNextFile (last : Option (List ℕ)) (after room : ℕ) (bytes : List ℕ) (f : Stored) (used : ℕ) : Type 0 where
  pub name : IsNameBetween last after f.name
  pub records : All (λ r. length r ≡ 128) f.records
  pub small : length f.records ≤ room
  pub bytes_are : bytes ≡ file_bytes f ++ drop used bytes
  pub within : used ≤ length bytes

-- why a reading stops
abbrev pub StopsBy : (ℕ → Type 0) → Stop → Type 0
StopsBy P (At k) = P k
StopsBy P Memory = Unit {0}

-- the same place, counted from so many bytes before
abbrev pub stop_after : ℕ → Stop → Stop
stop_after n (At k) = At (n + k)
stop_after n Memory = Memory

abbrev pub fault_of : Stop → DiskFault
fault_of (At k) = Bad k
fault_of Memory = HasNoMemory

-- why bytes are no disk
abbrev pub IsDiskFaultOf : List ℕ → DiskFault → Type 0
IsDiskFaultOf bytes (Bad k) = IsBadAt bytes k
IsDiskFaultOf bytes HasNoMemory = Unit {0}
