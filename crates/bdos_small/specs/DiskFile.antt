-- The disk file: the bytes that keep a disk. `XLTDISK1`; the number of files as two bytes, the low one first; then for each file, in
-- order, its name, the number of its records as two bytes, the low one first, and its records. Nothing follows.
use Rattle.std.specs.Prelude.{◌≡◌, ℕ, ◌%◌, ◌/◌, List, [], ◌∷◌, ◌++◌, length, codes}
use Rattle.std.specs.List.{flat_map}
use Rattle.base.specs.Prefixes.{CannotGoOn}
use Rattle.bdos_small.specs.Stored.{Stored}
use Rattle.bdos_small.specs.Disks.{IsDisk}

abbrev pub disk_mark : List ℕ
disk_mark = codes "XLTDISK1"

-- a number below 65,536 as two bytes
abbrev pub word_bytes : ℕ → List ℕ
word_bytes n = n % 256 ∷ n / 256 ∷ []

abbrev pub all_records : List (List ℕ) → List ℕ
all_records records = flat_map (λ r. r) records

abbrev pub file_bytes : Stored → List ℕ
file_bytes f = f.name ++ (word_bytes (length f.records) ++ all_records f.records)

abbrev pub files_bytes : List Stored → List ℕ
files_bytes fs = flat_map file_bytes fs

abbrev pub disk_file : List Stored → List ℕ
disk_file d = disk_mark ++ (word_bytes (length d) ++ files_bytes d)

-- the bytes are the file of a disk
abbrev pub IsDiskFile : List ℕ → Type 0
IsDiskFile bytes = (d : List Stored) × IsDisk d × (bytes ≡ disk_file d)

-- bytes that are no disk file, and the first byte at which they cannot become one
abbrev pub IsBadAt : List ℕ → ℕ → Type 0
IsBadAt bytes k = CannotGoOn IsDiskFile bytes k
