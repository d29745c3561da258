-- Disks: a finite map from names to lists of records, as the list of its files in ascending order of their names. At most 64
-- files and 8,000 records are on a disk.
use Rattle.std.specs.Prelude.{◌≡◌, ℕ, ◌+◌, ◌-◌, ◌≤◌, ◌&&◌, not, Bool, true, cond, List, [], ◌∷◌, ◌++◌, map, length, replicate, slice_set, Option, Some, None}
use Rattle.std.specs.List.{All, filter, find, list_any, sum_by}
use Rattle.std.specs.Str.{bytes_eq}
use Rattle.bdos_small.specs.Names.{is_file_name, is_before, is_after, matches}
use Rattle.bdos_small.specs.Stored.{Stored, zero_record}

-- a file that a disk may have
pub record IsStoredFile (f : Stored) : Type 0 where
  pub name : is_file_name f.name ≡ true
  pub records : All (λ r. length r ≡ 128) f.records

-- files in strictly ascending order of their names, all of them after a name if there is one
abbrev pub AreFilesAfter : Option (List ℕ) → List Stored → Type 0
AreFilesAfter last [] = Unit {0}
AreFilesAfter last (f ∷ fs) = IsStoredFile f × (is_after last f.name ≡ true) × AreFilesAfter (Some f.name) fs

-- the number of records of all files
abbrev pub records_in : List Stored → ℕ
records_in d = sum_by (λ f. length f.records) d

pub record IsDisk (d : List Stored) : Type 0 where
  pub files : AreFilesAfter None d
  pub few : length d ≤ 64
  pub small : records_in d ≤ 8000

-- the file of a name
abbrev pub has_name : List ℕ → Stored → Bool
has_name name f = bytes_eq f.name name

abbrev pub file_named : List ℕ → List Stored → Option Stored
file_named name d = find (has_name name) d

-- a file whose name matches a pattern
abbrev pub has_match : List ℕ → Stored → Bool
has_match pattern f = matches pattern f.name

-- the first file whose name matches and comes after a name, if there is one
abbrev pub next_matching : List ℕ → Option (List ℕ) → List Stored → Option Stored
next_matching pattern last d = find (λ f. has_match pattern f && is_after last f.name) d

-- the first of all whose names match
abbrev pub first_matching : List ℕ → List Stored → Option Stored
first_matching pattern d = next_matching pattern None d

abbrev pub any_matching : List ℕ → List Stored → Bool
any_matching pattern d = list_any (has_match pattern) d

-- the disk without the files whose names match
abbrev pub without_matching : List ℕ → List Stored → List Stored
without_matching pattern d = filter (λ f. not (has_match pattern f)) d

-- the disk with one file more: the files before it, the file, and those after it
abbrev pub with_file : Stored → List Stored → List Stored
with_file f d = filter (λ g. is_before g.name f.name) d ++ f ∷ filter (λ g. is_before f.name g.name) d

-- the disk without the file of a name
abbrev pub without_file : List ℕ → List Stored → List Stored
without_file name d = filter (λ f. not (has_name name f)) d

-- the disk on which the file of a name has other records
abbrev pub given : List ℕ → List (List ℕ) → Stored → Stored
given name records f = cond (has_name name f) (record { name = f.name; records = records }) f

abbrev pub with_records : List ℕ → List (List ℕ) → List Stored → List Stored
with_records name records d = map (given name records) d

-- how many records a file grows by where a record is written at a position
abbrev pub growth : ℕ → List (List ℕ) → ℕ
growth position records = position + 1 - length records

-- the records after a record is written at a position: where the file was shorter, records of zeros stand before it
abbrev pub written_at : ℕ → List ℕ → List (List ℕ) → List (List ℕ)
written_at position r records = slice_set (records ++ replicate (growth position records) zero_record) position r
