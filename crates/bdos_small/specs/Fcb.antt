-- The file control block (FCB) and the position that it tells (CP/M 2.2 Operating System Manual, section 5.2, "Operating System Call
-- Conventions"). Byte 0 is the drive, bytes 1 to 11 are the name, byte 12 is the extent (ex), byte 14 the extent's high part (s2),
-- byte 15 the number of the extent's records (rc), byte 32 the record within the extent (cr); bytes 33 to 35 are the random
-- record. An extent has 128 records of 128 bytes.
use Rattle.std.specs.Prelude.{ℕ, ◌+◌, ◌-◌, ◌*◌, ◌/◌, ◌%◌, min, List, [], ◌∷◌, ◌++◌, replicate, slice_index}

abbrev pub drive_in : List ℕ → ℕ
drive_in fcb = slice_index fcb 0

abbrev pub extent_in : List ℕ → ℕ
extent_in fcb = slice_index fcb 12

-- the position of a record in its file
abbrev pub position_of : ℕ → ℕ → ℕ → ℕ
position_of ex s2 cr = 4096 * (s2 % 16) + 128 * (ex % 32) + cr % 128

abbrev pub position_in : List ℕ → ℕ
position_in fcb = position_of (slice_index fcb 12) (slice_index fcb 14) (slice_index fcb 32)

-- the random position, by bytes 33 and 34
abbrev pub random_position : List ℕ → ℕ
random_position random = slice_index random 0 + 256 * slice_index random 1

-- the records of an extent that begins with record `start` of a file with so many records
abbrev pub records_from : ℕ → ℕ → ℕ
records_from start count = min 128 (count - start)

-- bytes 12 to 32 that tell a position of a file with so many records
abbrev pub fields_at : ℕ → ℕ → List ℕ
fields_at position count =
    (position / 128 % 32) ∷ (0 ∷ ((position / 4096) ∷ (records_from (position / 128 * 128) count ∷ (replicate 16 0 ++ (position % 128) ∷ []))))

-- bytes 0 to 31 of an FCB at an extent of a file with so many records
abbrev pub opened_fcb : ℕ → List ℕ → ℕ → ℕ → List ℕ
opened_fcb drive name ex count = drive ∷ (name ++ (ex ∷ (0 ∷ (0 ∷ (records_from (128 * ex) count ∷ replicate 16 0)))))

-- a file in the directory, as a search finds it: 128 bytes
abbrev pub directory_entry : List ℕ → ℕ → List ℕ
directory_entry name count = opened_fcb 0 name 0 count ++ replicate 96 0xE5

-- a number below 65,536 in bytes 33 to 35
abbrev pub random_bytes : ℕ → List ℕ
random_bytes n = n % 256 ∷ (n / 256 ∷ (0 ∷ []))
