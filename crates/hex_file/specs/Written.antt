-- The file that is written of cells: records of at most 16 bytes, each on a line that CR LF end, in digits of upper case.
use Rattle.std.specs.Prelude.{◌≡◌, ℕ, ◌+◌, ◌-◌, ◌%◌, ◌<◌, ◌≤◌, List, [], ◌∷◌, ◌++◌, length, slice_index_or, codes}
use Rattle.std.specs.List.{All, sum, flat_map}
use Rattle.std.specs.List.Sorted.{IsStrictlyIncreasing}
use Rattle.std.specs.Map.{keys_of}
use Rattle.hex.specs.Hex.{encode_upper}
use Rattle.hex_file.specs.Records.{Record, checked_bytes, record_bytes}
use Rattle.hex_file.specs.HexFile.{record_cells}

-- the two's complement of the sum of bytes, in eight bits
abbrev pub complement_of_sum : List ℕ → ℕ
complement_of_sum bytes = (256 - sum bytes % 256) % 256

-- the address of the first of some cells
abbrev pub first_address : List (ℕ × ℕ) → ℕ
first_address cells = (slice_index_or cells 0 (0, 0)).0

-- the data record of adjacent cells, with its check byte
pub record IsRecordOf (run : List (ℕ × ℕ)) (r : Record) : Type 0 where
  pub cells : run ≡ record_cells r
  pub kind : r.kind ≡ 0
  pub check : r.check ≡ complement_of_sum (checked_bytes r)

-- the cells are those of a record and then the rest: adjacent cells from the front on, 16 of them or as many as there are
pub record BeginsWithRun (cells : List (ℕ × ℕ)) (r : Record) (rest : List (ℕ × ℕ)) : Type 0 where
  pub run : List (ℕ × ℕ)
  pub parts : cells ≡ run ++ rest
  pub written : IsRecordOf run r
  pub some : 1 ≤ length run
  pub most : length run ≤ 16
  pub longest : (byte : ℕ) (others : List (ℕ × ℕ)) → rest ≡ (r.address + length run, byte) ∷ others → length run ≡ 16

-- the records of cells, run by run
pub data AreRuns : List (ℕ × ℕ) → List Record → Type 0 where
  none : AreRuns [] []
  run : (cells rest : List (ℕ × ℕ)) (r : Record) (records : List Record) → BeginsWithRun cells r rest → AreRuns rest records → AreRuns cells (r ∷ records)

abbrev pub record_line : Record → List ℕ
record_line r = 0x3A ∷ (encode_upper (record_bytes r) ++ 13 ∷ (10 ∷ []))

abbrev pub end_line : List ℕ
end_line = codes ":00000001FF" ++ 13 ∷ (10 ∷ [])

-- the bytes are what is written of the cells
pub record IsWritten (cells : List (ℕ × ℕ)) (bytes : List ℕ) : Type 0 where
  pub records : List Record
  pub runs : AreRuns cells records
  pub is : bytes ≡ flat_map record_line records ++ end_line

-- cells of 16-bit addresses that ascend
pub record AreCells (cells : List (ℕ × ℕ)) : Type 0 where
  pub ascend : IsStrictlyIncreasing (keys_of cells)
  pub addresses : All (λ c. c.0 < 0x10000) cells
  pub bytes : All (λ c. c.1 < 256) cells
