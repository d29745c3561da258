-- Records of HEX files, and the lines that spell them (Intel, "Hexadecimal Object File Format Specification", "General Record Format",
-- "Data Record", "End of File Record"). After the record mark `:` each byte is two hexadecimal digits, here of either case. Of all types
-- of records these are data, 00, and the end of the file, 01; a record of no data ends the file under type 00 too.
use Rattle.std.specs.Prelude.{◌≡◌, ℕ, ◌+◌, ◌/◌, ◌%◌, ◌≤◌, List, [], ◌∷◌, ◌++◌, length, Ok}
use Rattle.std.specs.List.{sum}
use Rattle.hex.specs.Hex.{decode_of}

-- LOAD OFFSET, RECTYP, DATA and CHKSUM; RECLEN is the number of the data bytes
pub record Record : Type 0 where
  pub address : ℕ
  pub kind : ℕ
  pub «data» : List ℕ
  pub check : ℕ

-- the bytes before the check byte: how many data bytes there are, the address, high byte first, the type, the data
abbrev pub checked_bytes : Record → List ℕ
checked_bytes r = length r.data ∷ (r.address / 256 ∷ (r.address % 256 ∷ (r.kind ∷ r.data)))

-- the bytes of a record
abbrev pub record_bytes : Record → List ℕ
record_bytes r = checked_bytes r ++ r.check ∷ []

-- the bytes are those of some record, and add up to 0 in eight bits
abbrev pub AreOfRecord : List ℕ → Type 0
AreOfRecord bytes = (r : Record) × (bytes ≡ record_bytes r) × (sum bytes % 256 ≡ 0)

-- the line spells the record, whose bytes add up to 0 in eight bits
pub record HasRecord (line : List ℕ) (r : Record) : Type 0 where
  pub digits : List ℕ
  pub marked : line ≡ 0x3A ∷ digits
  pub decoded : decode_of digits ≡ Ok (record_bytes r)
  pub sums_to_zero : sum (record_bytes r) % 256 ≡ 0

-- a record of data that stand below 10000H
pub record IsData (r : Record) : Type 0 where
  pub kind : r.kind ≡ 0
  pub some : 1 ≤ length r.data
  pub below : r.address + length r.data ≤ 0x10000

-- a record that ends a file, of type 00 or 01
pub record IsEnd (r : Record) : Type 0 where
  pub none : r.data ≡ []
  pub kind : r.kind ≤ 1

pub record IsDataLine (line : List ℕ) (r : Record) : Type 0 where
  pub spells : HasRecord line r
  pub has_data : IsData r

pub record IsEndLine (line : List ℕ) (r : Record) : Type 0 where
  pub spells : HasRecord line r
  pub ends : IsEnd r
