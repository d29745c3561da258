-- HEX files: lines with data, and a line that ends them. What follows that line is not read.
use Rattle.std.specs.Prelude.{◌≡◌, ℕ, ◌+◌, List, [], ◌∷◌, ◌++◌, length}
use Rattle.std.specs.List.{fold, flat_map, enumerate_from, AllByRecursion}
use Rattle.std.specs.Ordering.{nat_cmp}
use Rattle.std.specs.BTreeMap.{insert_entry}
use Rattle.hex_file.specs.declared.fault.HexFault.{HexFault}
use Rattle.hex_file.specs.declared.fault.HexFault.TheVariants.{Bad, Memory}
use Rattle.hex_file.specs.Records.{Record, IsDataLine, IsEndLine}
use Rattle.hex_file.specs.Lines.{AreLines}

-- the lines are a file with these data records
pub data IsHex : List (List ℕ) → List Record → Type 0 where
  ended : (line : List ℕ) (lines : List (List ℕ)) (r : Record) → IsEndLine line r → IsHex (line ∷ lines) []
  more : (line : List ℕ) (lines : List (List ℕ)) (r : Record) (records : List Record) → IsDataLine line r → IsHex lines records → IsHex (line ∷ lines) (r ∷ records)

-- the cells of a record: address and byte, from its address up
abbrev pub record_cells : Record → List (ℕ × ℕ)
record_cells r = enumerate_from r.address r.data

-- a cell put to its place among cells whose addresses ascend; it replaces one of the same address
abbrev pub put_cell : List (ℕ × ℕ) → ℕ × ℕ → List (ℕ × ℕ)
put_cell cells c = insert_entry nat_cmp cells c.0 c.1

-- the cells of all records put so, in the order of the file
abbrev pub cells_of : List Record → List (ℕ × ℕ)
cells_of records = fold put_cell [] (flat_map record_cells records)

-- the bytes are a file with these cells
pub record IsHexOf (bytes : List ℕ) (cells : List (ℕ × ℕ)) : Type 0 where
  pub lines : List (List ℕ)
  pub records : List Record
  pub cut : AreLines bytes lines
  pub hex : IsHex lines records
  pub cells_are : cells ≡ cells_of records

-- ---- no file

abbrev pub HasData : List ℕ → Type 0
HasData line = (r : Record) × IsDataLine line r

-- the first line, if there is one, is neither a data line nor an end line
abbrev pub BeginsWithMisfit : List (List ℕ) → Type 0
BeginsWithMisfit [] = Unit {0}
BeginsWithMisfit (line ∷ lines) = (r : Record) → (IsDataLine line r → ⊥) × (IsEndLine line r → ⊥)

-- the least line, counted from 1, that fits nowhere; or no end line comes, and this is the number of lines plus 1
pub record FirstMisfit (lines : List (List ℕ)) (n : ℕ) : Type 0 where
  pub before : List (List ℕ)
  pub after : List (List ℕ)
  pub whole : lines ≡ before ++ after
  pub data_lines : AllByRecursion HasData before
  pub number : n ≡ length before + 1
  pub misfit : BeginsWithMisfit after

-- why bytes are not read as a file
abbrev pub IsHexFaultOf : List ℕ → HexFault → Type 0
IsHexFaultOf bytes (Bad n) = (lines : List (List ℕ)) × AreLines bytes lines × FirstMisfit lines n
IsHexFaultOf bytes Memory = Unit {0}
