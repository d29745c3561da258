-- Files as a disk stores them.
use Rattle.std.specs.Prelude.{ℕ, List, replicate}

-- a record of zeros; records have 128 bytes
abbrev pub zero_record : List ℕ
zero_record = replicate 128 0

-- a file: its name and its records
pub record Stored : Type 0 where
  pub name : List ℕ
  pub records : List (List ℕ)
