-- The header of a command file, byte by byte.
use Rattle.std.specs.Prelude.{◌≡◌, ℕ, ◌+◌, ◌*◌, ◌<◌, ◌≤◌, ◌==◌, nat_le, Bool, true, length, List, ◌∷◌, ◌++◌, replicate, slice_index, slice_index_or}
use Rattle.std.specs.List.{flat_map}

-- what may stand at a place: one byte; the high byte of a length of at most 1000H, of which the byte before is the low one; any byte
pub data Rule : Type 0 where
  Exactly : (byte : ℕ) → Rule
  HighOfLength : Rule
  AnyByte : Rule

abbrev pub allows : Rule → ℕ → ℕ → Bool
allows (Exactly b) before byte = byte == b
allows HighOfLength before byte = nat_le (before + 256 * byte) 0x1000
allows AnyByte before byte = true

-- the descriptor of a group of a form: form, length, base, least and greatest size
abbrev pub group_rules : ℕ → List Rule
group_rules form = Exactly form ∷ (AnyByte ∷ (HighOfLength ∷ (Exactly 0 ∷ (Exactly 0 ∷ replicate 4 AnyByte))))

-- the descriptor of no group
abbrev pub no_group_rules : List Rule
no_group_rules = Exactly 0 ∷ replicate 8 AnyByte

-- code, data, and no other group
abbrev pub header_rules : List Rule
header_rules = group_rules 1 ++ (group_rules 2 ++ flat_map (λ rules. rules) (replicate 6 no_group_rules))

-- a byte may stand at a place of the file, after the byte before it
abbrev pub may_stand : ℕ → ℕ → ℕ → Bool
may_stand place before byte = allows (slice_index_or header_rules place AnyByte) before byte

-- each of the first n bytes may stand where it stands
abbrev pub FitsBelow : ℕ → List ℕ → Type 0
FitsBelow n bytes = (k : ℕ) → k < n → may_stand k (slice_index (0 ∷ bytes) k) (slice_index bytes k) ≡ true

-- a word of the header, low byte first
abbrev pub word_in : List ℕ → ℕ → ℕ
word_in bytes k = slice_index bytes k + 256 * slice_index bytes (k + 1)

-- the bytes of the groups of a file
abbrev pub code_size : List ℕ → ℕ
code_size bytes = 16 * word_in bytes 1

abbrev pub data_size : List ℕ → ℕ
data_size bytes = 16 * word_in bytes 10

-- where the groups end
abbrev pub groups_end : List ℕ → ℕ
groups_end bytes = 128 + (code_size bytes + data_size bytes)

-- the descriptors are those of a command file
pub record HasHeader (bytes : List ℕ) : Type 0 where
  pub long : 72 ≤ length bytes
  pub fits : FitsBelow 72 bytes
  pub code_small : word_in bytes 1 ≤ 0x1000
  pub data_small : word_in bytes 10 ≤ 0x1000
