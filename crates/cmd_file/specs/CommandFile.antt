-- Command files, in which CP/M-86 keeps programs (CP/M-86 System Guide, section 3, "Command (CMD) File Format"). A header of 128 bytes
-- begins with eight group descriptors of nine bytes; the groups come after it. Sizes are in paragraphs of 16 bytes. Of all command files
-- these are those with a code group and a data group, in this order, both at a base that the system chooses.
use Rattle.std.specs.Prelude.{◌≡◌, ℕ, ◌*◌, ◌<◌, ◌≤◌, List, [], ◌∷◌, ◌++◌, length}
use Rattle.std.specs.List.{All, flat_map}
use Rattle.i86.specs.Enc86.{word_then}

-- a group descriptor: G-Form, G-Length, A-Base, G-Min and G-Max
pub record Group : Type 0 where
  pub form : ℕ
  pub length : ℕ
  pub base : ℕ
  pub least : ℕ
  pub greatest : ℕ

-- its nine bytes: the form, and four words, low byte first
abbrev pub descriptor : Group → List ℕ
descriptor g = g.form ∷ word_then g.length (word_then g.base (word_then g.least (word_then g.greatest [])))

-- the parts of a file: the descriptors of its two groups, six more descriptors, what else the header has, the two groups, and what follows
pub record Layout : Type 0 where
  pub code_group : Group
  pub data_group : Group
  pub other_groups : List Group
  pub reserved : List ℕ
  pub code : List ℕ
  pub «data» : List ℕ
  pub padding : List ℕ

-- one after the other
abbrev pub file_bytes : Layout → List ℕ
file_bytes l =
    descriptor l.code_group
    ++ (descriptor l.data_group ++ (flat_map descriptor l.other_groups ++ (l.reserved ++ (l.code ++ (l.data ++ l.padding)))))

-- the descriptor of a group with this form and these bytes: at most 64K, at no base of its own
pub record Describes (form : ℕ) (bytes : List ℕ) (g : Group) : Type 0 where
  pub form_is : g.form ≡ form
  pub size : length bytes ≡ 16 * g.length
  pub most : g.length ≤ 0x1000
  pub base_is : g.base ≡ 0

-- form 1 is code, form 2 data, and form 0 no group; the header has 128 bytes; and less than a record of 128 bytes follows the groups
pub record IsLayout (l : Layout) : Type 0 where
  pub code_described : Describes 1 l.code l.code_group
  pub data_described : Describes 2 l.data l.data_group
  pub no_others : All (λ g. g.form ≡ 0) l.other_groups
  pub six : length l.other_groups ≡ 6
  pub header : length l.reserved ≡ 56
  pub last : length l.padding ≤ 127
  pub bytes : All (λ b. b < 256) (file_bytes l)

-- what is of interest in a command file: its code group and its data group
pub record CommandFile : Type 0 where
  pub code : List ℕ
  pub «data» : List ℕ

-- the bytes are those of a file with these groups
pub record IsCommandFile (bytes : List ℕ) (file : CommandFile) : Type 0 where
  pub layout : Layout
  pub lawful : IsLayout layout
  pub spelt : bytes ≡ file_bytes layout
  pub groups : file ≡ record { code = layout.code; «data» = layout.data }

-- the bytes are a command file
abbrev pub IsCommandFileBytes : List ℕ → Type 0
IsCommandFileBytes bytes = (file : CommandFile) × IsCommandFile bytes file
