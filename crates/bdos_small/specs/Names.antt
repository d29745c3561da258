-- Names of files as a directory has them: eleven bytes, eight of the name and three of the type, filled up with blanks
-- (CP/M 2.2 Operating System Manual, section 5.2, "Operating System Call Conventions": the file control block).
use Rattle.std.specs.Prelude.{◌≡◌, ℕ, ◌-◌, ◌%◌, ◌==◌, ◌&&◌, ◌||◌, nat_le, nat_lt, not, Bool, true, false, cond, List, [], ◌∷◌, ◌++◌, map, length, take, drop, replicate, Option, Some, None}
use Rattle.std.specs.List.{list_all, zip}
use Rattle.std.specs.Ordering.{nat_cmp, is_lt}
use Rattle.std.specs.Cmp.Lexicographic.{slice_cmp}

-- a byte that a file's name may have: a blank or a printable character, but no `?`, which stands for any, and no lower-case
-- letter
abbrev pub is_name_byte : ℕ → Bool
is_name_byte b = nat_le 0x20 b && (nat_lt b 0x7F && (not (b == 0x3F) && not (nat_le 0x61 b && nat_le b 0x7A)))

-- a name that a file may have
abbrev pub is_file_name : List ℕ → Bool
is_file_name name = (length name == 11) && list_all is_name_byte name

-- the order of a directory: the first byte that differs decides
abbrev pub is_before : List ℕ → List ℕ → Bool
is_before a b = is_lt (slice_cmp nat_cmp a b)

-- after a name, if there is one
abbrev pub is_after : Option (List ℕ) → List ℕ → Bool
is_after None name = true
is_after (Some last) name = is_before last name

-- a byte of a pattern: `?` matches any
abbrev pub matches_byte : ℕ × ℕ → Bool
matches_byte e = (e.0 == 0x3F) || (e.0 == e.1)

-- a pattern matches a name where each of its bytes does
abbrev pub matches : List ℕ → List ℕ → Bool
matches pattern name = list_all matches_byte (zip pattern name)

-- the name or the pattern of a file control block: bytes 1 to 11, with bit 7 dropped
abbrev pub low_seven : ℕ → ℕ
low_seven b = b % 128

abbrev pub name_in_block : List ℕ → List ℕ
name_in_block block = map low_seven (take 11 (drop 1 block))

-- the highest bytes of names, from 7EH down: there are four above the lower-case letters, and `?` is left out below
abbrev pub top_byte : ℕ → ℕ
top_byte k = cond (nat_lt k 4) (0x7E - k) (cond (nat_lt k 37) (0x64 - k) (0x63 - k))

-- the highest name that so many names of files can follow in ascending order
abbrev pub highest : ℕ → List ℕ
highest after = replicate 10 0x7E ++ top_byte after ∷ []

-- a name that a file may have that stands after `last` and has so many files after it
pub record IsNameBetween (last : Option (List ℕ)) (after : ℕ) (name : List ℕ) : Type 0 where
  pub lawful : is_file_name name ≡ true
  pub above : is_after last name ≡ true
  pub room : is_before (highest after) name ≡ false
