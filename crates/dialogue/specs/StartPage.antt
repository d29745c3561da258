-- The start page: what cells 5CH to 0FFH hold as a program begins. The command's first two words stand as file control
-- blocks at 5CH and 6CH, and its tail at 80H (CP/M 2.2 Operating System Manual, section 5.2, "Operating system call
-- conventions").
use Rattle.std.specs.Prelude.{ℕ, ◌+◌, ◌-◌, ◌==◌, nat_le, Bool, cond, not, ◌&&◌, List, [], ◌∷◌, ◌++◌, map, length, take, drop, replicate, slice_index, Option, Some, None}
use Rattle.std.specs.List.{list_all, list_any, position_or_len, before_first, after_first}
use Rattle.std.specs.Char.{to_ascii_uppercase}

-- a tail that a command may have: at most 126 bytes, each from 20H to 7EH
abbrev pub is_printable : ℕ → Bool
is_printable b = nat_le 0x20 b && nat_le b 0x7E

abbrev pub is_tail : List ℕ → Bool
is_tail tail = nat_le (length tail) 126 && list_all is_printable tail

abbrev pub is : ℕ → ℕ → Bool
is sign b = b == sign

-- words are parted by blanks: the text from its first word on, that word, and what stands after it
abbrev pub from_word : List ℕ → List ℕ
from_word text = drop (position_or_len (λ b. not (b == 0x20)) text) text

abbrev pub first_word : List ℕ → List ℕ
first_word text = before_first (is 0x20) (from_word text)

abbrev pub after_word : List ℕ → List ℕ
after_word text = after_first (is 0x20) (from_word text)

-- a word may begin with a drive: a letter A to P and a colon
abbrev pub has_drive : List ℕ → Bool
has_drive word = nat_le 0x41 (slice_index word 0) && nat_le (slice_index word 0) 0x50 && (slice_index word 1 == 0x3A)

-- drive A is 1; no drive is 0
abbrev pub drive_of : List ℕ → ℕ
drive_of word = cond (has_drive word) (slice_index word 0 - 0x40) 0

-- the rest is a file's name and, after the first dot, its type
abbrev pub file_in_tail : List ℕ → List ℕ
file_in_tail word = cond (has_drive word) (drop 2 word) word

abbrev pub name_in_tail : List ℕ → List ℕ
name_in_tail word = before_first (is 0x2E) (file_in_tail word)

abbrev pub type_of : List ℕ → List ℕ
type_of word = after_first (is 0x2E) (file_in_tail word)

-- a part in a field of k bytes: it is filled with blanks, or with `?` where a `*` stands in it; more bytes are dropped
abbrev pub field : ℕ → List ℕ → List ℕ
field k part = take k (before_first (is 0x2A) part ++ replicate k (cond (list_any (is 0x2A) part) 0x3F 0x20))

-- the first 16 bytes of a file control block: the drive, the name, the type, four zeros
abbrev pub control_block : List ℕ → List ℕ
control_block word = drive_of word ∷ (field 8 (name_in_tail word) ++ (field 3 (type_of word) ++ replicate 4 0))

-- the tail at 80H: one more than its length, a blank, its bytes; nothing where it is empty. Zeros fill the 128 bytes
abbrev pub counted : List ℕ → List ℕ
counted [] = []
counted (b ∷ bs) = (length (b ∷ bs) + 1) ∷ (0x20 ∷ (b ∷ bs))

abbrev pub tail_area : List ℕ → List ℕ
tail_area text = take 128 (counted text ++ replicate 128 0)

-- the page of a text: two control blocks, the four cells before 80H, the tail
abbrev pub page : List ℕ → List ℕ
page text = control_block (first_word text) ++ (control_block (first_word (after_word text)) ++ (replicate 4 0 ++ tail_area text))

-- the page of a tail, which stands in upper case
abbrev pub page_of_tail : List ℕ → Option (List ℕ)
page_of_tail tail = cond (is_tail tail) (Some (page (map to_ascii_uppercase tail))) None
