-- The bytes of a source.
use Rattle.std.specs.Prelude.{ℕ, ◌-◌, List, Bool, true, false, nat_le, ◌==◌, ◌&&◌, ◌||◌, if◌then◌else◌, map, take}
use Rattle.std.specs.List.{filter, prefix_len}

-- 0 to 9
abbrev pub is_digit : ℕ → Bool
is_digit b = nat_le 48 b && nat_le b 57

-- A to Z
abbrev pub is_upper : ℕ → Bool
is_upper b = nat_le 65 b && nat_le b 90

-- a to z
abbrev pub is_lower : ℕ → Bool
is_lower b = nat_le 97 b && nat_le b 122

-- 20H to 7EH
abbrev pub is_printable : ℕ → Bool
is_printable b = nat_le 32 b && nat_le b 126

-- a blank or a tab
abbrev pub is_blank : ℕ → Bool
is_blank b = b == 32 || b == 9

-- what a name or a number goes on with: a letter, a digit or $
abbrev pub is_inside : ℕ → Bool
is_inside b = (is_digit b || is_upper b) || (is_lower b || b == 36)

-- a letter in capitals, and any other byte
abbrev pub upper : ℕ → ℕ
upper b = if is_lower b then b - 32 else b

-- the bytes of a name or a number that count: in capitals, with no $
unfoldable pub significant : List ℕ → List ℕ
significant bytes = map upper (filter (λ b. if b == 36 then false else true) bytes)

-- how many bytes at the front belong to the name or the number that begins there
abbrev pub inside_len : List ℕ → ℕ
inside_len bytes = prefix_len is_inside bytes

-- how many bytes at the front belong to a comment, which ends before the next !
abbrev pub comment_len : List ℕ → ℕ
comment_len bytes = prefix_len (λ b. if b == 33 then false else true) bytes

-- the bytes that count of the name or the number that begins there
abbrev pub word_bytes : List ℕ → List ℕ
word_bytes bytes = significant (take (inside_len bytes) bytes)
