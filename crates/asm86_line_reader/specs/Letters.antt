-- The bytes of a line (CP/M-86 Programmer's Guide, "ASM-86 Character Set"; the choice of them is this project's).
use Rattle.std.specs.Prelude.{ℕ, ◌-◌, List, Bool, nat_le, ◌==◌, ◌&&◌, ◌||◌, cond, Option, Some, None}
use Rattle.std.specs.List.{prefix_len}
use Rattle.asm86_line_reader.specs.declared.token.Token.{Token}
use Rattle.asm86_line_reader.specs.declared.token.Token.TheVariants.{Colon, Comma, Dot, Open, Close}

-- a to z
abbrev pub is_lower : ℕ → Bool
is_lower b = nat_le 0x61 b && nat_le b 0x7A

-- a letter in capitals, and any other byte as it is: a line means the same in either case
abbrev pub upper : ℕ → ℕ
upper b = cond (is_lower b) (b - 0x20) b

-- 0 to 9
abbrev pub is_digit : ℕ → Bool
is_digit b = nat_le 0x30 b && nat_le b 0x39

-- what words and numbers consist of: capital letters, digits, `_`
abbrev pub is_inside : ℕ → Bool
is_inside b = is_digit b || ((nat_le 0x41 b && nat_le b 0x5A) || b == 0x5F)

-- a blank or a tab
abbrev pub is_blank : ℕ → Bool
is_blank b = b == 0x20 || b == 0x09

-- the signs `: , . [ ]`
abbrev pub sign_of : ℕ → Option Token
sign_of b = cond (b == 0x3A) (Some Colon) (cond (b == 0x2C) (Some Comma) (cond (b == 0x2E) (Some Dot) (cond (b == 0x5B) (Some Open) (cond (b == 0x5D) (Some Close) None))))

-- how many bytes at the front belong to the word or the number that begins there
abbrev pub inside_len : List ℕ → ℕ
inside_len bytes = prefix_len is_inside bytes
