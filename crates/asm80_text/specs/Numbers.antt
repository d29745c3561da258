-- The numbers of a source, in capitals and with no $ (CP/M 2.2 Operating System Manual, the assembler, "Numeric constants").
use Rattle.std.specs.Prelude.{ℕ, ◌+◌, ◌-◌, ◌*◌, List, Option, Some, None, nat_le, nat_lt, ◌==◌, ◌&&◌, ◌||◌, if◌then◌else◌, length, take, slice_index}
use Rattle.std.specs.List.{fold, list_all}
use Rattle.asm80_text.specs.Letters.{is_digit, is_upper}

-- the base that a number's last letter names: B, O or Q, D, H
abbrev pub base_named : ℕ → Option ℕ
base_named c = if c == 66 then Some 2 else (if c == 79 || c == 81 then Some 8 else (if c == 68 then Some 10 else (if c == 72 then Some 16 else None)))

-- what a digit counts, a letter from A on counting from 10
abbrev pub digit_of : ℕ → ℕ
digit_of c = if is_digit c then c - 48 else (if is_upper c then c - 55 else 36)

-- digits of a base, highest first
unfoldable pub total : ℕ → List ℕ → ℕ
total base cs = fold (λ n c. n * base + digit_of c) 0 cs

-- the number that digits of a base spell: each is a digit of that base, and the number is at most 65,535
unfoldable pub value_in : ℕ → List ℕ → Option ℕ
value_in base cs = if list_all (λ c. nat_lt (digit_of c) base) cs && nat_le (total base cs) 65535 then Some (total base cs) else None

abbrev pub value_with : List ℕ → Option ℕ → Option ℕ
value_with cs (Some base) = value_in base (take (length cs - 1) cs)
value_with cs None = value_in 10 cs

-- the value of a number, whose last character may name its base
unfoldable pub number_of : List ℕ → Option ℕ
number_of cs = value_with cs (base_named (slice_index cs (length cs - 1)))
