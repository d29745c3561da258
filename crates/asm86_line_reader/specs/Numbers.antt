-- The numbers of a line, in capitals: decimal, or hexadecimal with an H behind the digits (CP/M-86 Programmer's Guide, "Numeric
-- Constants").
use Rattle.std.specs.Prelude.{ℕ, ◌-◌, ◌==◌, nat_lt, ◌&&◌, cond, List, Option, Some, None, length, take, slice_index}
use Rattle.std.specs.List.{list_all}
use Rattle.std.specs.Char.{digit_value}
use Rattle.std.specs.Str.Parse.{digits_value}

-- the number that digits of a base spell: each is a digit of that base, there is one or more, and the number is at most 65,535
unfoldable pub value_in : ℕ → List ℕ → Option ℕ
value_in base ds = cond (list_all (λ c. nat_lt (digit_value c) base) ds && (nat_lt 0 (length ds) && nat_lt (digits_value base ds) 65536)) (Some (digits_value base ds)) None

-- the number that a word is which begins with a digit, if it is one
unfoldable pub number_of_word : List ℕ → Option ℕ
number_of_word text = cond (slice_index text (length text - 1) == 0x48) (value_in 16 (take (length text - 1) text)) (value_in 10 text)
