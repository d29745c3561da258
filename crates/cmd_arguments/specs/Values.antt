-- The values that the texts of options stand for.
use Rattle.std.specs.Prelude.{ℕ, Option, Some, None, length, nat_lt, nat_le, ◌==◌, ◌&&◌, if◌then◌else◌, option_and_then}
use Rattle.std.specs.List.{list_all}
use Rattle.std.specs.Char.{is_digit}
use Rattle.std.specs.Str.Parse.{digits_value}
use Rattle.asm80_types.specs.Program.{is_top}
use Rattle.cmd_arguments.specs.Table.{Word}

-- the number that 1 to `most` digits of a base write, letters in either case
abbrev pub number_in : ℕ → ℕ → Word → Option ℕ
number_in base most text =
    if nat_lt 0 (length text) && nat_le (length text) most && list_all (λ b. is_digit b base) text
    then Some (digits_value base text)
    else None

abbrev pub top_among : ℕ → Option ℕ
top_among n = if is_top n then Some n else None

-- `--top`: exactly four hexadecimal digits of a top that a program area may have
abbrev pub top_value : Word → Option ℕ
top_value text = if length text == 4 then option_and_then top_among (number_in 16 4 text) else None

-- `--choice`: 1 to 32 hexadecimal digits
abbrev pub choice_value : Word → Option ℕ
choice_value text = number_in 16 32 text

abbrev pub steps_within : ℕ → Option ℕ
steps_within n = if nat_le 1 n && nat_le n 10000000 then Some n else None

-- `--steps`: 1 to 8 decimal digits, from 1 to 10,000,000
abbrev pub steps_value : Word → Option ℕ
steps_value text = option_and_then steps_within (number_in 10 8 text)

abbrev pub count_within : ℕ → Option ℕ
count_within n = if nat_le 1 n && nat_le n 500 then Some n else None

-- the number of routines of a made source: 1 to 3 decimal digits, from 1 to 500
abbrev pub count_value : Word → Option ℕ
count_value text = option_and_then count_within (number_in 10 3 text)

-- a file's name is not empty
abbrev pub file_name : Word → Option Word
file_name text = if nat_lt 0 (length text) then Some text else None
