-- The bits of a number.
use Rattle.std.specs.Prelude.{ℕ, ◌/◌, ◌%◌, ◌^◌, Bool, ◌==◌}

-- whether a bit is 1, bit 0 being the lowest
abbrev pub has_bit : ℕ → ℕ → Bool
has_bit n i = (n / 2 ^ i) % 2 == 1
