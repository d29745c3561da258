-- A choice is the 128 bits from which a step or a reply takes what is left undefined. Bit k of it is `has_bit choice k`.
use Rattle.std.specs.Prelude.{ℕ, ◌/◌, ◌%◌, ◌^◌}

-- the byte from bit k up
abbrev pub byte_of : ℕ → ℕ → ℕ
byte_of choice k = (choice / 2 ^ k) % 256
