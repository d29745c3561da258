-- Words of 16 bits, which both processors have.
use Rattle.std.specs.Prelude.{ℕ, ◌+◌, ◌*◌, ◌%◌}

-- a word of two bytes
abbrev pub word : ℕ → ℕ → ℕ
word high low = 256 * high + low

-- a number modulo 65,536
abbrev pub wrap : ℕ → ℕ
wrap w = w % 0x10000
