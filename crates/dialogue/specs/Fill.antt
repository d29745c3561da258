-- What memory holds before a program is put into it.
use Rattle.std.specs.Prelude.{◌≡◌, ℕ, ◌<◌, List, length, All}

-- any 65,536 bytes
pub record IsFill (fill : List ℕ) : Type 0 where
  pub size : length fill ≡ 0x10000
  pub bytes : All (λ b. b < 256) fill
