-- The flags and the conditions on them (Intel 8080 Assembly Language Programming Manual, "Condition bits" and "Jump instructions").
use Rattle.std.specs.Prelude.{◌≡◌, ℕ, Bool, not, Option, Some, None, option_map}
use Rattle.cells.specs.declared.Flags.{Flags}
use Rattle.cells.specs.declared.Cond.{Cond}
use Rattle.cells.specs.declared.Cond.TheVariants.{Nz, Z, Nc, C, Po, Pe, P, M}
use Rattle.cells.specs.Bits.{has_bit}

-- no flag is known
abbrev pub unknown_flags : Flags
unknown_flags = record { s = None; z = None; ac = None; p = None; cy = None }

-- the flags that POP PSW takes from a byte: bits 7 6 4 2 0 are S Z AC P CY
abbrev pub flags_of_byte : ℕ → Flags
flags_of_byte n = record { s = Some (has_bit n 7); z = Some (has_bit n 6); ac = Some (has_bit n 4); p = Some (has_bit n 2); cy = Some (has_bit n 0) }

-- a flag that is known has this value
abbrev pub Knows : Option Bool → Bool → Type 0
Knows None b = Unit {0}
Knows (Some v) b = b ≡ v

-- a byte has the flags that are known in bits 7 6 4 2 and 0
pub record KnowsBits (f : Flags) (b : ℕ) : Type 0 where
  pub s : Knows f.s (has_bit b 7)
  pub z : Knows f.z (has_bit b 6)
  pub ac : Knows f.ac (has_bit b 4)
  pub p : Knows f.p (has_bit b 2)
  pub cy : Knows f.cy (has_bit b 0)

-- whether a flag is 0
abbrev pub is_clear : Option Bool → Option Bool
is_clear flag = option_map not flag

-- whether a condition holds: none where its flag is unknown
abbrev pub holds : Flags → Cond → Option Bool
holds f Nz = is_clear f.z
holds f Z = f.z
holds f Nc = is_clear f.cy
holds f C = f.cy
holds f Po = is_clear f.p
holds f Pe = f.p
holds f P = is_clear f.s
holds f M = f.s
