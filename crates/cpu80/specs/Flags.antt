-- The flags of the untagged 8080 (Intel 8080 Assembly Language Programming Manual, "Condition bits"). What this project
-- leaves unknown is taken from the step's choice.
use Rattle.std.specs.Prelude.{ℕ, ◌+◌, ◌*◌, not, Bool, unwrap_or}
use Rattle.cells.specs.declared.Flags.{Flags}
use Rattle.cells.specs.declared.Cond.{Cond}
use Rattle.cells.specs.declared.Cond.TheVariants.{Nz, Z, Nc, C, Po, Pe, P, M}
use Rattle.cells.specs.Bits.{has_bit}
use Rattle.base.specs.Arithmetic.{as_bit}
use Rattle.cpu80.specs.State.{UntaggedFlags}

-- flags as an operation leaves them: an unknown flag, which is never another than AC, is bit 0 of the choice
abbrev pub known_or : Flags → Bool → UntaggedFlags
known_or f b = record {
  s = unwrap_or f.s b;
  z = unwrap_or f.z b;
  ac = unwrap_or f.ac b;
  p = unwrap_or f.p b;
  cy = unwrap_or f.cy b;
}

abbrev pub settled : Flags → ℕ → UntaggedFlags
settled f choice = known_or f (has_bit choice 0)

-- five bits of a choice or of a byte, from bit k up: S Z AC P CY
abbrev pub chosen_flags : ℕ → ℕ → UntaggedFlags
chosen_flags choice k = record {
  s = has_bit choice k;
  z = has_bit choice (k + 1);
  ac = has_bit choice (k + 2);
  p = has_bit choice (k + 3);
  cy = has_bit choice (k + 4);
}

-- PUSH PSW: S Z AC P CY are bits 7 6 4 2 0 of the byte, and bits 1 3 5 are bits 0 1 2 of the choice
abbrev pub flag_byte : UntaggedFlags → ℕ → ℕ
flag_byte f choice =
    128 * as_bit f.s + 64 * as_bit f.z + 32 * as_bit (has_bit choice 2) + 16 * as_bit f.ac
    + 8 * as_bit (has_bit choice 1) + 4 * as_bit f.p + 2 * as_bit (has_bit choice 0) + as_bit f.cy

-- POP PSW
abbrev pub flags_in_byte : ℕ → UntaggedFlags
flags_in_byte v = record { s = has_bit v 7; z = has_bit v 6; ac = has_bit v 4; p = has_bit v 2; cy = has_bit v 0 }

-- the condition of a jump, call or return
abbrev pub holds : UntaggedFlags → Cond → Bool
holds f Nz = not f.z
holds f Z = f.z
holds f Nc = not f.cy
holds f C = f.cy
holds f Po = not f.p
holds f Pe = f.p
holds f P = not f.s
holds f M = f.s
