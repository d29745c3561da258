-- Which flags have to be saved where the 8086's sums of words change them and the 8080's do not.
use Rattle.std.specs.Prelude.{◌≡◌, ◌↔◌, ℕ, Bool, true, false, Option, Some, None}
use Rattle.cells.specs.declared.Part.{Part}
use Rattle.cells.specs.declared.Part.TheVariants.{S, Z, Ac, P}
use Rattle.cells.specs.Parts.{Parts, has}
use Rattle.i80.specs.declared.Instr80.{Instr80}
use Rattle.i80.specs.declared.Instr80.TheVariants.{Inx, Dcx, Dad}
use Rattle.asm80_types.specs.Program.{Program, instr_at}
use Rattle.flow.specs.declared.node.Node.TheVariants.{Start}
use Rattle.flow.specs.Blocks.{address_after_instruction}
use Rattle.flow.specs.Need.{Need}

-- INX, DCX and DAD change none of S Z AC P (Intel 8080 Assembly Language Programming Manual, "Register pair instructions"); the
-- 8086's INC, DEC and ADD of a word change all of them (The 8086 Family User's Manual, "Flags")
abbrev pub is_word_sum : Instr80 → Bool
is_word_sum (Inx p) = true
is_word_sum (Dcx p) = true
is_word_sum (Dad p) = true
is_word_sum i = false

abbrev pub is_saved : Part → Bool
is_saved S = true
is_saved Z = true
is_saved Ac = true
is_saved P = true
is_saved x = false

abbrev pub is_sum_in : Option Instr80 → Bool
is_sum_in None = false
is_sum_in (Some i) = is_word_sum i

-- such an instruction starts at the address
abbrev pub is_sum_at : Program → ℕ → Bool
is_sum_at p a = is_sum_in (instr_at p a)

-- a set has exactly those of S Z AC P that are needed behind the instruction at the address
abbrev pub AreSaves : Program → ℕ → Parts → Type 0
AreSaves p a keep = (x : Part) → (has keep x ≡ true) ↔ ((is_saved x ≡ true) × Need p (Start (address_after_instruction a (instr_at p a))) x)
