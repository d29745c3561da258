-- The offsets of a text's labels, in tables by their addresses.
use Rattle.std.specs.Prelude.{◌≡◌, ℕ, Bool, false, List, slice_index, unwrap_or}
use Rattle.i80.specs.declared.Goal.{Goal}
use Rattle.i80.specs.declared.Goal.TheVariants.{At as AtGoal, Boot, Bdos}
use Rattle.i80.specs.declared.Instr80.{Instr80}
use Rattle.i80.specs.declared.Instr80.TheVariants.{Jif}
use Rattle.asm86_line_types.specs.declared.line.Label.{Label}
use Rattle.asm86_line_types.specs.declared.line.Label.TheVariants.{At, Skip, Sys, End}
use Rattle.asm86_line_types.specs.declared.line.Stmt86.{Stmt86}
use Rattle.asm86_line_types.specs.Layout.{offset_from}
use Rattle.asm80_types.specs.declared.program.Placed.{Placed}
use Rattle.templates.specs.Lean.{may_be_short}
use Rattle.templates.specs.declared.places.Places.{Places}

-- the offset of a label in statements that begin at a place, and 0 where it does not stand there
abbrev pub place_from : ℕ → List Stmt86 → Label → ℕ
place_from at xs l = unwrap_or (offset_from at xs l) 0

-- tables have the offsets of the labels of statements that begin at a place
pub record ArePlaces (t : Places) (at : ℕ) (xs : List Stmt86) : Type 0 where
  pub lines : (a : ℕ) → slice_index t.lines.items a ≡ place_from at xs (At a)
  pub skips : (a : ℕ) → slice_index t.skips.items a ≡ place_from at xs (Skip a)
  pub sys : t.sys ≡ place_from at xs Sys
  pub end : t.end ≡ place_from at xs End

-- the offset that tables have for a target
abbrev pub target_in : Places → Goal → ℕ
target_in t (AtGoal a) = slice_index t.lines.items a
target_in t Boot = t.end
target_in t Bdos = t.sys

-- the jump rule by the tables: the instruction's own label stands at the end of its long jump
abbrev pub reaches_by : Places → Placed → Instr80 → Bool
reaches_by t x (Jif on goal) = may_be_short (slice_index t.skips.items x.at) (target_in t goal)
reaches_by t x i = false
