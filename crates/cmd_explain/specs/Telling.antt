-- More of an explanation.
use Rattle.std.specs.Prelude.{◌≡◌, ℕ, Option, Some, None, List, ◌++◌}
use Rattle.asm80_types.specs.Program.{Program, line_at}
use Rattle.sym_block_def.specs.declared.reason.Reason.{Reason}
use Rattle.cmd_explain.specs.Lines.{block_line, source_lines}

-- more was told, of which this holds
pub record Tells (Claim : List ℕ → Type 0) (old new : List ℕ) : Type 0 where
  pub own : List ℕ
  pub is : new ≡ old ++ own
  pub claim : Claim own

-- the first block that does not match, if there is one, and else what is found later
abbrev pub or_later : Option (ℕ × Reason) → Option (ℕ × Reason) → Option (ℕ × Reason)
or_later (Some first) later = Some first
or_later None later = later

abbrev pub first_of : Option (ℕ × Reason) → ℕ → Option Reason → Option (ℕ × Reason)
first_of (Some first) at reason = Some first
first_of None at (Some reason) = Some (at, reason)
first_of None at None = None

-- the first lines of what is said of a block, between whose first and last instruction it is
pub record HasFirstLines (p : Program) (first last : ℕ) (reason : Reason) (text : List ℕ) : Type 0 where
  pub from : ℕ
  pub to : ℕ
  pub starts : line_at p first ≡ Some from
  pub ends : line_at p last ≡ Some to
  pub is : text ≡ block_line first reason ++ source_lines from to
