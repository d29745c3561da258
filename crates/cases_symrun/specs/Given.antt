-- What a block needs, and what its runs give.
use Rattle.std.specs.Prelude.{◌≡◌, ℕ, length, Option, Some, Result, Ok}
use Rattle.asm80_types.specs.Program.{Program}
use Rattle.sym_block_def.specs.declared.reason.Reason.{Reason}
use Rattle.sym_block_def.specs.Block80.{instrs_from, OnlyLastEnds}
use Rattle.sym_run.specs.Outcomes.{WorkState}
use Rattle.block_check.specs.Comparing.{AreReady}

-- so many instructions from an address on, of which only the last may end a block
pub record Follow (p : Program) (at left : ℕ) : Type 0 where
  pub whole : length (instrs_from p at left) ≡ left
  pub ends : OnlyLastEnds (instrs_from p at left)

-- where both sides came to an outcome, the terms of both are given
abbrev pub IsRun : Option (Result (Unit {0}) Reason) → WorkState → Type 0
IsRun (Some (Ok u)) w = AreReady w
IsRun r w = Unit {0}
