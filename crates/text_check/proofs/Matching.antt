-- Where nothing is found of lines, they match; where something is, they do not.
use Rattle.std.proofs.Common.{◌≡◌, ◌∙◌, ℕ, List, Option, Some, None, sym}
use Rattle.asm86_line_types.specs.declared.line.Line86.{Line86}
use Rattle.asm80_types.specs.Program.{Program}
use Rattle.sym_block_def.specs.declared.reason.Reason.{Reason}
use Rattle.sym_block_def.specs.BlockMatch.{Keeps}
use Rattle.simulation_def.specs.Matches.{Matches, Finds, opening, runtime, cells, blocks as by_blocks}

no_reason : (x : ℕ × Reason) → Some x ≡ None → ⊥
no_reason x e = cc

module _ (p : Program) (lines : List Line86) (cut : List (ℕ × ℕ)) (keeps : Keeps) where
  pub matched : (o : Option (ℕ × Reason)) → Finds p lines cut keeps o → o ≡ None → Matches p lines cut keeps
  matched _ (opening none) e = absurd (no_reason _ e)
  matched _ (runtime has none) e = absurd (no_reason _ e)
  matched _ (cells has runs none) e = absurd (no_reason _ e)
  matched _ (by_blocks has runs stand) e = record { opening = has; runtime = runs; cells = stand; blocks = e }

  pub unmatched : (o : Option (ℕ × Reason)) (x : ℕ × Reason) → Finds p lines cut keeps o → o ≡ Some x → Matches p lines cut keeps → ⊥
  unmatched _ x (opening none) e m = none m.opening
  unmatched _ x (runtime has none) e m = none m.runtime
  unmatched _ x (cells has runs none) e m = none m.cells
  unmatched _ x (by_blocks has runs stand) e m = no_reason x (sym e ∙ m.blocks)
