-- Outcomes of a reading that are the same.
use Rattle.std.proofs.Common.{◌≡◌, ℕ, List}
use Rattle.std.specs.Prelude.{Result, Ok, Err}
use Rattle.asm86_line_types.specs.declared.line.Line86.{Line86}
use Rattle.asm86_line_types.specs.declared.line.TextRule.{TextRule}

abbrev pub Same : Result (List Line86) (ℕ × TextRule) → Result (List Line86) (ℕ × TextRule) → Type 0
Same a b = a ≡ b

pub same_lines : (a b : List Line86) → Same (Ok a) (Ok b) → a ≡ b
same_lines a b e = cc

pub same_fault : (a b : ℕ × TextRule) → Same (Err a) (Err b) → a ≡ b
same_fault a b e = cc

pub no_lines : (a : List Line86) (b : ℕ × TextRule) → Same (Ok a) (Err b) → ⊥
no_lines a b e = cc
