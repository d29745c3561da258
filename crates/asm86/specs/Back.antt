-- Lines that may be written.
use Rattle.std.specs.Prelude.{◌≡◌, ℕ, suc, List, [], ◌∷◌, true}
use Rattle.asm86_line_types.specs.declared.line.Line86.{Line86}
use Rattle.asm86_line_reader.specs.ReadBack.{has_line}

-- the lines are numbered one after the other, and each has a written line
abbrev pub AreWritten : ℕ → List Line86 → Type 0
AreWritten n [] = Unit {0}
AreWritten n (x ∷ xs) = (x.line ≡ n) × (has_line x.stmt ≡ true) × AreWritten (suc n) xs
