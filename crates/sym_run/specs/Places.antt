-- A place behind a label, if there is one.
use Rattle.std.specs.Prelude.{◌≡◌, ℕ, ◌≤◌, List, length, drop, Option, Some, None}
use Rattle.asm86_line_types.specs.declared.line.Stmt86.{Stmt86}

-- what stands behind a label begins at this place
abbrev pub IsPlace : List Stmt86 → Option ℕ → Option (List Stmt86) → Type 0
IsPlace xs None rest = rest ≡ None
IsPlace xs (Some k) rest = (k ≤ length xs) × (rest ≡ Some (drop k xs))
