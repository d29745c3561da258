-- The strings of a source (CP/M 2.2 Operating System Manual, the assembler, "String constants").
use Rattle.std.specs.Prelude.{ℕ, List, [], ◌∷◌, Option, Some, None, ◌==◌, if◌then◌else◌}

-- one more character at the front
abbrev pub with_char : ℕ → Option (List ℕ × List ℕ) → Option (List ℕ × List ℕ)
with_char b None = None
with_char b (Some p) = Some (b ∷ p.0, p.1)

-- What stands before the closing quote, and what follows it, where there is one. Two quotes stand for one.
unfoldable pub quoted : List ℕ → Option (List ℕ × List ℕ)
quoted [] = None
quoted (b ∷ []) = if b == 39 then Some ([], []) else None
quoted (b ∷ c ∷ bytes) = if b == 39 then (if c == 39 then with_char 39 (quoted bytes) else Some ([], c ∷ bytes)) else with_char b (quoted (c ∷ bytes))
