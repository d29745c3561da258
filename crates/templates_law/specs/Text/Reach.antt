-- Which conditional jumps of a text reach where they are short.
use Rattle.std.specs.Prelude.{◌≡◌, ℕ, ◌+◌, Bool, true, false, List, [], ◌∷◌}
use Rattle.asm86_line_types.specs.declared.line.Label.{Label}
use Rattle.asm86_line_types.specs.declared.line.Label.TheVariants.{At, Sys, End}
use Rattle.asm86_line_types.specs.declared.line.Stmt86.{Stmt86}
use Rattle.asm86_line_types.specs.declared.line.Stmt86.TheVariants.{Jcc}
use Rattle.asm86_line_types.specs.Layout.{size_of, sizes_of, place_of}
use Rattle.asm86_line_types.specs.Image.{short_reaches}
use Rattle.asm80_types.specs.Program.{Program}
use Rattle.flow.specs.Blocks.{cut_from}
use Rattle.templates.specs.Plain.{prologue}
use Rattle.templates.specs.Style.{Style, blocks_of, styled_statements}

-- a conditional jump of a program that is written as one short jump goes where the program's jump goes: to an instruction, to the end
-- or to the system. One that is written long goes past a near jump, to a label of its own
abbrev pub is_shortened : Stmt86 → Bool
is_shortened (Jcc j (At a)) = true
is_shortened (Jcc j Sys) = true
is_shortened (Jcc j End) = true
is_shortened x = false

-- from a place on, each of them reaches: its displacement is a byte's
abbrev pub ShortenedReach : (Label → ℕ) → ℕ → List Stmt86 → Type 0
ShortenedReach off at [] = Unit {0}
ShortenedReach off at (x ∷ xs) = (is_shortened x ≡ true → short_reaches off at x ≡ true) × ShortenedReach off (at + size_of x) xs

-- those of a text, whose instructions stand behind the prologue
abbrev pub JumpsReach : Style → Program → Type 0
JumpsReach s p = ShortenedReach (place_of (styled_statements s p)) (sizes_of (prologue p.top)) (blocks_of s (cut_from p 0 p.instrs))
