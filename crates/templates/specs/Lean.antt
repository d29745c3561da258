-- The lean text: what is needed decides what it leaves out, by four rules.
use Rattle.std.specs.Prelude.{◌≡◌, ℕ, ◌+◌, ◌-◌, nat_le, not, ◌&&◌, ◌||◌, Bool, true, false, List}
use Rattle.cells.specs.declared.Part.TheVariants.{B, L, S, Z, Ac, P}
use Rattle.cells.specs.Parts.{Parts, has}
use Rattle.i80.specs.declared.Instr80.{Instr80}
use Rattle.i80.specs.declared.Instr80.TheVariants.{Jif}
use Rattle.asm86_line_types.specs.declared.line.Label.TheVariants.{Skip}
use Rattle.asm86_line_types.specs.declared.line.Stmt86.{Stmt86}
use Rattle.asm86_line_types.specs.declared.line.Line86.{Line86}
use Rattle.asm86_line_types.specs.Layout.{place_of}
use Rattle.asm80_types.specs.declared.program.Placed.{Placed}
use Rattle.asm80_types.specs.Program.{Program}
use Rattle.flow.specs.Blocks.{end_of}
use Rattle.flow.specs.Solving.{Needs, AreAllNeeds}
use Rattle.templates.specs.Template.{label_of_goal}
use Rattle.templates.specs.Style.{Style, styled_statements, styled}

-- the save rule: INX, DCX and DAD save where one of S Z AC P is needed behind them
abbrev pub has_saved_flag : Parts → Bool
has_saved_flag k = has k S || (has k Z || (has k Ac || has k P))

abbrev pub saves_by_need : Needs → Placed → Bool
saves_by_need n x = has_saved_flag (n.at (end_of x))

-- the direct-call rule: neither B nor L is needed at the place after the call
abbrev pub loses_nothing : Needs → Placed → Bool
loses_nothing n x = not (has (n.at (end_of x)) B || has (n.at (end_of x)) L)

-- the style in which all conditional jumps are long; the pair rule holds in it
abbrev pub long_style : Needs → Style
long_style n = record { all_labels = false; saves = saves_by_need n; pairs = true; directs = loses_nothing n; shortens = λ x. false }

-- The jump rule, by the distances of that layout. A long conditional jump has 5 bytes, and its own label stands at its end. A short one
-- reaches a target at or behind that end with at most 127 bytes between them, and a target at or before its beginning with at most 126.
abbrev pub may_be_short : ℕ → ℕ → Bool
may_be_short end target = (nat_le end target && nat_le (target - end) 127) || (nat_le (target + 5) end && nat_le (end - 5 - target) 126)

abbrev pub reaches_in : List Stmt86 → Placed → Instr80 → Bool
reaches_in long x (Jif on goal) = may_be_short (place_of long (Skip x.at)) (place_of long (label_of_goal goal))
reaches_in long x i = false

abbrev pub lean_style : Needs → Program → Style
lean_style n p = record (long_style n) { shortens = λ x. reaches_in (styled_statements (long_style n) p) x x.instr }

-- the lean text of a program by what is needed, with its lines numbered from 1
abbrev pub lean : Needs → Program → List Line86
lean n p = styled (lean_style n p) p

-- lines are the lean text of a program, by what is needed in it
abbrev pub IsLean : Program → List Line86 → Type 0
IsLean p lines = (n : Needs) × AreAllNeeds p n × (lines ≡ lean n p)
