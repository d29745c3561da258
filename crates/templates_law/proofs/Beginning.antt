-- Runs that are paired are linked while the first goes on.
use Rattle.std.proofs.Common.{◌≡◌, ℕ, List, Option, sym, ◌∙◌}
use Rattle.cells.specs.declared.Rule.{Rule}
use Rattle.dialogue.specs.Run.{Run, Going, Waiting, Over}
use Rattle.asm86_line_types.specs.declared.line.Label.{Label}
use Rattle.asm80_types.specs.Program.{Program}
use Rattle.cpu80_tagged.specs.State.{State80}
use Rattle.cpu86.specs.State.{State86}
use Rattle.cpu86.specs.Call.{Stop}
use Rattle.sym_block_def.specs.BlockMatch.{Keeps}
use Rattle.simulation_def.specs.Linked.{Linked, Paired, linked, ended, waiting}

pub linked_while_going : (p : Program) (offset : Label → Option ℕ) (cut : List (ℕ × ℕ)) (keeps : Keeps) (x : Run State80 Rule) (y : Run State86 Stop) → x.status ≡ Going → Paired p offset cut keeps x y → Linked p offset cut keeps x y
linked_while_going p offset cut keeps x y going (linked h) = h
linked_while_going p offset cut keeps x y going (ended over other said) = let no_end : Over ≡ Going = sym over ∙ going in absurd cc
linked_while_going p offset cut keeps x y going (waiting waits other said) = let no_wait : Waiting ≡ Going = sym waits ∙ going in absurd cc
