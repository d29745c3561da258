-- A list of uses that is the program's gives a call the definition's view of memory.
use Rattle.std.proofs.Common.{◌≡◌, ℕ, Bool, List, ◌∙◌, ap}
use mathlib.Core.Path.{fun_ext}
use Rattle.cells.specs.declared.Cell.{Cell}
use Rattle.asm80_types.specs.Program.{Program}
use Rattle.cpu80_tagged.specs.State.{State80}
use Rattle.cpu80_tagged.specs.Memory.{is_closed}
use Rattle.cpu80_tagged.specs.Call.{seen_by_tagged}
use Rattle.cpu80_tagged.specs.declared.area.CellUse.{CellUse}
use Rattle.cpu80_tagged.specs.Area.{HasUses}
use Rattle.cpu80_tagged.specs.Sight.{seen_over, closed_in}

pub same_closed : (p : Program) (uses : List CellUse) → HasUses p uses → closed_in uses ≡ is_closed p
same_closed p uses h = fun_ext (λ a. h.closed a)

pub same_seen : (p : Program) (s : State80) (uses : List CellUse) (mem : ℕ → Cell) (is_popped : Bool) → HasUses p uses → mem ≡ s.mem → seen_over (closed_in uses) mem s.sp is_popped ≡ seen_by_tagged p s is_popped
same_seen p s uses mem is_popped h e =
    ap (λ (m : ℕ → Cell). seen_over (closed_in uses) m s.sp is_popped) e
    ∙ ap (λ (f : ℕ → Bool). seen_over f s.mem s.sp is_popped) (same_closed p uses h)
