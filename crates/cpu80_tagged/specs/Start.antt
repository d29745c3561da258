-- The start of a program, and its run.
use Rattle.std.specs.Prelude.{◌≡◌, ℕ, ◌-◌, ◌/◌, ◌%◌, ◌<◌, ◌==◌, ◌&&◌, nat_lt, nat_le, if◌then◌else◌, List, [], length, All, Option, Some, None, slice_index}
use Rattle.cells.specs.declared.Place.TheVariants.{At, Exit}
use Rattle.cells.specs.declared.Cell.{Cell}
use Rattle.cells.specs.declared.Cell.TheVariants.{Num, Lo, Hi, Junk}
use Rattle.cells.specs.declared.Rule.{Rule}
use Rattle.cells.specs.Conditions.{unknown_flags}
use Rattle.dialogue.specs.declared.request.Reply.{Reply}
use Rattle.dialogue.specs.Run.{Run, turns, start_run}
use Rattle.asm80_types.specs.Program.{Program, cell_at}
use Rattle.cpu80_tagged.specs.State.{State80, junk_regs}
use Rattle.cpu80_tagged.specs.Step.{machine80}

-- a start page: the 164 bytes of cells 5CH to 0FFH
pub record IsPage (page : List ℕ) : Type 0 where
  pub size : length page ≡ 164
  pub bytes : All (λ b. b < 256) page

abbrev pub cell_or_junk : Option Cell → Cell
cell_or_junk (Some v) = v
cell_or_junk None = Junk

-- the cells at the start: the top of the area at 6, the page, the return to the end on the stack, the program's data; of
-- all others nothing is known
abbrev pub start_cell80 : Program → List ℕ → ℕ → Cell
start_cell80 p page a =
    if a == 6 then Num (p.top % 256) else
    if a == 7 then Num (p.top / 256) else
    if nat_le 0x5C a && nat_lt a 0x100 then Num (slice_index page (a - 0x5C)) else
    if a == p.top - 2 then Lo Exit else
    if a == p.top - 1 then Hi Exit else
    cell_or_junk (cell_at p a)

abbrev pub start80 : Program → List ℕ → State80
start80 p page = record {
  regs = junk_regs;
  flags = unknown_flags;
  sp = p.top - 2;
  mem = start_cell80 p page;
  place = At 0x100;
  dma = 0x80;
}

-- the run of a program after n turns, with a start page and replies
abbrev pub run80 : Program → List ℕ → List Reply → ℕ → Run State80 Rule
run80 p page replies n = turns (machine80 p) [] n (start_run (start80 p page) replies)
