-- The places that are taken: those to which control comes by a return or by PCHL, since their addresses are stored or loaded.
use Rattle.std.specs.Prelude.{ℕ, ◌+◌, ◌%◌, ◌==◌, Bool, List, ◌++◌, filter, filter_map, Option, Some, None}
use Rattle.std.specs.List.{list_any}
use Rattle.cells.specs.declared.Cell.{Cell}
use Rattle.cells.specs.declared.Cell.TheVariants.{Lo}
use Rattle.cells.specs.declared.Place.TheVariants.{At as AtPlace}
use Rattle.i80.specs.declared.Goal.{Goal}
use Rattle.i80.specs.declared.Goal.TheVariants.{At}
use Rattle.i80.specs.declared.Instr80.{Instr80}
use Rattle.i80.specs.declared.Instr80.TheVariants.{Call, Cif, Lxi}
use Rattle.asm80_types.specs.declared.program.Placed.{Placed}
use Rattle.asm80_types.specs.Program.{Program, if_code, starts}

-- a place, behind a call of an instruction
abbrev pub if_calls : ℕ → Goal → Option ℕ
if_calls place (At a) = Some place
if_calls place g = None

-- of an instruction at an address: behind a call of an instruction, the place at which it ends; the code address that LXI loads
abbrev pub place_taken_by : ℕ → Instr80 → Option ℕ
place_taken_by at (Call g) = if_calls ((at + 3) % 0x10000) g
place_taken_by at (Cif c g) = if_calls ((at + 3) % 0x10000) g
place_taken_by at (Lxi p w) = if_code w
place_taken_by at i = None

abbrev pub place_placed : Placed → Option ℕ
place_placed x = place_taken_by x.at x.instr

-- of a data cell: the code address whose low half it holds
abbrev pub place_held : Cell → Option ℕ
place_held (Lo (AtPlace a)) = Some a
place_held c = None

abbrev pub place_in_cell : ℕ × Cell → Option ℕ
place_in_cell c = place_held c.1

abbrev pub places_taken : List Placed → List (ℕ × Cell) → List ℕ
places_taken instrs cells = filter_map place_placed instrs ++ filter_map place_in_cell cells

abbrev pub is_taken_place : List Placed → List (ℕ × Cell) → ℕ → Bool
is_taken_place instrs cells a = list_any (λ b. b == a) (places_taken instrs cells)

abbrev pub takes : Program → ℕ → Bool
takes p a = is_taken_place p.instrs p.cells a

-- those at which an instruction starts
abbrev pub taken_places : Program → List ℕ
taken_places p = filter (takes p) (starts p)
