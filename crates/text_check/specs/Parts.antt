-- The parts of a text, as they are looked at.
use Rattle.std.specs.Prelude.{◌≡◌, ℕ, List, ◌∷◌, ◌++◌, Some}
use Rattle.cells.specs.declared.Cell.{Cell}
use Rattle.asm86_line_types.specs.declared.line.Label.TheVariants.{At}
use Rattle.asm86_line_types.specs.declared.line.Stmt86.{Stmt86}
use Rattle.asm86_line_types.specs.declared.line.Stmt86.TheVariants.{Cseg, Mark}
use Rattle.asm86_line_types.specs.Image.{Image, offset_in}
use Rattle.templates.specs.Plain.{prologue}
use Rattle.asm80_types.specs.Program.{Program, cell_at}
use Rattle.sym_block_def.specs.Stands.{Stands}
use Rattle.simulation_def.specs.Linked.{places}
use Rattle.simulation_def.specs.Matches.{byte_at}

-- what stands behind the opening for a top of the program area
abbrev pub Opens : ℕ → List Stmt86 → List Stmt86 → Type 0
Opens top text rest = text ≡ Cseg ∷ (prologue top ++ Mark (At 0x100) ∷ rest)

-- the image's cell at an address is there, and a cell of the program stands for it
abbrev pub CellStands : Image → ℕ → Cell → Type 0
CellStands image a c = (b : ℕ) × (byte_at image.cells a ≡ Some b) × Stands (places (offset_in image.labels)) c b

-- each data cell of a program stands for an image's cell at its address
abbrev pub DataStandIn : Program → Image → Type 0
DataStandIn p image = (a : ℕ) (c : Cell) → cell_at p a ≡ Some c → CellStands image a c
