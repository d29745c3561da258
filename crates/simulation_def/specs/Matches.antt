-- When a text matches its program, and else the first reason why not: its opening, the runtime, the data, and then the blocks of a cut,
-- ascending.
use Rattle.std.specs.Prelude.{◌≡◌, ℕ, ◌<◌, ◌==◌, cond, List, [], ◌∷◌, ◌++◌, Option, Some, None}
use Rattle.cells.specs.declared.Cell.{Cell}
use Rattle.asm86_line_types.specs.declared.line.Label.TheVariants.{At}
use Rattle.asm86_line_types.specs.declared.line.Value16.TheVariants.{Num}
use Rattle.asm86_line_types.specs.declared.line.Stmt86.{Stmt86}
use Rattle.asm86_line_types.specs.declared.line.Stmt86.TheVariants.{Cseg, Db, Dw, Mark}
use Rattle.asm86_line_types.specs.declared.line.Line86.{Line86}
use Rattle.asm86_line_types.specs.Image.{image_of, statements}
use Rattle.asm80_types.specs.Program.{Program, cell_at}
use Rattle.templates.specs.Plain.{prologue}
use Rattle.sym_block_def.specs.declared.reason.Reason.{Reason}
use Rattle.sym_block_def.specs.declared.reason.Reason.TheVariants.{Opening, Runtime, DataPart}
use Rattle.sym_block_def.specs.BlockMatch.{Keeps, block_reason}
use Rattle.sym_block_def.specs.Stands.{Stands}
use Rattle.simulation_def.specs.Runs86.{offsets_of}
use Rattle.simulation_def.specs.Runtime.{HasRuntime}
use Rattle.simulation_def.specs.Linked.{places}

-- the statements begin with CSEG, the prologue for the program's top, and the label of 100H
pub record HasOpening (p : Program) (text : List Stmt86) : Type 0 where
  pub rest : List Stmt86
  pub is : text ≡ Cseg ∷ (prologue p.top ++ Mark (At 0x100) ∷ rest)

-- the byte of an image's cell at an address; no address has two cells
abbrev pub first_or : Option ℕ → Option ℕ → Option ℕ
first_or (Some b) later = Some b
first_or None later = later

abbrev pub byte_at : List (ℕ × ℕ) → ℕ → Option ℕ
byte_at [] a = None
byte_at (c ∷ cs) a = first_or (byte_at cs a) (cond (c.0 == a) (Some c.1) None)

-- each data cell of the program stands for the image's cell at its address
abbrev pub DataStands : Program → List Line86 → Type 0
DataStands p lines =
    (a : ℕ) (c : Cell) → cell_at p a ≡ Some c → (b : ℕ) × (byte_at (image_of lines).cells a ≡ Some b) × Stands (places (offsets_of lines)) c b

-- the first block with a reason, and the reason
abbrev pub or_next : ℕ → Option Reason → Option (ℕ × Reason) → Option (ℕ × Reason)
or_next first (Some r) next = Some (first, r)
or_next first None next = next

abbrev pub blocks_reason : Program → List Stmt86 → Keeps → List (ℕ × ℕ) → Option (ℕ × Reason)
blocks_reason p text keeps [] = None
blocks_reason p text keeps (b ∷ bs) = or_next b.0 (block_reason p text keeps b.0 b.1) (blocks_reason p text keeps bs)

-- a text matches its program by a cut and the parts that are kept
pub record Matches (p : Program) (lines : List Line86) (cut : List (ℕ × ℕ)) (keeps : Keeps) : Type 0 where
  pub opening : HasOpening p (statements lines)
  pub runtime : HasRuntime (statements lines)
  pub cells : DataStands p lines
  pub blocks : blocks_reason p (statements lines) keeps cut ≡ None

-- what is found of a text: nothing, where it matches; else the first reason, with the block's first address, or 0 for what is looked
-- at before the blocks
pub data Finds (p : Program) (lines : List Line86) (cut : List (ℕ × ℕ)) (keeps : Keeps) : Option (ℕ × Reason) → Type 0 where
  opening : (HasOpening p (statements lines) → ⊥) → Finds p lines cut keeps (Some (0, Opening))
  runtime : HasOpening p (statements lines) → (HasRuntime (statements lines) → ⊥) → Finds p lines cut keeps (Some (0, Runtime))
  cells : HasOpening p (statements lines) → HasRuntime (statements lines) → (DataStands p lines → ⊥) → Finds p lines cut keeps (Some (0, DataPart))
  blocks : HasOpening p (statements lines) → HasRuntime (statements lines) → DataStands p lines → Finds p lines cut keeps (blocks_reason p (statements lines) keeps cut)

-- the data of a text are bytes and words
abbrev pub DatumIsCoded : Stmt86 → Type 0
DatumIsCoded (Db n) = n < 0x100
DatumIsCoded (Dw (Num w)) = w < 0x10000
DatumIsCoded x = Unit {0}

abbrev pub DataAreCoded : List Stmt86 → Type 0
DataAreCoded [] = Unit {0}
DataAreCoded (x ∷ xs) = DatumIsCoded x × DataAreCoded xs
