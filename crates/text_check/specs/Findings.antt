-- What is found of a text: it is shown, with so many blocks, or the first reason why not.
use Rattle.std.specs.Prelude.{◌≡◌, ℕ, List, [], ◌∷◌, length, Option, Some, None}
use Rattle.asm86_line_types.specs.declared.line.Stmt86.{Stmt86}
use Rattle.asm86_line_types.specs.declared.line.Line86.{Line86}
use Rattle.asm86_line_types.specs.Image.{Image, IsImage, statements}
use Rattle.asm80_types.specs.Program.{Program}
use Rattle.flow.specs.Blocks.{blocks}
use Rattle.flow.specs.Solving.{Needs, AreAllNeeds}
use Rattle.sym_block_def.specs.declared.reason.Reason.{Reason}
use Rattle.sym_block_def.specs.declared.reason.Reason.TheVariants.{Opening, Runtime, DataPart}
use Rattle.sym_block_def.specs.Block80.{block80}
use Rattle.sym_block_def.specs.Walk86.{walk86}
use Rattle.simulation_def.specs.Runtime.{HasRuntime}
use Rattle.block_check.specs.Comparing.{WorkState}
use Rattle.simulation_def.specs.Matches.{HasOpening, Finds}
use Rattle.simulation_def.specs.Needed.{needed_by}
use Rattle.text_check.specs.Parts.{DataStandIn}
use Rattle.block_check.specs.Comparing.{HoldsOutcomes}
use Rattle.text_check.specs.declared.finding.Finding.{Finding}
use Rattle.text_check.specs.declared.finding.Finding.TheVariants.{Shown, NotShown}

-- nothing, or the address of a block and the reason
abbrev pub reason_in : Finding → Option (ℕ × Reason)
reason_in (Shown count) = None
reason_in (NotShown at reason) = Some (at, reason)

-- what is shown are all the blocks
abbrev pub CountsBlocks : Program → Finding → Type 0
CountsBlocks p (Shown count) = count ≡ length (blocks p)
CountsBlocks p (NotShown at reason) = Unit {0}

-- what is found of lines, where each block keeps what is needed at its first address, and a return what is needed there
pub record IsFinding (p : Program) (lines : List Line86) (finding : Finding) : Type 0 where
  pub needs : Needs
  pub are : AreAllNeeds p needs
  pub finds : Finds p lines (blocks p) (needed_by p needs) (reason_in finding)
  pub counts : CountsBlocks p finding

-- statements and an image are of these lines
pub record AreOfLines (text : List Stmt86) (image : Image) (lines : List Line86) : Type 0 where
  pub stated : text ≡ statements lines
  pub made : IsImage lines image

-- what is looked at before the blocks: a text has it all, or lacks the first of it
pub record HasFrame (p : Program) (text : List Stmt86) (image : Image) : Type 0 where
  pub opening : HasOpening p text
  pub runtime : HasRuntime text
  pub cells : DataStandIn p image

pub data Lacks (p : Program) (text : List Stmt86) (image : Image) : Reason → Type 0 where
  opening : (HasOpening p text → ⊥) → Lacks p text image Opening
  runtime : HasOpening p text → (HasRuntime text → ⊥) → Lacks p text image Runtime
  cells : HasOpening p text → HasRuntime text → (DataStandIn p image → ⊥) → Lacks p text image DataPart

-- ---- the work that is left

-- the last of some blocks
abbrev pub last_of : List (ℕ × ℕ) → Option (ℕ × ℕ)
last_of [] = None
last_of (b ∷ []) = Some b
last_of (b ∷ (c ∷ cs)) = last_of (c ∷ cs)

-- a work holds the outcomes of a block, and of the walk through a text at its label with what is needed there
abbrev pub HoldsBlock : Program → List Stmt86 → Needs → WorkState → ℕ × ℕ → Type 0
HoldsBlock p text n work b = HoldsOutcomes work (block80 p b.0 b.1) (walk86 p text ((needed_by p n).at b.0) b.0 b.1)

-- a work holds what the check of the last block leaves in it
abbrev pub HoldsLast : Program → List Stmt86 → WorkState → Type 0
HoldsLast p text work = (n : Needs) (b : ℕ × ℕ) → AreAllNeeds p n → last_of (blocks p) ≡ Some b → HoldsBlock p text n work b

-- a claim on what is shown
abbrev pub IfShown : Finding → Type 0 → Type 0
IfShown (Shown count) claim = claim
IfShown (NotShown at reason) claim = Unit {0}

-- ---- a law

-- of lines one thing is found
abbrev pub OneFinding : Type 0
OneFinding = (p : Program) (lines : List Line86) (f g : Finding) → IsFinding p lines f → IsFinding p lines g → f ≡ g
