-- Why a text is not shown for a program: what is said of each block that does not match, ascending, or of what stands before the blocks.
use Rattle.std.specs.Prelude.{◌≡◌, ◌≢◌, ℕ, ◌-◌, Bool, true, false, List, [], ◌∷◌, ◌++◌, Option, Some, None}
use Rattle.cells.specs.declared.Cell.{Cell}
use Rattle.asm80_types.specs.Program.{Program, line_at}
use Rattle.asm86_line_types.specs.declared.line.Label.TheVariants.{At}
use Rattle.asm86_line_types.specs.declared.line.Line86.{Line86}
use Rattle.asm86_line_types.specs.declared.line.Stmt86.{Stmt86}
use Rattle.asm86_line_types.specs.declared.line.Stmt86.TheVariants.{Cseg, Mark}
use Rattle.asm86_line_types.specs.Image.{Image, statements}
use Rattle.flow.specs.Blocks.{blocks, place_after}
use Rattle.flow.specs.Solving.{Needs, AreAllNeeds}
use Rattle.templates.specs.Plain.{prologue}
use Rattle.sym_block_def.specs.declared.reason.Reason.{Reason}
use Rattle.sym_block_def.specs.declared.reason.Reason.TheVariants.{Opening, Runtime, DataPart, Length, Form}
use Rattle.sym_block_def.specs.Block80.{block80}
use Rattle.sym_block_def.specs.Walk86.{after_label, walk86}
use Rattle.sym_block_def.specs.BlockMatch.{Keeps, block_reason}
use Rattle.simulation_def.specs.Matches.{byte_at}
use Rattle.simulation_def.specs.Needed.{needed_by}
use Rattle.sym_run.specs.Stop.{walk_end}
use Rattle.block_explain.specs.Explained.{LinesAre}
use Rattle.text_check.specs.Parts.{CellStands}
use Rattle.text_check.specs.Findings.{HasFrame, Lacks}
use Rattle.cmd_explain.specs.Lines.{block_line, source_lines, text_line, ends_at, wanted_line, runtime_line, data_line, found_line}

-- ---- lines of the text by what stands after them

-- after this line of the text these statements are left
pub record StandsBefore (lines : List Line86) (x : Line86) (rest : List Stmt86) : Type 0 where
  pub before : List Line86
  pub after : List Line86
  pub cut : lines ≡ before ++ x ∷ after
  pub left : rest ≡ statements after

-- the statement at which a walk ended, by what is left from it on
pub record EndTold (lines : List Line86) (end : Option (List Stmt86)) (text : List ℕ) : Type 0 where
  pub before : List Line86
  pub from : List Line86
  pub cut : lines ≡ before ++ from
  pub left : end ≡ Some (statements from)
  pub is : text ≡ ends_at from

-- ---- a block

-- the reasons for which the walk through the text ends before it comes to an outcome, where the text has the block's label
abbrev pub ends_walk : Reason → Bool
ends_walk Length = true
ends_walk Form = true
ends_walk reason = false

module _ (p : Program) (lines : List Line86) (keeps : Keeps) (first count : ℕ) where
  -- where the walk ended, or what of both sides does not agree
  abbrev pub ReasonTold : Bool → Reason → List ℕ → Type 0
  ReasonTold true reason text = EndTold lines (walk_end p (statements lines) first count) text
  ReasonTold false reason text = LinesAre reason (block80 p first count) (walk86 p (statements lines) (keeps.at first) first count) text

  -- the line of the block's label, which stands before these statements, and then the reason
  pub record LabelTold (reason : Reason) (rest : List Stmt86) (text : List ℕ) : Type 0 where
    pub label : Line86
    pub stands : StandsBefore lines label rest
    pub why : List ℕ
    pub told : ReasonTold (ends_walk reason) reason why
    pub is : text ≡ text_line label.line ++ why

  -- of a text in which the block's label is missing no more is told
  abbrev pub WhyTold : Reason → Option (List Stmt86) → List ℕ → Type 0
  WhyTold reason None text = text ≡ []
  WhyTold reason (Some rest) text = LabelTold reason rest text

  -- the block with its reason, and the lines of its first and of its last instruction
  pub record BlockTold (reason : Reason) (text : List ℕ) : Type 0 where
    pub from : ℕ
    pub to : ℕ
    pub starts : line_at p first ≡ Some from
    pub ends : line_at p (place_after p first (count - 1)) ≡ Some to
    pub why : List ℕ
    pub told : WhyTold reason (after_label (statements lines) (At first)) why
    pub is : text ≡ (block_line first reason ++ source_lines from to) ++ why

  -- of a block that matches nothing is said
  abbrev pub ToldIfAny : Option Reason → List ℕ → Type 0
  ToldIfAny None text = text ≡ []
  ToldIfAny (Some reason) text = BlockTold reason text

-- of several blocks, one after the other
abbrev pub BlocksTold : Program → List Line86 → Keeps → List (ℕ × ℕ) → List ℕ → Type 0
BlocksTold p lines keeps [] text = text ≡ []
BlocksTold p lines keeps (b ∷ bs) text =
    (own : List ℕ) × (rest : List ℕ) × ToldIfAny p lines keeps b.0 b.1 (block_reason p (statements lines) keeps b.0 b.1) own × BlocksTold p lines keeps bs rest × (text ≡ own ++ rest)

-- ---- what stands before the blocks

-- what a text begins with: CSEG, the prologue, and the label of 100H
abbrev pub opening : Program → List Stmt86
opening p = Cseg ∷ (prologue p.top ++ Mark (At 0x100) ∷ [])

-- the first statement that is not the one that is wanted there
abbrev pub IsUnlike : Stmt86 → List Line86 → Type 0
IsUnlike wanted [] = Unit {0}
IsUnlike wanted (x ∷ xs) = x.stmt ≢ wanted

pub data OpeningTold : List Stmt86 → List Line86 → List ℕ → Type 0 where
  unlike : {wanted : Stmt86} {more : List Stmt86} {xs : List Line86} → IsUnlike wanted xs → OpeningTold (wanted ∷ more) xs (ends_at xs ++ wanted_line wanted)
  alike : {wanted : Stmt86} {more : List Stmt86} {x : Line86} {xs : List Line86} {text : List ℕ} → x.stmt ≡ wanted → OpeningTold more xs text → OpeningTold (wanted ∷ more) (x ∷ xs) text

-- the first data cell that does not stand for the image's cell at its address
pub data DataTold (image : Image) : List (ℕ × Cell) → List ℕ → Type 0 where
  apart : {a : ℕ} {c : Cell} {more : List (ℕ × Cell)} → (CellStands image a c → ⊥) → DataTold image ((a, c) ∷ more) (data_line a c ++ found_line (byte_at image.cells a))
  stands : {a : ℕ} {c : Cell} {more : List (ℕ × Cell)} {text : List ℕ} → CellStands image a c → DataTold image more text → DataTold image ((a, c) ∷ more) text

abbrev pub FrameTold : Program → List Line86 → Image → Reason → List ℕ → Type 0
FrameTold p lines image Opening text = OpeningTold (opening p) lines text
FrameTold p lines image Runtime text = text ≡ runtime_line
FrameTold p lines image DataPart text = DataTold image p.cells text
FrameTold p lines image reason text = text ≡ []

-- ---- a text

-- What is said of the lines of a text with an image: what it lacks of what stands before the blocks; or, where it lacks nothing of that,
-- the blocks that do not match, each with what is needed at its first address kept.
pub data Explained (p : Program) (lines : List Line86) (image : Image) : List ℕ → Type 0 where
  frame : {text : List ℕ} (reason : Reason) → Lacks p (statements lines) image reason → FrameTold p lines image reason text → Explained p lines image text
  of_blocks : {text : List ℕ} → HasFrame p (statements lines) image → (n : Needs) → AreAllNeeds p n → BlocksTold p lines (needed_by p n) (blocks p) text → Explained p lines image text
