-- One block is linked: from linked runs at a block, or at EXIT, so many turns of the tagged 8080 and some of the 8086 lead to runs that
-- are paired.
use Rattle.std.specs.Prelude.{◌≡◌, ℕ, ◌<◌, ◌≤◌, ◌*◌, List, [], ◌∷◌, All, Option, None}
use Rattle.cells.specs.declared.Rule.{Rule}
use Rattle.i86.specs.declared.Instr86.{Instr86}
use Rattle.i86.specs.Code.{ReadsCode}
use Rattle.dialogue.specs.declared.blocks.Block.{Block}
use Rattle.dialogue.specs.declared.request.Reply.{Reply}
use Rattle.dialogue.specs.Run.{Run, turns, IsNotStopped}
use Rattle.asm86_line_types.specs.declared.line.Label.{Label}
use Rattle.asm86_line_types.specs.declared.line.Line86.{Line86}
use Rattle.asm86_line_types.specs.Image.{Assembles, image_of, statements}
use Rattle.asm80_types.specs.Program.{Program, IsProgram}
use Rattle.cpu80_tagged.specs.State.{State80}
use Rattle.cpu80_tagged.specs.Step.{machine80}
use Rattle.cpu86.specs.State.{State86}
use Rattle.cpu86.specs.Call.{Stop}
use Rattle.cpu86.specs.Step.{machine86}
use Rattle.sym_block_def.specs.BlockMatch.{Keeps, block_reason}
use Rattle.sym_block_def.specs.Sorts.{StatementsAreCoded}
use Rattle.simulation_def.specs.Runs86.{offsets_of}
use Rattle.simulation_def.specs.Runtime.{HasRuntime}
use Rattle.simulation_def.specs.Linked.{HasBlock, HasBlockAt, Linked, Paired}
use Rattle.simulation_def.specs.Cuts.{IsCut, ReturnsKeep}

-- what replies write are bytes
abbrev pub BlocksAreBytes : List Block → Type 0
BlocksAreBytes [] = Unit {0}
BlocksAreBytes (b ∷ bs) = All (λ n. n < 256) b.bytes × BlocksAreBytes bs

abbrev pub WriteBytes : List Reply → Type 0
WriteBytes [] = Unit {0}
WriteBytes (y ∷ ys) = BlocksAreBytes y.writes × WriteBytes ys

-- a text that assembles, with the runtime, matches each block of a cut of the program
pub record BlocksMatch (p : Program) (lines : List Line86) (cut : List (ℕ × ℕ)) (keeps : Keeps) : Type 0 where
  pub program : IsProgram p
  pub assembles : Assembles lines
  pub coded : StatementsAreCoded (statements lines)
  pub runtime : HasRuntime (statements lines)
  pub is_cut : IsCut p cut
  pub returns : ReturnsKeep p keeps
  pub match : (first count : ℕ) → HasBlock cut first count → block_reason p (statements lines) keeps first count ≡ None

-- After the turns of a block of the 8080 and some of the 8086 the runs are paired, unless the 8080 left the profile; and an event
-- joins the dialogue in the last of these turns of the 8080 alone.
pub record BlockLinks (p : Program) (offset : Label → Option ℕ) (cut : List (ℕ × ℕ)) (keeps : Keeps) (fetch : ℕ → Option Instr86) (choices : List ℕ) (count : ℕ) (x : Run State80 Rule) (y : Run State86 Stop) : Type 0 where
  pub turns86 : ℕ
  pub some : 1 ≤ turns86
  pub few : turns86 ≤ 16 * count
  pub quiet : (i : ℕ) → i < count → (turns (machine80 p) [] i x).dialogue ≡ x.dialogue
  pub paired : IsNotStopped (turns (machine80 p) [] count x).status → Paired p offset cut keeps (turns (machine80 p) [] count x) (turns (machine86 fetch) choices turns86 y)

abbrev pub BlocksAreLinked : Type 0
BlocksAreLinked =
    (p : Program) (lines : List Line86) (cut : List (ℕ × ℕ)) (keeps : Keeps) (fetch : ℕ → Option Instr86) (choices : List ℕ)
    (count : ℕ) (x : Run State80 Rule) (y : Run State86 Stop) →
    BlocksMatch p lines cut keeps →
    ReadsCode (image_of lines).code fetch →
    HasBlockAt cut x.state.place count →
    Linked p (offsets_of lines) cut keeps x y →
    WriteBytes x.replies →
    BlockLinks p (offsets_of lines) cut keeps fetch choices count x y
