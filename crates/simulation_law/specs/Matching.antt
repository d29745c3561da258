-- What becomes of linked runs at a block that the text matches.
use Rattle.std.specs.Prelude.{◌≡◌, ℕ, true, false, List, Option, None, Ok, ◌⊎◌}
use Rattle.cells.specs.declared.Place.TheVariants.{At}
use Rattle.cells.specs.declared.Rule.{Rule}
use Rattle.cells.specs.declared.Part.{Part}
use Rattle.cells.specs.Parts.{has}
use Rattle.i86.specs.declared.Instr86.{Instr86}
use Rattle.i86.specs.Code.{ReadsCode}
use Rattle.dialogue.specs.Run.{Run}
use Rattle.asm86_line_types.specs.declared.line.Line86.{Line86}
use Rattle.asm86_line_types.specs.Image.{Assembles, image_of, statements}
use Rattle.asm80_types.specs.Program.{Program, IsProgram}
use Rattle.cpu80_tagged.specs.State.{State80}
use Rattle.cpu86.specs.State.{State86}
use Rattle.cpu86.specs.Call.{Stop}
use Rattle.sym_terms.specs.Values86.{Env86}
use Rattle.sym_block_def.specs.Outcome.{Outcome}
use Rattle.sym_block_def.specs.Block80.{MayRun, block80}
use Rattle.sym_block_def.specs.Walk86.{walk86}
use Rattle.sym_block_def.specs.Agree.{way_agrees, exit_agrees}
use Rattle.sym_block_def.specs.BlockMatch.{Keeps, kept_after_way, lost_by, is_last, block_reason}
use Rattle.sym_block_def.specs.Sorts.{WayIsSorted, StatementsAreCoded}
use Rattle.simulation_def.specs.Runs80.{env80, BlockRuns80, BlockLeaves80}
use Rattle.simulation_def.specs.Runs86.{with_loads, offsets_of, WalkRuns86}
use Rattle.simulation_def.specs.Linked.{StandsIn, places, Linked}
use Rattle.simulation_law.specs.Linked.{EnvsStand}
use Rattle.simulation_law.specs.Replayed.{MemoryStands}
use Rattle.simulation_law.specs.Environments.{HasLabels}

-- Both machines run the block. What they have loaded and what stands in memory then stand for one another, and so do SP and the parts
-- that are kept where the 8080 goes. The ways that they go agree; and where the text calls the system by INT 224 itself, no part is
-- needed that this loses.
pub record BlocksStand (p : Program) (lines : List Line86) (fetch : ℕ → Option Instr86) (choices : List ℕ) (used : ℕ) (keeps : Keeps) (first count : ℕ) (s : State80) (t : State86) : Type 0 where
  pub outcome : Outcome
  pub walked : walk86 p (statements lines) (keeps.at first) first count ≡ Ok outcome
  pub env : Env86
  pub run80 : BlockRuns80 p count (block80 p first count) s
  pub run86 : WalkRuns86 p fetch (offsets_of lines) choices used count outcome t env
  pub envs : EnvsStand (places (offsets_of lines)) (env80 s run80.loads) (with_loads env run86.loads)
  pub memory : MemoryStands p (places (offsets_of lines)) run80.ended.mem run86.ended.mem
  pub dma : run86.ended.dma ≡ run80.ended.dma
  pub segments : run86.ended.ss ≡ run86.ended.ds
  pub exits : exit_agrees (block80 p first count).exit outcome.exit ≡ true
  pub ways : way_agrees run80.way run86.way ≡ true
  pub way_is_sorted : WayIsSorted run86.way
  pub parts : (q : Part) → has (kept_after_way keeps run80.way) q ≡ true → StandsIn (places (offsets_of lines)) run80.ended run86.ended q
  pub sp : is_last run80.way ≡ false → run86.ended.sp ≡ run80.ended.sp
  pub not_lost : (q : Part) → outcome.direct ≡ true → has (lost_by keeps (block80 p first count).exit) q ≡ false

abbrev pub MatchingBlocksStand : Type 0
MatchingBlocksStand =
    (p : Program) (lines : List Line86) (fetch : ℕ → Option Instr86) (choices : List ℕ) (cut : List (ℕ × ℕ)) (keeps : Keeps)
    (first count : ℕ) (x : Run State80 Rule) (y : Run State86 Stop) →
    IsProgram p →
    Assembles lines →
    StatementsAreCoded (statements lines) →
    ReadsCode (image_of lines).code fetch →
    MayRun p first count →
    block_reason p (statements lines) keeps first count ≡ None →
    HasLabels p (offsets_of lines) →
    Linked p (offsets_of lines) cut keeps x y →
    x.state.place ≡ At first →
    BlockLeaves80 p count x.state ⊎ BlocksStand p lines fetch choices y.used keeps first count x.state y.state
