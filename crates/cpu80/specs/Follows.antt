-- The laws that tie the tagged machine to the one over untagged bytes.
use Rattle.std.specs.Prelude.{◌≡◌, ℕ, ◌<◌, true, List, All, Some}
use Rattle.cells.specs.declared.Cell.{Cell}
use Rattle.cells.specs.declared.Rule.{Rule}
use Rattle.i80.specs.declared.Instr80.{Instr80}
use Rattle.dialogue.specs.declared.blocks.Block.{Block}
use Rattle.dialogue.specs.declared.request.Reply.{Reply}
use Rattle.dialogue.specs.Run.{Run, IsNotStopped, turns, start_run}
use Rattle.asm80_types.specs.Program.{Program, IsProgram, instr_at, cell_at, is_code}
use Rattle.cpu80_tagged.specs.State.{State80}
use Rattle.cpu80_tagged.specs.Start.{IsPage, run80}
use Rattle.dialogue.specs.Fill.{IsFill}
use Rattle.cpu80.specs.State.{UntaggedState}
use Rattle.cpu80.specs.Call.{Stop}
use Rattle.cpu80.specs.Step.{Fetch, act_at, return_of, untagged_machine}
use Rattle.cpu80.specs.Start.{byte_of_cell, system_byte, start_over, run_untagged}

-- what a reply writes are bytes
abbrev pub WritesBytes : Reply → Type 0
WritesBytes y = All (λ (b : Block). All (λ n. n < 256) b.bytes) y.writes

-- a run over untagged bytes has followed one of the tagged machine: it has said the same, and has not stopped
pub record HasFollowed (x : Run State80 Rule) (y : Run UntaggedState Stop) : Type 0 where
  pub dialogue : y.dialogue ≡ x.dialogue
  pub goes_on : IsNotStopped y.status

-- Where a run of the tagged machine has stayed in the profile, the untagged 8080, from any fill of memory and with any
-- choices for what is unknown, has said the same after as many turns, and has not stopped.
unfoldable pub PlainFollows : Type 0
PlainFollows =
    (p : Program) (page fill choices : List ℕ) (replies : List Reply) (n : ℕ) →
    IsProgram p →
    IsPage page →
    IsFill fill →
    All WritesBytes replies →
    IsNotStopped (run80 p page replies n).status →
    HasFollowed (run80 p page replies n) (run_untagged p page fill choices replies n)

-- the same of other fetches

-- memory of bytes in which the cells of a program's instructions hold what they hold in another one
pub record HoldsCode (p : Program) (held mem : ℕ → ℕ) : Type 0 where
  pub bytes : (a : ℕ) → mem a < 256
  pub code : (a : ℕ) → is_code p a ≡ true → mem a ≡ held a

-- a fetch takes an instruction at an address that does what this one does, and that asks with the same return
pub record TakesAs (fetch : Fetch) (u : UntaggedState) (at : ℕ) (i : Instr80) : Type 0 where
  pub acts : (choice : ℕ) → act_at u at (fetch u at) choice ≡ act_at u at (Some i) choice
  pub returns : return_of u at (fetch u at) ≡ return_of u at (Some i)

-- a fetch takes the program's instructions, as long as the cells of instructions hold what they held
abbrev pub TakesProgram : Fetch → Program → (ℕ → ℕ) → Type 0
TakesProgram fetch p held = (u : UntaggedState) (at : ℕ) (i : Instr80) → HoldsCode p held u.mem → instr_at p at ≡ Some i → TakesAs fetch u at i

-- memory of bytes that has the program's data
pub record HasData (p : Program) (mem : ℕ → ℕ) : Type 0 where
  pub bytes : (a : ℕ) → mem a < 256
  pub cells : (a : ℕ) (v : Cell) → cell_at p a ≡ Some v → mem a ≡ byte_of_cell v 0

-- Where a run of the tagged machine has stayed in the profile, no cell of an instruction has changed in the run of the untagged
-- 8080: one that takes the program's instructions while this is so has said the same after as many turns, and has not stopped.
unfoldable pub FetchFollows : Type 0
FetchFollows =
    (p : Program) (fetch : Fetch) (under : ℕ → ℕ) (page fill choices : List ℕ) (replies : List Reply) (n : ℕ) →
    IsProgram p →
    IsPage page →
    IsFill fill →
    HasData p under →
    TakesProgram fetch p (system_byte p.top page under) →
    All WritesBytes replies →
    IsNotStopped (run80 p page replies n).status →
    HasFollowed (run80 p page replies n) (turns (untagged_machine fetch) choices n (start_run (start_over p.top fill (system_byte p.top page under)) replies))
