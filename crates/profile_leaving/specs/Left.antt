-- What it means that a place is listed: no run of the tagged 8080 passes it.
use Rattle.std.specs.Prelude.{◌≡◌, ℕ, suc, ◌<◌, ◌≤◌, ◌⊎◌, false, List, [], ◌∷◌, Option, Some, None, All}
use Rattle.cells.specs.declared.Place.TheVariants.{At}
use Rattle.cells.specs.declared.Cell.TheVariants.{Num}
use Rattle.cells.specs.declared.Rule.{Rule}
use Rattle.cells.specs.declared.Rule.TheVariants.{P9}
use Rattle.cells.specs.Conditions.{holds}
use Rattle.i80.specs.declared.Instr80.{Instr80}
use Rattle.i80.specs.declared.Instr80.TheVariants.{Jif, Call, Cif}
use Rattle.dialogue.specs.declared.request.Reply.{Reply}
use Rattle.dialogue.specs.Replies.{IsReply}
use Rattle.dialogue.specs.Run.{Run, Going, Stopped, turns}
use Rattle.asm80_types.specs.Program.{Program, IsProgram, instr_at}
use Rattle.cpu80_tagged.specs.State.{State80}
use Rattle.cpu80_tagged.specs.Step.{machine80}
use Rattle.cpu80_tagged.specs.Start.{IsPage, run80}
use Rattle.flow.specs.Blocks.{IsBlockOf, place_after}
use Rattle.simulation_def.specs.States.{IsState80}
use Rattle.profile_leaving.specs.declared.departure.Certainty.{Certainty}
use Rattle.profile_leaving.specs.declared.departure.Certainty.TheVariants.{Sure, May}
use Rattle.profile_leaving.specs.declared.departure.Departure.{Departure}
use Rattle.profile_leaving.specs.Leaving.{leaving}

-- a run after more turns, with the replies that it has left; the machine uses no choice
abbrev pub after : Program → ℕ → Run State80 Rule → Run State80 Rule
after p n r = turns (machine80 p) [] n r

-- a run goes on and stands at an instruction, whatever it has said and been told
pub record StandsAt (p : Program) (at : ℕ) (r : Run State80 Rule) : Type 0 where
  pub goes : r.status ≡ Going
  pub place : r.state.place ≡ At at
  pub is_state : IsState80 p r.state

abbrev pub HasLeft : Run State80 Rule → Type 0
HasLeft r = (why : Rule) × (r.status ≡ Stopped why)

-- what lets a run pass a place where it only may leave: the condition does not hold; the function of a CALL 5 is 0, which ends the
-- program
abbrev pub LetsPass : State80 → Option Instr80 → Type 0
LetsPass s None = ⊥
LetsPass s (Some (Jif c g)) = holds s.flags c ≡ Some false
LetsPass s (Some (Cif c g)) = holds s.flags c ≡ Some false
LetsPass s (Some (Call g)) = s.regs.c ≡ Num 0
LetsPass s (Some i) = ⊥

-- the turn at the place: where the run is in the state `s`, and after it
abbrev pub LeavesSurely : Rule → Run State80 Rule → Type 0
LeavesSurely P9 next = next.status ≡ Stopped P9
LeavesSurely rule next = HasLeft next

abbrev pub Leaves : Certainty → Rule → State80 → Option Instr80 → Run State80 Rule → Type 0
Leaves Sure rule s i next = LeavesSurely rule next
Leaves May rule s i next = HasLeft next ⊎ LetsPass s i

-- No run passes a place: from the first instruction of its block it has left the profile before it comes there, or it stands there after
-- as many turns as instructions are before the place, and leaves in the next one.
pub record PlaceIsLeft (p : Program) (x : Departure) : Type 0 where
  pub first : ℕ
  pub count : ℕ
  pub before : ℕ
  pub block : IsBlockOf p first count
  pub within : before < count
  pub place : place_after p first before ≡ x.at
  pub leaves : (r : Run State80 Rule) → StandsAt p first r →
      HasLeft (after p before r)
      ⊎ (StandsAt p x.at (after p before r) × Leaves x.certainty x.rule (after p before r).state (instr_at p x.at) (after p (suc before) r))

-- so it is with each place that is listed
abbrev pub PlacesAreLeft : Type 0
PlacesAreLeft = (p : Program) → IsProgram p → All (PlaceIsLeft p) (leaving p)

-- The states of which that speaks are those that runs have: whatever the page and the replies, a run of a program from its start has no
-- other one while it goes on.
abbrev pub RunsKeepStates : Type 0
RunsKeepStates =
    (p : Program) (page : List ℕ) (replies : List Reply) (n : ℕ) → IsProgram p → IsPage page → All IsReply replies →
    (run80 p page replies n).status ≡ Going → IsState80 p (run80 p page replies n).state

-- places ascend, from an address up
abbrev pub RisesFrom : ℕ → List Departure → Type 0
RisesFrom low [] = Unit {0}
RisesFrom low (x ∷ xs) = (low ≤ x.at) × RisesFrom (suc x.at) xs

-- so do those of every program
abbrev pub PlacesAscend : Type 0
PlacesAscend = (p : Program) → IsProgram p → RisesFrom 0x100 (leaving p)
