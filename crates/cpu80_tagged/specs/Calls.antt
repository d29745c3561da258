-- What a caller sees of a machine, call by call, and the runs that this is.
use Rattle.std.specs.Prelude.{◌≡◌, ℕ, suc, true, false, List, [], ◌∷◌, ◌++◌, Some}
use Rattle.cells.specs.declared.Rule.{Rule}
use Rattle.dialogue.specs.declared.request.Reply.{Reply}
use Rattle.dialogue.specs.declared.request.Event.{Event}
use Rattle.dialogue.specs.declared.request.Event.TheVariants.{End}
use Rattle.dialogue.specs.Run.{Status, Going, Waiting, Over, Stopped}
use Rattle.dialogue.specs.Histories.{IsRunAt}
use Rattle.asm80_types.specs.Program.{Program}
use Rattle.cpu80_tagged.specs.Start.{start80, run80}
use Rattle.cpu80_tagged.specs.Step.{step80}
use Rattle.cpu80_tagged.specs.declared.processor.Cpu80.{Cpu80}
use Rattle.cpu80_tagged.specs.declared.processor.Step80.{Step80}
use Rattle.cpu80_tagged.specs.declared.processor.Step80.TheVariants.{Ran, Asked, Ended, Left}
use Rattle.cpu80_tagged.specs.ProcessorState.{tagged_state, asks}
use Rattle.cpu80_tagged.specs.Machine.{IsMachineOf, IsTaggedStep, IsEventAsked, IsReplyTo, has_asked}

-- a call of `step`
pub record IsStepOf (p : Program) (before : Cpu80) (answer : Step80) (after : Cpu80) : Type 0 where
  pub step : IsTaggedStep (step80 p (tagged_state before)) answer (tagged_state before) (tagged_state after)
  pub asked : asks after ≡ has_asked answer
  pub machine : IsMachineOf p after

-- the calls on a machine from its start on: how its run stands after them, the events so far, the replies that were taken,
-- and the number of turns; a turn is one step, with the reply that it gets. A step where the run waits, is over or has
-- stopped, and a reply that is refused, change nothing
pub data Calls (p : Program) (page : List ℕ) : Status Rule → List Event → List Reply → ℕ → Cpu80 → Type 0 where
  started : (c : Cpu80) → tagged_state c ≡ start80 p page → Calls p page Going [] [] 0 c
  ran : (d : List Event) (ys : List Reply) (n : ℕ) (c after : Cpu80) → Calls p page Going d ys n c → IsStepOf p c Ran after → Calls p page Going d ys (suc n) after
  asked : (d : List Event) (ys : List Reply) (n : ℕ) (c after : Cpu80) (e : Event) → Calls p page Going d ys n c → IsStepOf p c Asked after → IsEventAsked p after (Some e) → Calls p page Waiting (d ++ e ∷ []) ys (suc n) after
  replied : (d : List Event) (ys : List Reply) (n : ℕ) (c after : Cpu80) (y : Reply) → Calls p page Waiting d ys n c → IsReplyTo p c y true after → Calls p page Going d (ys ++ y ∷ []) n after
  ended : (d : List Event) (ys : List Reply) (n : ℕ) (c after : Cpu80) → Calls p page Going d ys n c → IsStepOf p c Ended after → Calls p page Over (d ++ End ∷ []) ys (suc n) after
  left : (d : List Event) (ys : List Reply) (n : ℕ) (c after : Cpu80) (r : Rule) → Calls p page Going d ys n c → IsStepOf p c (Left r) after → Calls p page (Stopped r) d ys (suc n) after
  refused : (status : Status Rule) (d : List Event) (ys : List Reply) (n : ℕ) (c after : Cpu80) (y : Reply) → Calls p page status d ys n c → IsReplyTo p c y false after → Calls p page status d ys n after
  asked_again : (d : List Event) (ys : List Reply) (n : ℕ) (c after : Cpu80) → Calls p page Waiting d ys n c → IsStepOf p c Asked after → Calls p page Waiting d ys n after
  ended_again : (d : List Event) (ys : List Reply) (n : ℕ) (c after : Cpu80) → Calls p page Over d ys n c → IsStepOf p c Ended after → Calls p page Over d ys n after
  left_again : (d : List Event) (ys : List Reply) (n : ℕ) (c after : Cpu80) (r : Rule) → Calls p page (Stopped r) d ys n c → IsStepOf p c (Left r) after → Calls p page (Stopped r) d ys n after

-- any calls on a machine give the run of its program over the replies that were taken
unfoldable pub CallsGiveRuns : Type 0
CallsGiveRuns =
    (p : Program) (page : List ℕ) (status : Status Rule) (d : List Event) (ys : List Reply) (n : ℕ) (c : Cpu80) → Calls p page status d ys n c → IsRunAt (run80 p page ys n) status d (tagged_state c)
