-- A run over devices, a small BDOS and ports: its replies are theirs to its own events. What it comes to, and what it says meanwhile.
use Rattle.std.specs.Prelude.{◌≡◌, ℕ, suc, ◌<◌, ◌≤◌, List, [], ◌∷◌, ◌++◌, Option, Some, None, All}
use Rattle.dialogue.specs.declared.request.Reply.{Reply}
use Rattle.dialogue.specs.declared.request.Event.{Event}
use Rattle.bdos_small.specs.declared.devices.EventAnswer.{EventAnswer}
use Rattle.bdos_small.specs.declared.devices.EventAnswer.TheVariants.{Reply as Replies, InputEnded as Ends, NoDrive as Refuses}
use Rattle.bdos_small.specs.Supply.{Supply}
use Rattle.bdos_small.specs.Events.{EventAnswered, event_answer}
use Rattle.dialogue.specs.Run.{Status, Going, Waiting, Over, Stopped, Run, IsNotStopped, IsFrontOf}
use Rattle.host.specs.Host.{HostState, Says, SameFaults, WriteFault}
use Rattle.host_files.specs.Transfer.{CutsLine}
use Rattle.emulator_loop.specs.declared.emulator.Why.{Why}
use Rattle.emulator_loop.specs.declared.fault.TalkFault.{TalkFault}
use Rattle.emulator_loop.specs.declared.fault.TalkFault.TheVariants.{Unsaid, Memory}
use Rattle.emulator_loop.specs.declared.running.Conversation.{Conversation}
use Rattle.emulator_loop.specs.declared.running.RunEnd.{RunEnd}
use Rattle.emulator_loop.specs.declared.running.RunEnd.TheVariants.{Ended, Stopped as HasStopped, StepLimit, InputEnded, NoDrive}
use Rattle.emulator_loop.specs.Lines.{prefixed_line, event_lines}
use Rattle.dialogue.specs.Replies.{IsReply}

-- a run as it is seen from outside: whether it goes on, or else why not, and its dialogue
pub record SeenRun : Type 0 where
  pub status : Status Why
  pub dialogue : List Event

-- why a run does not go on, told by its state
abbrev pub told_status : {X : Type 0} → (X → Why) → Status X → Status Why
told_status why Going = Going
told_status why Waiting = Waiting
told_status why Over = Over
told_status why (Stopped x) = Stopped (why x)

abbrev pub seen : {S X : Type 0} → (S → X → Why) → Run S X → SeenRun
seen why r = record { status = told_status (why r.state) r.status; dialogue = r.dialogue }

-- the replies to the events of a dialogue, up to the first event that gets none
abbrev pub reply_then : EventAnswer → List Reply → List Reply
reply_then (Replies y) rest = y ∷ rest
reply_then Ends rest = []
reply_then (Refuses function) rest = []

abbrev pub reply_from : Option EventAnswered → (Supply → List Reply) → List Reply
reply_from None rest = []
reply_from (Some a) rest = reply_then a.answer (rest a.left)

abbrev pub replies_to : Supply → List Event → List Reply
replies_to supply [] = []
replies_to supply (e ∷ es) = reply_from (event_answer supply e) (λ left. replies_to left es)

-- what a run comes to by the first event of its dialogue that gets no reply
abbrev pub refusal_then : EventAnswer → Option RunEnd → Option RunEnd
refusal_then (Replies y) rest = rest
refusal_then Ends rest = Some InputEnded
refusal_then (Refuses function) rest = Some (NoDrive function)

abbrev pub refusal_from : Option EventAnswered → (Supply → Option RunEnd) → Option RunEnd
refusal_from None rest = None
refusal_from (Some a) rest = refusal_then a.answer (rest a.left)

abbrev pub end_of_refusal : Supply → List Event → Option RunEnd
end_of_refusal supply [] = None
end_of_refusal supply (e ∷ es) = refusal_from (event_answer supply e) (λ left. end_of_refusal left es)

-- what the devices have left behind the events of a dialogue: each reply takes something, and after the first event that gets none
-- all is as before it
abbrev pub left_then : EventAnswer → Supply → Supply → Supply
left_then (Replies y) before rest = rest
left_then Ends before rest = before
left_then (Refuses function) before rest = before

abbrev pub left_from : Supply → Option EventAnswered → (Supply → Supply) → Supply
left_from before None rest = before
left_from before (Some a) rest = left_then a.answer before (rest a.left)

abbrev pub left_after : Supply → List Event → Supply
left_after supply [] = supply
left_after supply (e ∷ es) = left_from supply (event_answer supply e) (λ left. left_after left es)

-- the run over devices after n turns: given their replies to its own dialogue, it is so
abbrev pub IsRunAfter : (List Reply → ℕ → SeenRun) → Supply → ℕ → SeenRun → Type 0
IsRunAfter course supply n v = v ≡ course (replies_to supply v.dialogue) n

-- over any devices there is one run: it is one after each number of turns, its dialogues grow, and once it does not go on it stays
-- as it is. And where a run that is given the replies to some events says these first, the run over the devices does
pub record HasOneRun (course : List Reply → ℕ → SeenRun) : Type 0 where
  pub some : (supply : Supply) (n : ℕ) → (v : SeenRun) × IsRunAfter course supply n v
  pub one : (supply : Supply) (n : ℕ) (v w : SeenRun) → IsRunAfter course supply n v → IsRunAfter course supply n w → v ≡ w
  pub grows : (supply : Supply) (i n : ℕ) (v w : SeenRun) → i ≤ n → IsRunAfter course supply i v → IsRunAfter course supply n w → IsFrontOf v.dialogue w.dialogue
  pub stays : (ys : List Reply) (i n : ℕ) → i ≤ n → ((course ys i).status ≡ Going → ⊥) → course ys n ≡ course ys i
  pub reaches : (supply : Supply) (n : ℕ) (d : List Event) (v : SeenRun) → IsFrontOf d (course (replies_to supply d) n).dialogue → IsRunAfter course supply n v → IsFrontOf d v.dialogue

module _ (course : List Reply → ℕ → SeenRun) (supply : Supply) (limit : ℕ) where
  -- the next step, within the limit, is one in which the machine stops
  pub record StopsNext (steps : ℕ) : Type 0 where
    pub why : Why
    pub last : SeenRun
    pub within : suc steps ≤ limit
    pub at : IsRunAfter course supply (suc steps) last
    pub stopped : last.status ≡ Stopped why

  -- why after so many instructions no more ran: as many ran as may, or the last of them ended the program or asked what the devices do
  -- not answer, or the machine stops in the next step
  pub data RunsNoMore (steps : ℕ) (v : SeenRun) : Type 0 where
    at_limit : steps ≡ limit → RunsNoMore steps v
    is_over : v.status ≡ Over → RunsNoMore steps v
    waits : v.status ≡ Waiting → RunsNoMore steps v
    stops : StopsNext steps → RunsNoMore steps v

  -- so many instructions ran: those that ask and the one that ends are counted, the step in which a machine stops is not. In each
  -- turn before, the run went on; and all that it says it has said by then
  pub record Ran (steps : ℕ) : Type 0 where
    pub within : steps ≤ limit
    pub run : SeenRun
    pub at : IsRunAfter course supply steps run
    pub not_stopped : IsNotStopped run.status
    pub went_on : (i : ℕ) (v : SeenRun) → i < steps → IsRunAfter course supply i v → v.status ≡ Going
    pub no_more : RunsNoMore steps run
    pub whole : (v : SeenRun) → IsRunAfter course supply limit v → v.dialogue ≡ run.dialogue

  -- what the run over devices comes to, by how it stands at the limit
  abbrev pub IsCause : RunEnd → SeenRun → Type 0
  IsCause Ended v = v.status ≡ Over
  IsCause (HasStopped why) v = v.status ≡ Stopped why
  IsCause StepLimit v = v.status ≡ Going
  IsCause InputEnded v = (v.status ≡ Waiting) × (end_of_refusal supply v.dialogue ≡ Some InputEnded)
  IsCause (NoDrive function) v = (v.status ≡ Waiting) × (end_of_refusal supply v.dialogue ≡ Some (NoDrive function))

  pub record IsOutcome (c : Conversation) (v : SeenRun) : Type 0 where
    pub at : IsRunAfter course supply limit v
    pub cause : IsCause c.end v
    pub ran : Ran c.steps

  -- these are the first events of the dialogue that the run has at the limit
  pub record HasFirst (events : List Event) : Type 0 where
    pub run : SeenRun
    pub at : IsRunAfter course supply limit run
    pub only : (v : SeenRun) → IsRunAfter course supply limit v → v ≡ run
    pub front : IsFrontOf events run.dialogue

  -- what is said, where each line begins with this text
  module _ (prefix : List ℕ) where
    -- the run comes to this and no run over these devices to anything else, its whole dialogue was said, and this is what the
    -- devices have left; their replies are words and bytes
    pub record SaysRun (c : Conversation) (left : Supply) (old new : HostState) : Type 0 where
      pub run : SeenRun
      pub outcome : IsOutcome c run
      pub only : (e : Conversation) (v : SeenRun) → IsOutcome e v → (e ≡ c) × (v ≡ run)
      pub says : Says old new (event_lines prefix run.dialogue)
      pub leaves : left ≡ left_after supply run.dialogue
      pub replies : All IsReply (replies_to supply run.dialogue)

    -- the lines of some first events of the run were said
    pub record SaysFirst (old new : HostState) : Type 0 where
      pub events : List Event
      pub first : HasFirst events
      pub says : Says old new (event_lines prefix events)

    -- the same, and then the line of the next event was cut off
    pub record SaysCut (old new : HostState) : Type 0 where
      pub events : List Event
      pub next : Event
      pub first : HasFirst (events ++ next ∷ [])
      pub mid : HostState
      pub says : Says old mid (event_lines prefix events)
      pub cut : CutsLine (prefixed_line prefix next) mid new

    -- what was said up to a fault: a call of the host met it within a line; or none met one and memory ran out between two lines
    abbrev pub IsCutOff : HostState → HostState → TalkFault → Type 0
    IsCutOff old new (Unsaid fault) = SaysCut old new × WriteFault old new fault
    IsCutOff old new Memory = SaysFirst old new × SameFaults old new
