-- How far a run over devices has come, in a form that can be put together turn by turn.
use Rattle.std.specs.Prelude.{◌≡◌, ℕ, ◌+◌, ◌≤◌, suc, List, [], ◌∷◌, ◌++◌, Option, Some, None, true, All}
use Rattle.dialogue.specs.declared.request.Reply.{Reply}
use Rattle.dialogue.specs.declared.request.Event.{Event}
use Rattle.dialogue.specs.Fits.{fits_event}
use Rattle.bdos_small.specs.declared.devices.EventAnswer.TheVariants.{Reply as Replies}
use Rattle.bdos_small.specs.Supply.{Supply}
use Rattle.bdos_small.specs.Events.{event_answer}
use Rattle.dialogue.specs.Run.{Status, Waiting, Over, Stopped}
use Rattle.host.specs.Host.{HostState, SameSaid, Says, SameFaults, WriteFault}
use Rattle.host_files.specs.Transfer.{CutsLine}
use Rattle.emulator_loop.specs.declared.emulator.Why.{Why}
use Rattle.emulator_loop.specs.declared.fault.TalkFault.{TalkFault}
use Rattle.emulator_loop.specs.declared.fault.TalkFault.TheVariants.{Unsaid, Memory}
use Rattle.emulator_loop.specs.declared.running.RunEnd.{RunEnd}
use Rattle.emulator_loop.specs.declared.running.RunEnd.TheVariants.{Ended, Stopped as HasStopped, StepLimit, InputEnded, NoDrive}
use Rattle.emulator_loop.specs.Lines.{prefixed_line, event_lines}
use Rattle.dialogue.specs.Replies.{IsReply}
use Rattle.emulator_loop.specs.Talk.{replies_to, refusal_from, end_of_refusal, left_after}
use Rattle.emulator_loop.specs.Turns.{Past, Course, standing_so}

-- after k more turns, in which the devices gave a part of what they had, the run goes on; the events of these turns were said
pub record Advance (prefix : List ℕ) (k : ℕ) (before after : Course) (supply left : Supply) (old new : HostState) : Type 0 where
  pub events : List Event
  pub taken : List Reply
  pub next : Past → Past
  pub dialogue : (t : Past) → (next t).dialogue ≡ t.dialogue ++ events
  pub goes : (t : Past) (ys : List Reply) (n : ℕ) → before t (taken ++ ys) (k + n) ≡ after (next t) ys n
  pub replies : (es : List Event) → replies_to supply (events ++ es) ≡ taken ++ replies_to left es
  pub refuses : (es : List Event) → end_of_refusal supply (events ++ es) ≡ end_of_refusal left es
  pub leaves : (es : List Event) → left_after supply (events ++ es) ≡ left_after left es
  pub lawful : All IsReply taken
  pub says : Says old new (event_lines prefix events)

-- the end of a run, by the status and the events of its last turn, and what the devices refuse
abbrev pub IsEnd : RunEnd → Status Why → List Event → Option RunEnd → Type 0
IsEnd Ended status events refused = status ≡ Over
IsEnd (HasStopped why) status events refused = (status ≡ Stopped why) × (events ≡ [])
IsEnd StepLimit status events refused = ⊥
IsEnd InputEnded status events refused = (status ≡ Waiting) × (refused ≡ Some InputEnded)
IsEnd (NoDrive function) status events refused = (status ≡ Waiting) × (refused ≡ Some (NoDrive function))

-- how many instructions ran, by how many ran before the last turn: the step in which a machine stops is not counted
abbrev pub steps_after_turn : RunEnd → ℕ → ℕ
steps_after_turn Ended before = suc before
steps_after_turn (HasStopped why) before = before
steps_after_turn StepLimit before = suc before
steps_after_turn InputEnded before = suc before
steps_after_turn (NoDrive function) before = suc before

-- after one more turn the run goes on no more; its events were said, and the devices have this left
pub record Rest (prefix : List ℕ) (o : RunEnd) (before : Course) (supply left : Supply) (old new : HostState) : Type 0 where
  pub events : List Event
  pub status : Status Why
  pub goes : (t : Past) (n : ℕ) → before t [] (suc n) ≡ standing_so status (t.dialogue ++ events)
  pub none : replies_to supply events ≡ []
  pub end : IsEnd o status events (end_of_refusal supply events)
  pub leaves : left_after supply events ≡ left
  pub says : Says old new (event_lines prefix events)

-- after one more turn, or before it, the dialogue has these events more
pub record DialogueGrows (before : Course) (events : List Event) : Type 0 where
  pub turns : ℕ
  pub few : turns ≤ 1
  pub dialogue : (t : Past) (ys : List Reply) → (before t ys turns).dialogue ≡ t.dialogue ++ events

-- the line of what the next turn brings was said, or nothing yet
pub record SaysTurn (prefix : List ℕ) (before : Course) (old new : HostState) : Type 0 where
  pub events : List Event
  pub grows : DialogueGrows before events
  pub says : Says old new (event_lines prefix events)

-- the line of what the next turn brings was cut off
pub record CutsTurn (prefix : List ℕ) (before : Course) (old new : HostState) : Type 0 where
  pub event : Event
  pub grows : DialogueGrows before (event ∷ [])
  pub cut : CutsLine (prefixed_line prefix event) old new

-- what was said in a turn up to a fault
abbrev pub IsTurnCutOff : List ℕ → Course → HostState → HostState → TalkFault → Type 0
IsTurnCutOff prefix before old new (Unsaid fault) = CutsTurn prefix before old new × WriteFault old new fault
IsTurnCutOff prefix before old new Memory = SaysTurn prefix before old new × SameFaults old new

-- what was said of a line up to a fault: a call of the host met it within the line; or none met one, and memory ran out before it
abbrev pub IsLineCutOff : List ℕ → HostState → HostState → TalkFault → Type 0
IsLineCutOff line old new (Unsaid fault) = CutsLine line old new × WriteFault old new fault
IsLineCutOff line old new Memory = SameSaid old new × SameFaults old new

-- what a turn comes to: the end of the run, if it is its last
abbrev pub IsTurnDone : List ℕ → Course → Course → Supply → Supply → HostState → HostState → Option RunEnd → Type 0
IsTurnDone prefix before after supply left old new None = Advance prefix 1 before after supply left old new
IsTurnDone prefix before after supply left old new (Some o) = Rest prefix o before supply left old new

-- what the answer to an event comes to, of a machine that waits
abbrev pub IsAnswered : Event → (Reply → Course) → Course → Supply → Supply → Option RunEnd → Type 0
IsAnswered e answered after supply left None =
    (y : Reply) × (event_answer supply e ≡ Some (record { answer = Replies y; left = left })) × (fits_event e y ≡ true) × IsReply y × (after ≡ answered y)
IsAnswered e answered after supply left (Some o) = (refusal_from (event_answer supply e) (λ rest. None) ≡ Some o) × (left ≡ supply)
