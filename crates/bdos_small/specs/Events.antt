-- The answers to the events of a program: a call of the system is the small BDOS's to answer; the ports give a list of bytes from its
-- front, whichever of them is asked, and take any byte (this project's choice: the manuals leave to a machine what its ports are).
use Rattle.std.specs.Prelude.{◌≡◌, ℕ, true, List, [], ◌∷◌, Option, Some, None}
use Rattle.dialogue.specs.declared.request.Event.{Event}
use Rattle.dialogue.specs.declared.request.Event.TheVariants.{Call, In, Out, End}
use Rattle.dialogue.specs.Fits.{fits_event}
use Rattle.bdos_small.specs.declared.console.Answer.{Answer}
use Rattle.bdos_small.specs.declared.console.Answer.TheVariants.{Reply as Replies, InputEnded as HasEnded, NoDrive as HasNoDrive}
use Rattle.bdos_small.specs.Small.{Small, Answered, small_answer}
use Rattle.bdos_small.specs.declared.devices.EventAnswer.{EventAnswer}
use Rattle.bdos_small.specs.declared.devices.EventAnswer.TheVariants.{Reply, InputEnded, NoDrive}
use Rattle.bdos_small.specs.Supply.{Supply, supply_of}

-- what is answered, and what is left
pub record EventAnswered : Type 0 where
  pub answer : EventAnswer
  pub left : Supply

-- a call of a function: where it needs a drive that is not there, the function is told
abbrev pub of_system : ℕ → Answer → EventAnswer
of_system function (Replies y) = Reply y
of_system function HasEnded = InputEnded
of_system function HasNoDrive = NoDrive function

abbrev pub called : ℕ → List ℕ → Answered → EventAnswered
called function ports a = record { answer = of_system function a.answer; left = supply_of a.left ports }

-- a reply that writes nothing
abbrev pub port_reply : ℕ → EventAnswer
port_reply n = Reply (record { answer = n; writes = [] })

-- IN: the next byte; where none is left it is as where input has ended
abbrev pub read_port : Small → List ℕ → EventAnswered
read_port system [] = record { answer = InputEnded; left = supply_of system [] }
read_port system (b ∷ bs) = record { answer = port_reply b; left = supply_of system bs }

-- OUT is answered 0, and the end not at all
abbrev pub event_answer : Supply → Event → Option EventAnswered
event_answer s (Call q) = Some (called q.shape.function s.ports (small_answer s.system q))
event_answer s (In port) = Some (read_port s.system s.ports)
event_answer s (Out port byte) = Some (record { answer = port_reply 0; left = s })
event_answer s End = None

-- a reply is one that the event may get
abbrev pub FitsEvent : Event → EventAnswer → Type 0
FitsEvent e (Reply y) = fits_event e y ≡ true
FitsEvent e InputEnded = Unit {0}
FitsEvent e (NoDrive function) = Unit {0}

-- only a reply takes something
abbrev pub TakesByReply : EventAnswer → Supply → Supply → Type 0
TakesByReply (Reply y) before after = Unit {0}
TakesByReply InputEnded before after = after ≡ before
TakesByReply (NoDrive function) before after = after ≡ before
