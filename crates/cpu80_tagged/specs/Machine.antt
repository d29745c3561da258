-- What a machine of a program is, and what each of its calls answers and leaves.
use Rattle.std.specs.Prelude.{◌≡◌, ◌≢◌, Bool, true, false, Option, Some, None, Ok}
use Rattle.cells.specs.declared.Rule.{Rule}
use Rattle.dialogue.specs.declared.request.Shape.{Shape}
use Rattle.dialogue.specs.declared.request.Reply.{Reply}
use Rattle.dialogue.specs.declared.request.Event.{Event}
use Rattle.dialogue.specs.declared.request.Event.TheVariants.{Call, In as AskedIn, Out as AskedOut, End}
use Rattle.dialogue.specs.Shape.{request_of}
use Rattle.dialogue.specs.Fits.{fits_event}
use Rattle.dialogue.specs.Lawful.{IsLawfulEvent}
use Rattle.dialogue.specs.Run.{Answer, Ran, Asks, Ends, Stops}
use Rattle.asm80_types.specs.Program.{Program}
use Rattle.cpu80_tagged.specs.State.{State80, num_of}
use Rattle.cpu80_tagged.specs.Call.{is_place, seen_by_tagged}
use Rattle.cpu80_tagged.specs.Step.{step80, return_at, replied80}
use Rattle.cpu80_tagged.specs.declared.turn.Question.{Question}
use Rattle.cpu80_tagged.specs.declared.turn.Question.TheVariants.{System, In, Out}
use Rattle.cpu80_tagged.specs.declared.turn.Return.{Return}
use Rattle.cpu80_tagged.specs.Area.{HasUses}
use Rattle.cpu80_tagged.specs.Turn.{return_of_turn, shape_at}
use Rattle.cpu80_tagged.specs.declared.processor.Cpu80.{Cpu80}
use Rattle.cpu80_tagged.specs.declared.processor.Phase.{Phase}
use Rattle.cpu80_tagged.specs.declared.processor.Phase.TheVariants.{Running, Asking, Ended}
use Rattle.cpu80_tagged.specs.declared.processor.Step80.{Step80}
use Rattle.cpu80_tagged.specs.declared.processor.Step80.TheVariants.{Ran as DidRun, Asked as DidAsk, Ended as DidEnd, Left}
use Rattle.cpu80_tagged.specs.ProcessorState.{tagged_state, asks}

-- the machine waits for the reply to the call of the system that its step asks, and keeps where the call returns
pub record IsCalling (p : Program) (s : State80) (kept : Return) : Type 0 where
  pub back : return_at p s s.place ≡ Ok (return_of_turn kept)
  pub shape : Shape
  pub given : shape_at p s kept.is_popped ≡ Ok shape
  pub asked : step80 p s ≡ Asks (Call (request_of shape (seen_by_tagged p s kept.is_popped))) s
  pub no_reset : num_of s.regs.c ≢ Some 0

-- it waits for the reply to the port that its step asks, and keeps where it goes on
pub record IsAtPort (p : Program) (s : State80) (kept : Return) (e : Event) : Type 0 where
  pub back : return_at p s s.place ≡ Ok (return_of_turn kept)
  pub asked : step80 p s ≡ Asks e s

abbrev pub WaitsBy : Program → State80 → Return → Question → Type 0
WaitsBy p s kept System = IsCalling p s kept
WaitsBy p s kept (In port) = IsAtPort p s kept (AskedIn port)
WaitsBy p s kept (Out port byte) = IsAtPort p s kept (AskedOut port byte)

abbrev pub IsPhase : Program → State80 → Phase → Type 0
IsPhase p s Running = Unit {0}
IsPhase p s (Asking what kept) = WaitsBy p s kept what
IsPhase p s Ended = step80 p s ≡ Ends

-- a machine of a program has its uses of cells, and an instruction of it or the end comes next; where it waits, it has asked
pub record IsMachineOf (p : Program) (c : Cpu80) : Type 0 where
  pub uses : HasUses p c.uses.items
  pub place : is_place p c.place ≡ true
  pub phase : IsPhase p (tagged_state c) c.phase

-- a step answers what the definition answers; only where it ran does the state change
abbrev pub IsTaggedStep : Answer State80 Rule → Step80 → State80 → State80 → Type 0
IsTaggedStep (Ran t) r before after = (r ≡ DidRun) × (after ≡ t)
IsTaggedStep (Asks e t) r before after = (r ≡ DidAsk) × (after ≡ before)
IsTaggedStep Ends r before after = (r ≡ DidEnd) × (after ≡ before)
IsTaggedStep (Stops x) r before after = (r ≡ Left x) × (after ≡ before)

-- it asks after the step exactly where the step answers so
abbrev pub has_asked : Step80 → Bool
has_asked DidRun = false
has_asked DidAsk = true
has_asked DidEnd = false
has_asked (Left x) = false

-- it is no system reset
abbrev pub IsNoReset : Event → Type 0
IsNoReset (Call q) = q.shape.function ≢ 0
IsNoReset (AskedIn port) = Unit {0}
IsNoReset (AskedOut port byte) = Unit {0}
IsNoReset End = Unit {0}

-- what it asks is what its step asks; a call is lawful, and no reset
pub record IsAskedBy (p : Program) (s : State80) (e : Event) : Type 0 where
  pub asked : step80 p s ≡ Asks e s
  pub lawful : IsLawfulEvent e
  pub no_reset : IsNoReset e

abbrev pub IsEventAsked : Program → Cpu80 → Option Event → Type 0
IsEventAsked p c None = asks c ≡ false
IsEventAsked p c (Some e) = (asks c ≡ true) × IsAskedBy p (tagged_state c) e

-- a reply is taken exactly where the machine asks and the reply fits what it asks; else the machine is as before
abbrev pub IsReplyTo : Program → Cpu80 → Reply → Bool → Cpu80 → Type 0
IsReplyTo p c y true after =
    (asks c ≡ true) × (asks after ≡ false) × IsMachineOf p after
    × ((e : Event) → step80 p (tagged_state c) ≡ Asks e (tagged_state c) → (fits_event e y ≡ true) × (tagged_state after ≡ replied80 p (tagged_state c) e y))
IsReplyTo p c y false after =
    (after ≡ c) × (asks c ≡ true → (e : Event) → step80 p (tagged_state c) ≡ Asks e (tagged_state c) → fits_event e y ≡ false)
