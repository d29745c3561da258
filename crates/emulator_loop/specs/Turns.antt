-- Machines that talk, one turn at a time.
use Rattle.std.specs.Prelude.{◌≡◌, ℕ, suc, cond, List, [], ◌∷◌, ◌++◌}
use Rattle.dialogue.specs.declared.request.Reply.{Reply}
use Rattle.dialogue.specs.declared.request.Event.{Event}
use Rattle.dialogue.specs.declared.request.Event.TheVariants.{End}
use Rattle.dialogue.specs.Fits.{fits_event}
use Rattle.dialogue.specs.Lawful.{IsLawfulEvent}
use Rattle.dialogue.specs.Run.{Machine, Status, Going, Waiting, Over, Stopped, turns}
use Rattle.emulator_loop.specs.declared.emulator.Why.{Why}
use Rattle.emulator_loop.specs.declared.emulator.Turn.{Turn}
use Rattle.emulator_loop.specs.declared.emulator.Turn.TheVariants.{Ran, Asks, Ended, Stopped as HasStopped}
use Rattle.emulator_loop.specs.Talk.{SeenRun, seen}

-- what is past in a run: the choices used and the dialogue
pub record Past : Type 0 where
  pub used : ℕ
  pub dialogue : List Event

-- before the first turn
abbrev pub no_past : Past
no_past = record { used = 0; dialogue = [] }

-- after a turn that ran, or a reply; after a turn that asked
abbrev pub after_ran : Past → Past
after_ran t = record t { used = suc t.used }

abbrev pub after_asked : Past → Event → Past
after_asked t e = record { used = suc t.used; dialogue = t.dialogue ++ e ∷ [] }

-- a run that stands so
abbrev pub standing_so : Status Why → List Event → SeenRun
standing_so status d = record { status = status; dialogue = d }

-- how a run goes on from here, by what is past, the replies that come, and the number of turns
abbrev pub Course : Type 0
Course = Past → List Reply → ℕ → SeenRun

-- a run that has asked takes its reply, if one comes and it fits; else it waits
abbrev pub with_reply_taken : Event → (Reply → Course) → Past → List Reply → ℕ → SeenRun
with_reply_taken e answered t [] n = standing_so Waiting t.dialogue
with_reply_taken e answered t (y ∷ ys) n = cond (fits_event e y) (answered y (after_ran t) ys n) (standing_so Waiting t.dialogue)

-- a turn tells how the run goes: `before` is its course before the turn, `after` its course where it ran, and `answered` its
-- course after a reply where it asks
abbrev pub IsTurn : Course → Course → (Event → Reply → Course) → Turn → Type 0
IsTurn before after answered Ran = (t : Past) (ys : List Reply) (n : ℕ) → before t ys (suc n) ≡ after (after_ran t) ys n
IsTurn before after answered (Asks e) =
    (t : Past) (ys : List Reply) (n : ℕ) → before t ys (suc n) ≡ with_reply_taken e (answered e) (after_asked t e) ys n
IsTurn before after answered Ended =
    (t : Past) (ys : List Reply) (n : ℕ) → before t ys (suc n) ≡ standing_so Over (t.dialogue ++ End ∷ [])
IsTurn before after answered (HasStopped why) =
    (t : Past) (ys : List Reply) (n : ℕ) → before t ys (suc n) ≡ standing_so (Stopped why) t.dialogue

-- what is asked is lawful
abbrev pub AsksLawfully : Turn → Type 0
AsksLawfully Ran = Unit {0}
AsksLawfully (Asks e) = IsLawfulEvent e
AsksLawfully Ended = Unit {0}
AsksLawfully (HasStopped why) = Unit {0}

-- the machine may take a turn, or waits for a reply, by what a turn answered
abbrev pub MayTurn : Type 0 → (Event → Type 0) → Turn → Type 0
MayTurn runs waits Ran = runs
MayTurn runs waits (Asks e) = waits e
MayTurn runs waits Ended = Unit {0}
MayTurn runs waits (HasStopped why) = Unit {0}

-- a machine that stops is as before
abbrev pub StopsInPlace : Course → Course → Turn → Type 0
StopsInPlace before after Ran = Unit {0}
StopsInPlace before after (Asks e) = Unit {0}
StopsInPlace before after Ended = Unit {0}
StopsInPlace before after (HasStopped why) = after ≡ before

-- before more turns a run stands as it is
abbrev pub BeginsCourse : Course → Type 0
BeginsCourse course = (t : Past) (ys : List Reply) → course t ys 0 ≡ standing_so Going t.dialogue

-- the course of a machine in a state
abbrev pub course_from : {S X : Type 0} → Machine S X → List ℕ → (S → X → Why) → S → Course
course_from m cs why s t ys n =
    seen why (turns m cs n (record { state = s; status = Going; dialogue = t.dialogue; replies = ys; used = t.used }))
