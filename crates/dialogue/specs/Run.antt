-- Turns of a machine that talks to a system: the same for both processors. A turn is one step; what it asks joins the
-- dialogue, and the next reply is taken in the same turn.
use Rattle.std.specs.Prelude.{◌≡◌, ℕ, zero, suc, ◌%◌, cond, List, [], ◌∷◌, ◌++◌, length, slice_index}
use Rattle.dialogue.specs.declared.request.Reply.{Reply}
use Rattle.dialogue.specs.declared.request.Event.{Event}
use Rattle.dialogue.specs.declared.request.Event.TheVariants.{End}
use Rattle.dialogue.specs.Fits.{fits_event}

-- what one step answers, of a machine with states S that stops for reasons X: it ran on to a state; it asks something and
-- waits in a state; the program has ended; it stopped
pub data Answer (S X : Type 0) : Type 0 where
  Ran : (state : S) → Answer S X
  Asks : (event : Event) (state : S) → Answer S X
  Ends : Answer S X
  Stops : (why : X) → Answer S X

-- a machine: one step by a choice, and the state after a reply by a choice
pub record Machine (S X : Type 0) : Type 0 where
  pub step : S → ℕ → Answer S X
  pub replied : S → Event → Reply → ℕ → S

-- a run goes on, waits for a reply that does not come or does not fit, is over, or has stopped
pub data Status (X : Type 0) : Type 0 where
  Going : Status X
  Waiting : Status X
  Over : Status X
  Stopped : (why : X) → Status X

-- a run so far: the replies are those still left, and `used` counts the choices taken
pub record Run (S X : Type 0) : Type 0 where
  pub state : S
  pub status : Status X
  pub dialogue : List Event
  pub replies : List Reply
  pub used : ℕ

-- the k-th choice; after the last comes the first
abbrev pub choice_at : List ℕ → ℕ → ℕ
choice_at cs k = slice_index cs (k % length cs)

-- takes the next reply, where there is one and it fits; else the run waits
abbrev pub take_reply : {S X : Type 0} → Machine S X → List ℕ → Run S X → Event → List Reply → Run S X
take_reply m cs r e [] = record r { status = Waiting }
take_reply m cs r e (y ∷ ys) =
    cond (fits_event e y)
    (record r { state = m.replied r.state e y (choice_at cs r.used); replies = ys; used = suc r.used })
    (record r { status = Waiting })

-- a run after a step's answer
abbrev pub settle : {S X : Type 0} → Machine S X → List ℕ → Run S X → Answer S X → Run S X
settle m cs r (Ran s) = record r { state = s; used = suc r.used }
settle m cs r (Asks e s) =
    take_reply m cs (record r { state = s; dialogue = r.dialogue ++ e ∷ []; used = suc r.used }) e r.replies
settle m cs r Ends = record r { status = Over; dialogue = r.dialogue ++ End ∷ [] }
settle m cs r (Stops x) = record r { status = Stopped x }

-- a run that waits, is over or has stopped stays as it is
abbrev pub turn_by : {S X : Type 0} → Machine S X → List ℕ → Run S X → Status X → Run S X
turn_by m cs r Going = settle m cs r (m.step r.state (choice_at cs r.used))
turn_by m cs r Waiting = r
turn_by m cs r Over = r
turn_by m cs r (Stopped x) = r

abbrev pub turn : {S X : Type 0} → Machine S X → List ℕ → Run S X → Run S X
turn m cs r = turn_by m cs r r.status

-- a run after more turns, with these choices
abbrev pub turns : {S X : Type 0} → Machine S X → List ℕ → ℕ → Run S X → Run S X
turns m cs zero r = r
turns m cs (suc n) r = turns m cs n (turn m cs r)

-- a run before its first turn
abbrev pub start_run : {S X : Type 0} → S → List Reply → Run S X
start_run s ys = record { state = s; status = Going; dialogue = []; replies = ys; used = 0 }

-- none of the turns so far stopped, since a run that has stopped stays so
abbrev pub IsNotStopped : {X : Type 0} → Status X → Type 0
IsNotStopped Going = Unit {0}
IsNotStopped Waiting = Unit {0}
IsNotStopped Over = Unit {0}
IsNotStopped (Stopped x) = ⊥

-- a dialogue is a prefix of another
abbrev pub IsFrontOf : List Event → List Event → Type 0
IsFrontOf a b = (rest : List Event) × (b ≡ a ++ rest)
