-- What the calls `step` and `reply` of a machine answer and leave. A machine is one by the definition's step, which takes a
-- state and a choice, and by the state after a reply, which takes a state, what was asked, the reply and a choice.
use Rattle.std.specs.Prelude.{◌≡◌, ℕ, Bool, true, false, cond, Option, Some, None, IsSome}
use Rattle.dialogue.specs.declared.request.Event.{Event}
use Rattle.dialogue.specs.declared.request.Event.TheVariants.{Call, In, Out, End}
use Rattle.dialogue.specs.declared.request.Reply.{Reply}
use Rattle.dialogue.specs.Fits.{fits_event, waits_in}
use Rattle.dialogue.specs.Run.{Answer, Ran, Asks, Ends, Stops, Status, Going, Waiting, Over, Stopped}

-- how a machine stands between its calls: its state, and what it has said last if that is still open: what it asks while it
-- asks, and the end once the program has ended
pub record Standing (S : Type 0) : Type 0 where
  pub state : S
  pub said : Option Event

-- one step: how the run stands, which is what `step` answers, and how the machine stands after it. A stop changes nothing
abbrev pub settled : {S X : Type 0} → S → Answer S X → Status X × Standing S
settled s (Ran t) = (Going, record { state = t; said = None })
settled s (Asks e t) = (Waiting, record { state = t; said = Some e })
settled s Ends = (Over, record { state = s; said = Some End })
settled s (Stops why) = (Stopped why, record { state = s; said = None })

-- while it asks and after the end a step changes nothing
abbrev pub stepped_by : {S X : Type 0} → (S → ℕ → Answer S X) → S → ℕ → Option Event → Status X × Standing S
stepped_by step s choice None = settled s (step s choice)
stepped_by step s choice (Some (Call q)) = (Waiting, record { state = s; said = Some (Call q) })
stepped_by step s choice (Some (In port)) = (Waiting, record { state = s; said = Some (In port) })
stepped_by step s choice (Some (Out port byte)) = (Waiting, record { state = s; said = Some (Out port byte) })
stepped_by step s choice (Some End) = (Over, record { state = s; said = Some End })

abbrev pub stepped : {S X : Type 0} → (S → ℕ → Answer S X) → Standing S → ℕ → Status X × Standing S
stepped step x choice = stepped_by step x.state choice x.said

-- a reply is taken exactly where the machine asks and the reply fits; else nothing changes
abbrev pub replied_by : {S : Type 0} → (S → Event → Reply → ℕ → S) → S → Reply → ℕ → Option Event → Bool × Standing S
replied_by after s y choice None = (false, record { state = s; said = None })
replied_by after s y choice (Some e) =
    cond (fits_event e y)
    (true, record { state = after s e y choice; said = None })
    (false, record { state = s; said = Some e })

abbrev pub replied : {S : Type 0} → (S → Event → Reply → ℕ → S) → Standing S → Reply → ℕ → Bool × Standing S
replied after x y choice = replied_by after x.state y choice x.said

-- what is open after a step, by its answer
abbrev pub IsOpen : {X : Type 0} → Status X → Option Event → Type 0
IsOpen Going said = said ≡ None
IsOpen Waiting said = IsSome (waits_in said)
IsOpen Over said = said ≡ Some End
IsOpen (Stopped why) said = said ≡ None

-- the same by what a step answers, for a machine that has nothing open: what the definition's step is, and how the machine
-- stands
abbrev pub IsStepTold : {S X : Type 0} → Answer S X → Status X → S → Standing S → Type 0
IsStepTold a Going s y = (a ≡ Ran y.state) × (y.said ≡ None)
IsStepTold a Waiting s y = (e : Event) × ((a ≡ Asks e y.state) × (y.said ≡ Some e))
IsStepTold a Over s y = (a ≡ Ends) × (y ≡ record { state = s; said = Some End })
IsStepTold a (Stopped why) s y = (a ≡ Stops why) × (y ≡ record { state = s; said = None })

-- the same by what `reply` answers, for a machine that has said `e` last
abbrev pub IsTaken : {S : Type 0} → (S → Event → Reply → ℕ → S) → Event → Bool → Reply → ℕ → S → Standing S → Type 0
IsTaken after e true y choice s z = (fits_event e y ≡ true) × (z ≡ record { state = after s e y choice; said = None })
IsTaken after e false y choice s z = (fits_event e y ≡ false) × (z ≡ record { state = s; said = Some e })
