-- What a caller sees of a machine, call by call, and how the run stands that this is.
use Rattle.std.specs.Prelude.{◌≡◌, ℕ, suc, true, false, List, [], ◌∷◌, ◌++◌, Some, None}
use Rattle.dialogue.specs.declared.request.Reply.{Reply}
use Rattle.dialogue.specs.declared.request.Event.{Event}
use Rattle.dialogue.specs.declared.request.Event.TheVariants.{End}
use Rattle.dialogue.specs.Run.{Machine, Status, Going, Waiting, Over, Stopped, Run, choice_at}
use Rattle.dialogue.specs.Calls.{Standing, stepped, replied}

-- the calls of `step` and `reply` on a machine that began in the state `s`, the choices coming round: how its run stands after
-- them, the events so far, the replies that were taken, the number of turns, and the number of choices used. A turn is one step,
-- with the reply that it gets. A step where the run waits or is over, a further stop, and a reply that is refused, change nothing
pub data Calls {S X : Type 0} (m : Machine S X) (cs : List ℕ) (s : S) : Status X → List Event → List Reply → ℕ → ℕ → Standing S → Type 0 where
  started : Calls m cs s Going [] [] 0 0 (record { state = s; said = None })
  ran : (d : List Event) (ys : List Reply) (n u : ℕ) (x y : Standing S) → Calls m cs s Going d ys n u x → (Going, y) ≡ stepped m.step x (choice_at cs u) → Calls m cs s Going d ys (suc n) (suc u) y
  asked : (d : List Event) (ys : List Reply) (n u : ℕ) (x y : Standing S) (e : Event) → Calls m cs s Going d ys n u x → (Waiting, y) ≡ stepped m.step x (choice_at cs u) → y.said ≡ Some e → Calls m cs s Waiting (d ++ e ∷ []) ys (suc n) (suc u) y
  took : (d : List Event) (ys : List Reply) (n u : ℕ) (x y : Standing S) (reply : Reply) → Calls m cs s Waiting d ys n u x → (true, y) ≡ replied m.replied x reply (choice_at cs u) → Calls m cs s Going d (ys ++ reply ∷ []) n (suc u) y
  ended : (d : List Event) (ys : List Reply) (n u : ℕ) (x y : Standing S) → Calls m cs s Going d ys n u x → (Over, y) ≡ stepped m.step x (choice_at cs u) → Calls m cs s Over (d ++ End ∷ []) ys (suc n) u y
  stopped : (d : List Event) (ys : List Reply) (n u : ℕ) (x y : Standing S) (why : X) → Calls m cs s Going d ys n u x → (Stopped why, y) ≡ stepped m.step x (choice_at cs u) → Calls m cs s (Stopped why) d ys (suc n) u y
  asked_again : (d : List Event) (ys : List Reply) (n u : ℕ) (x y : Standing S) (answer : Status X) (choice : ℕ) → Calls m cs s Waiting d ys n u x → (answer, y) ≡ stepped m.step x choice → Calls m cs s Waiting d ys n u y
  ended_again : (d : List Event) (ys : List Reply) (n u : ℕ) (x y : Standing S) (answer : Status X) (choice : ℕ) → Calls m cs s Over d ys n u x → (answer, y) ≡ stepped m.step x choice → Calls m cs s Over d ys n u y
  stopped_again : (d : List Event) (ys : List Reply) (n u : ℕ) (x y : Standing S) (why again : X) (choice : ℕ) → Calls m cs s (Stopped why) d ys n u x → (Stopped again, y) ≡ stepped m.step x choice → Calls m cs s (Stopped why) d ys n u y
  refused : (status : Status X) (d : List Event) (ys : List Reply) (n u : ℕ) (x y : Standing S) (reply : Reply) (choice : ℕ) → Calls m cs s status d ys n u x → (false, y) ≡ replied m.replied x reply choice → Calls m cs s status d ys n u y

-- the run stands so, with no reply left over
pub record IsRunAt {S X : Type 0} (run : Run S X) (status : Status X) (d : List Event) (s : S) : Type 0 where
  pub same_state : run.state ≡ s
  pub same_status : run.status ≡ status
  pub same_dialogue : run.dialogue ≡ d
  pub none_left : run.replies ≡ []
