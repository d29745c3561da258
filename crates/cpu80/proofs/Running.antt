-- Runs: turn by turn the run over bytes has the dialogue of the tagged machine's, as long as that stays in the profile.
use Rattle.std.proofs.Common.{◌≡◌, ℕ, zero, suc, Bool, true, false, cond, List, [], ◌∷◌, ◌++◌, refl, sym, ap, subst}
use Rattle.std.specs.Prelude.{All}
use Rattle.std.proofs.lemmas.List.Elements.{All-head, All-tail}
use Rattle.cells.specs.declared.Rule.{Rule}
use Rattle.dialogue.specs.declared.request.Reply.{Reply}
use Rattle.dialogue.specs.declared.request.Event.{Event}
use Rattle.dialogue.specs.declared.request.Event.TheVariants.{End}
use Rattle.dialogue.specs.Fits.{fits_event}
use Rattle.dialogue.specs.Run.{Answer, Ran, Asks, Ends, Stops, Machine, Status, Going, Waiting, Over, Stopped, Run, choice_at, take_reply, settle, turn_by, turn, turns, IsNotStopped}
use Rattle.asm80_types.specs.Program.{Program, IsProgram}
use Rattle.cpu80_tagged.specs.State.{State80}
use Rattle.cpu80_tagged.specs.Step.{step80, machine80}
use Rattle.cpu80.specs.State.{UntaggedState}
use Rattle.cpu80.specs.Call.{Stop}
use Rattle.cpu80.specs.Step.{Fetch, step_untagged, untagged_machine}
use Rattle.cpu80.specs.Follows.{WritesBytes, TakesProgram}
use Rattle.dialogue.specs.Sight.{WhoSeesMoreAsksTheSame}
use Rattle.cpu80.proofs.Stands.{StatesStand}
use Rattle.cpu80.proofs.Calls.{IsAnswered, StepFollows}
use Rattle.cpu80.proofs.Steps.{steps_follow}

-- two runs, by the status of the first
abbrev pub Together : Program → (ℕ → ℕ) → Status Rule → Run State80 Rule → Run UntaggedState Stop → Type 0
Together p held Going x y =
    (y.status ≡ Going) × StatesStand p held x.state y.state × (y.dialogue ≡ x.dialogue) × (y.replies ≡ x.replies) × All WritesBytes x.replies
Together p held Waiting x y = (y.status ≡ Waiting) × (y.dialogue ≡ x.dialogue)
Together p held Over x y = (y.status ≡ Over) × (y.dialogue ≡ x.dialogue)
Together p held (Stopped r) x y = Unit {0}

abbrev pub AreTogether : Program → (ℕ → ℕ) → Run State80 Rule → Run UntaggedState Stop → Type 0
AreTogether p held x y = Together p held x.status x y

module _ (p : Program) (held : ℕ → ℕ) (fetch : Fetch) (cs : List ℕ) where
  abbrev M80 : Machine State80 Rule
  M80 = machine80 p

  abbrev M8 : Machine UntaggedState Stop
  M8 = untagged_machine fetch

  -- a reply that both take
  takes : (x : Run State80 Rule) (y : Run UntaggedState Stop) (e : Event) (ys : List Reply) → x.status ≡ Going → IsAnswered p held fetch x.state y.state e → y.status ≡ Going → y.dialogue ≡ x.dialogue → All WritesBytes ys → AreTogether p held (take_reply M80 [] x e ys) (take_reply M8 cs y e ys)
  takes x y e [] going a status said bytes = (refl, said)
  takes x y e (z ∷ zs) going a status said bytes = by_fit (fits_event e z) refl
    where
      by_fit : (b : Bool) → fits_event e z ≡ b → AreTogether p held (cond b (record x { state = M80.replied x.state e z (choice_at [] x.used); replies = zs; used = suc x.used }) (record x { status = Waiting })) (cond b (record y { state = M8.replied y.state e z (choice_at cs y.used); replies = zs; used = suc y.used }) (record y { status = Waiting }))
      by_fit true fit =
          subst (λ s. Together p held s (record x { state = M80.replied x.state e z (choice_at [] x.used); replies = zs; used = suc x.used }) (record y { state = M8.replied y.state e z (choice_at cs y.used); replies = zs; used = suc y.used })) (sym going)
          (status, a.after z (choice_at cs y.used) fit (All-head WritesBytes z zs bytes), said, refl, All-tail WritesBytes z zs bytes)
      by_fit false fit = (refl, said)

  settles : (x : Run State80 Rule) (y : Run UntaggedState Stop) (a : Answer State80 Rule) (b : Answer UntaggedState Stop) → x.status ≡ Going → y.status ≡ Going → y.dialogue ≡ x.dialogue → y.replies ≡ x.replies → All WritesBytes x.replies → StepFollows p held fetch a b → AreTogether p held (settle M80 [] x a) (settle M8 cs y b)
  settles x y (Stops r) b going status said left bytes h = tt
  settles x y (Ran s) (Ran u) going status said left bytes h =
      subst (λ t. Together p held t (record x { state = s; used = suc x.used }) (record y { state = u; used = suc y.used })) (sym going) (status, h, said, left, bytes)
  settles x y (Ran s) (Asks f u) going status said left bytes h = absurd h
  settles x y (Ran s) Ends going status said left bytes h = absurd h
  settles x y (Ran s) (Stops k) going status said left bytes h = absurd h
  settles x y (Asks e s) (Ran u) going status said left bytes h = absurd h
  settles x y (Asks e s) (Asks f u) going status said left bytes h =
      let x' : Run State80 Rule = record x { state = s; dialogue = x.dialogue ++ e ∷ []; used = suc x.used } in
      let both = takes x' (record y { state = u; dialogue = x.dialogue ++ e ∷ []; used = suc y.used }) e x.replies going h.1 status refl bytes in
      subst (λ k. AreTogether p held (settle M80 [] x (Asks e s)) (settle M8 cs y (Asks k u))) (sym h.0)
      (subst (λ d. AreTogether p held (settle M80 [] x (Asks e s)) (take_reply M8 cs (record y { state = u; dialogue = d ++ e ∷ []; used = suc y.used }) e y.replies)) (sym said)
      (subst (λ l. AreTogether p held (settle M80 [] x (Asks e s)) (take_reply M8 cs (record y { state = u; dialogue = x.dialogue ++ e ∷ []; used = suc y.used }) e l)) (sym left) both))
  settles x y (Asks e s) Ends going status said left bytes h = absurd h
  settles x y (Asks e s) (Stops k) going status said left bytes h = absurd h
  settles x y Ends (Ran u) going status said left bytes h = absurd h
  settles x y Ends (Asks f u) going status said left bytes h = absurd h
  settles x y Ends Ends going status said left bytes h = (refl, ap (λ d. d ++ End ∷ []) said)
  settles x y Ends (Stops k) going status said left bytes h = absurd h

  module _ (g : IsProgram p) (takes_program : TakesProgram fetch p held) (same : WhoSeesMoreAsksTheSame) where
    turn_together : (x : Run State80 Rule) (y : Run UntaggedState Stop) (st : Status Rule) → x.status ≡ st → Together p held st x y → AreTogether p held (turn_by M80 [] x st) (turn M8 cs y)
    turn_together x y Going e h =
        subst (λ t. AreTogether p held (turn_by M80 [] x Going) (turn_by M8 cs y t)) (sym h.0)
        (settles x y (step80 p x.state) (step_untagged fetch y.state (choice_at cs y.used)) e h.0 h.2 h.3 h.4 (steps_follow p g held fetch takes_program same x.state y.state (choice_at cs y.used) h.1))
    turn_together x y Waiting e h = subst (λ t. Together p held t x (turn M8 cs y)) (sym e) (subst (λ t. Together p held Waiting x (turn_by M8 cs y t)) (sym h.0) h)
    turn_together x y Over e h = subst (λ t. Together p held t x (turn M8 cs y)) (sym e) (subst (λ t. Together p held Over x (turn_by M8 cs y t)) (sym h.0) h)
    turn_together x y (Stopped r) e h = subst (λ t. Together p held t x (turn M8 cs y)) (sym e) tt

    pub turns_together : (n : ℕ) (x : Run State80 Rule) (y : Run UntaggedState Stop) → AreTogether p held x y → AreTogether p held (turns M80 [] n x) (turns M8 cs n y)
    turns_together zero x y h = h
    turns_together (suc n) x y h = turns_together n (turn M80 [] x) (turn M8 cs y) (turn_together x y x.status refl h)

-- what runs that are together have said
pub together_said : (p : Program) (held : ℕ → ℕ) (x : Run State80 Rule) (y : Run UntaggedState Stop) (st : Status Rule) → IsNotStopped st → Together p held st x y → (y.dialogue ≡ x.dialogue) × IsNotStopped y.status
together_said p held x y Going n h = (h.2, subst IsNotStopped (sym h.0) tt)
together_said p held x y Waiting n h = (h.1, subst IsNotStopped (sym h.0) tt)
together_said p held x y Over n h = (h.1, subst IsNotStopped (sym h.0) tt)
together_said p held x y (Stopped r) n h = absurd n
