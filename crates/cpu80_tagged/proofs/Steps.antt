-- What a step answers, by the answer of the definition.
use Rattle.std.proofs.Common.{◌≡◌, ◌≢◌, true, List, Some, Result, Ok, Err, is_ok, refl, sym, ap, ◌∙◌, subst}
use Rattle.cells.specs.declared.Rule.{Rule}
use Rattle.dialogue.specs.declared.request.Shape.{Shape}
use Rattle.dialogue.specs.declared.request.Event.{Event}
use Rattle.dialogue.specs.Run.{Ran, Asks}
use Rattle.asm80_types.specs.Program.{Program}
use Rattle.cpu80_tagged.specs.State.{State80, num_of}
use Rattle.cpu80_tagged.specs.Call.{ask, is_place}
use Rattle.cpu80_tagged.specs.Step.{step80, return_at}
use Rattle.cpu80_tagged.specs.declared.turn.Return.{Return as KeptReturn}
use Rattle.cpu80_tagged.specs.declared.turn.Question.{Question}
use Rattle.cpu80_tagged.specs.declared.turn.Question.TheVariants.{System, In, Out}
use Rattle.cpu80_tagged.specs.declared.turn.Turn.{Turn}
use Rattle.cpu80_tagged.specs.declared.turn.Turn.TheVariants.{Ran as TurnRan, Asked as TurnAsked}
use Rattle.cpu80_tagged.specs.Turn.{return_of_turn, shape_at, answer_of_question, answer_of_turn, MayAsk, IsAsking}
use Rattle.cpu80_tagged.specs.declared.processor.Step80.TheVariants.{Asked as DidAsk}
use Rattle.cpu80_tagged.specs.declared.area.CellUse.{CellUse}
use Rattle.cpu80_tagged.specs.Area.{HasUses}
use Rattle.cpu80_tagged.specs.declared.processor.Cpu80.{Cpu80}
use Rattle.cpu80_tagged.specs.declared.processor.Phase.TheVariants.{Running}
use Rattle.cpu80_tagged.specs.ProcessorState.{tagged_state}
use Rattle.cpu80_tagged.specs.Machine.{IsCalling, WaitsBy, IsPhase, IsMachineOf, IsTaggedStep}
use Rattle.cpu80_tagged.proofs.Places.{GoesOn, goes_on}

pub ran_place : (p : Program) (s t : State80) → Ran t ≡ step80 p s → is_place p t.place ≡ true
ran_place p s t e = subst (GoesOn p s) (sym e) (goes_on p s)

-- a call that has a shape waits
calling : (p : Program) (s : State80) (kept : KeptReturn) → ask p s kept.is_popped (shape_at p s kept.is_popped) ≡ step80 p s → return_at p s s.place ≡ Ok (return_of_turn kept) → is_ok (shape_at p s kept.is_popped) ≡ true → num_of s.regs.c ≢ Some 0 → IsCalling p s kept
calling p s kept e back good no_reset = by_shape (shape_at p s kept.is_popped) refl good
  where
    by_shape : (r : Result Shape Rule) → shape_at p s kept.is_popped ≡ r → is_ok r ≡ true → IsCalling p s kept
    by_shape (Ok shape) f g = record {
      back = back;
      shape = shape;
      given = f;
      asked = sym e ∙ ap (ask p s kept.is_popped) f;
      no_reset = no_reset;
    }
    by_shape (Err r) f g = cc

-- what asks waits
waiting : (p : Program) (s : State80) (what : Question) (kept : KeptReturn) → answer_of_question p s kept.is_popped what ≡ step80 p s → return_at p s s.place ≡ Ok (return_of_turn kept) → MayAsk p s kept.is_popped what → WaitsBy p s kept what
waiting p s System kept e back may = calling p s kept e back may.0 may.1
waiting p s (In port) kept e back may = record { back = back; asked = sym e }
waiting p s (Out port byte) kept e back may = record { back = back; asked = sym e }

asks_step : (p : Program) (s : State80) (e : Event) → step80 p s ≡ Asks e s → IsTaggedStep (step80 p s) DidAsk s s
asks_step p s e asks = subst (λ a. IsTaggedStep a DidAsk s s) (sym asks) (refl, refl)

pub waiting_step : (p : Program) (s : State80) (what : Question) (kept : KeptReturn) → WaitsBy p s kept what → IsTaggedStep (step80 p s) DidAsk s s
waiting_step p s System kept w = asks_step p s _ w.asked
waiting_step p s (In port) kept w = asks_step p s _ w.asked
waiting_step p s (Out port byte) kept w = asks_step p s _ w.asked

-- the answer and the call of a turn that is known
pub ran_answer : (p : Program) (s t : State80) (r : Result Turn Rule) (turn : Turn) → r ≡ Ok turn → turn ≡ TurnRan → answer_of_turn p s r t ≡ step80 p s → Ran t ≡ step80 p s
ran_answer p s t r turn e is answer = subst (λ x. answer_of_turn p s x t ≡ step80 p s) (e ∙ ap Ok is) answer

pub asked_waits : (p : Program) (s start t : State80) (r : Result Turn Rule) (turn : Turn) (what : Question) (kept : KeptReturn) → start ≡ s → r ≡ Ok turn → turn ≡ TurnAsked what kept → answer_of_turn p start r t ≡ step80 p start → IsAsking p start (return_at p start start.place) r → WaitsBy p s kept what
asked_waits p s start t r turn what kept same e is answer call =
    let asked_so = subst (λ x. answer_of_turn p start x t ≡ step80 p start) (e ∙ ap Ok is) answer in
    let whole = subst (IsAsking p start (return_at p start start.place)) (e ∙ ap Ok is) call in
    subst (λ x. WaitsBy p x kept what) same (waiting p start what kept asked_so whole.0 whole.1)

-- a machine that runs, with the uses of cells as before and a place to go on at
pub runs_on : (p : Program) (uses : List CellUse) (c : Cpu80) → HasUses p uses → c.uses.items ≡ uses → c.phase ≡ Running → is_place p c.place ≡ true → IsMachineOf p c
runs_on p uses c h same runs place = record {
  uses = subst (HasUses p) (sym same) h;
  place = place;
  phase = subst (IsPhase p (tagged_state c)) (sym runs) tt;
}
