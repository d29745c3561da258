-- Each state of a run of the tagged 8080 holds what such states may hold.
use Rattle.std.proofs.Common.{◌≡◌, ℕ, zero, suc, ◌+◌, ◌<◌, Bool, true, false, cond, List, [], ◌∷◌, ◌++◌, Option, Some, None, Result, Ok, Err, refl, sym, subst, ◌∙◌, arith, ⊎_elim}
use Rattle.std.specs.Prelude.{All, nat_lt}
use Rattle.std.proofs.lemmas.Bool.{ltb-true, and_parts}
use Rattle.std.proofs.lemmas.List.Elements.{All-head, All-tail}
use Rattle.cells.specs.declared.Place.{Place}
use Rattle.cells.specs.declared.Place.TheVariants.{At, Exit}
use Rattle.cells.specs.declared.Cell.TheVariants.{Num, Lo, Hi}
use Rattle.cells.specs.declared.Rule.{Rule}
use Rattle.i80.specs.declared.Reg.{Reg}
use Rattle.i80.specs.declared.Reg.TheVariants.{A, B, C, D, E, H, L}
use Rattle.i80.specs.declared.Instr80.{Instr80}
use Rattle.dialogue.specs.declared.request.Reply.{Reply}
use Rattle.dialogue.specs.declared.request.Request.{Request}
use Rattle.dialogue.specs.declared.request.Event.{Event}
use Rattle.dialogue.specs.declared.request.Event.TheVariants.{Call as CallEvent, In as InEvent, Out as OutEvent}
use Rattle.dialogue.specs.Fits.{fits_event, writes_nothing}
use Rattle.dialogue.specs.Replies.{IsReply}
use Rattle.dialogue.specs.Shape.{request_of}
use Rattle.dialogue.specs.Words.{wrap}
use Rattle.dialogue.specs.Run.{Answer, Ran, Asks, Ends, Stops, Status, Going, Waiting, Over, Stopped, Run, take_reply, settle, turn_by, turn, turns, start_run}
use Rattle.dialogue.proofs.Tried.{ok_is, then_is}
use Rattle.asm80_types.specs.Program.{Program, IsProgram, instr_at}
use Rattle.cpu80_tagged.specs.State.{State80, reg80, with_a}
use Rattle.cpu80_tagged.specs.Memory.{put, read_word}
use Rattle.cpu80_tagged.specs.Effect.{push}
use Rattle.cpu80_tagged.specs.Call.{Return, seen_by_tagged, call_system, place_if, place_in, is_place, popped_return}
use Rattle.cpu80_tagged.specs.Step.{leave_to, act_at, step_at, step80, return_at, replied_to, replied80, machine80}
use Rattle.cpu80_tagged.specs.Start.{start80}
use Rattle.sym_block_def.specs.Outcome.{Way, Goto, ByTerms, Call, Sys, SysReturn, Boot, Leave, In, Out}
use Rattle.sym_block_def.specs.Block80.{block80}
use Rattle.sym_terms.specs.Values80.{Env80}
use Rattle.simulation_def.specs.Steps.{RunsOn}
use Rattle.simulation_def.specs.States.{IsCell, IsState80}
use Rattle.simulation_def.specs.Runs80.{going_on, Answers80, BlockRuns80, BlockLeaves80, BlocksRun80}
use Rattle.sym_sound.proofs.Machine80.Denoting.{cell_put}
use Rattle.simulation_law.proofs.Asking.{AsksSystem, CallsSystem80, leaves, resets, asking, calls_80, reply_fits}
use Rattle.simulation_law.proofs.Pushing.{wrapped, push_is}
use Rattle.simulation_law.proofs.Replying.{state80_after}
use Rattle.simulation_law.proofs.Following.{state80, block_bytes}
use Rattle.profile_leaving.specs.Left.{RunsKeepStates}
use Rattle.profile_leaving.proofs.Fronts.{front_may_run}

-- an answer leads to such a state, where it asks with each reply that it may get
abbrev Holds : Program → Answer State80 Rule → Type 0
Holds p (Ran s) = IsState80 p s
Holds p (Asks e s) = (y : Reply) → IsReply y → fits_event e y ≡ true → IsState80 p (replied80 p s e y)
Holds p Ends = Unit {0}
Holds p (Stops r) = Unit {0}

-- ---- the last step of a block, by the state with which its terms end

module _ (p : Program) (t : State80) (is : IsState80 p t) where
  left_to : (sp : ℕ) (q : Place) → sp < 0x10000 → Holds p (leave_to t sp q)
  left_to sp (At a) lt = record { regs = is.regs; mem = is.mem; sp = lt }
  left_to sp Exit lt = tt

  pushed : (q : Place) (u : State80) → IsCell p (Hi q) → push p t (Hi q) (Lo q) ≡ Ok u → IsState80 p u
  pushed q u held e =
      let k = wrap (t.sp + 0xFFFE) in
      subst (IsState80 p) (sym (push_is p t (Hi q) (Lo q) u e).1) (record {
        regs = is.regs;
        mem = λ a is_open. cell_put p (put t.mem k (Lo q)) (k + 1) (Hi q) a (cell_put p t.mem k (Lo q) a (is.mem a is_open) held) held;
        sp = wrapped (t.sp + 0xFFFE);
      })

  -- ---- calls of the system

  abbrev asked : {back : Result Return Rule} → AsksSystem p t back → Request
  asked a = request_of a.shape (seen_by_tagged p t a.return.is_popped)

  system : (back : Result Return Rule) → return_at p t t.place ≡ back → ((k : Return) → back ≡ Ok k → k.sp < 0x10000) → Holds p (call_system p t back)
  system back e small = by_call (calls_80 p t back)
    where
      after : (a : AsksSystem p t back) (y : Reply) → IsReply y → fits_event (CallEvent (asked a)) y ≡ true → IsState80 p (replied80 p t (CallEvent (asked a)) y)
      after a y bytes fit =
          subst (λ k. IsState80 p (replied_to p t k (CallEvent (asked a)) y)) (sym (e ∙ a.returns))
          (state80_after p t (asked a) y (reply_fits p t back a y fit).answer (block_bytes y.writes bytes.writes) a.return.place a.return.sp is (small a.return a.returns))

      by_call : CallsSystem80 p t back → Holds p (call_system p t back)
      by_call (leaves r h) = subst (Holds p) (sym h) tt
      by_call (resets c h) = subst (Holds p) (sym h) tt
      by_call (asking a) = subst (Holds p) (sym a.asks) (after a)

  goes_small : (q : Place) (k : Return) → going_on p t q ≡ Ok k → k.sp < 0x10000
  goes_small q k e =
      let a = then_is (place_if (is_place p q) q) _ k e in
      subst (λ (r : Return). r.sp < 0x10000) (ok_is _ k a.2) is.sp

  popped_small : (k : Return) → popped_return p t ≡ Ok k → k.sp < 0x10000
  popped_small k e =
      let a = then_is (read_word p t t.sp) _ k e in
      let b = then_is (place_in p a.0.high a.0.low) _ k a.2 in
      subst (λ (r : Return). r.sp < 0x10000) (ok_is _ k b.2) (wrapped (t.sp + 2))

  -- ---- ports

  after_in : (port : ℕ) (y : Reply) → y.answer < 256 → (back : Result Return Rule) → IsState80 p (replied_to p t back (InEvent port) y)
  after_in port y lt (Err r) = is
  after_in port y lt (Ok back) = record { regs = reg; mem = is.mem; sp = is.sp }
    where
      reg : (r : Reg) → IsCell p (reg80 (with_a t (Num y.answer)).regs r)
      reg A = lt
      reg B = is.regs B
      reg C = is.regs C
      reg D = is.regs D
      reg E = is.regs E
      reg H = is.regs H
      reg L = is.regs L

  after_out : (port byte : ℕ) (y : Reply) (back : Result Return Rule) → IsState80 p (replied_to p t back (OutEvent port byte) y)
  after_out port byte y (Err r) = is
  after_out port byte y (Ok back) = record { regs = is.regs; mem = is.mem; sp = is.sp }

  in_small : (port : ℕ) (y : Reply) → fits_event (InEvent port) y ≡ true → y.answer < 256
  in_small port y fit = ltb-true y.answer 256 (and_parts (nat_lt y.answer 256) (writes_nothing y.writes) fit).0

  -- ---- each way

  answer_holds : (e : Env80) (w : Way) (a : Answer State80 Rule) → Answers80 p e t w a → Holds p a
  answer_holds e (Goto q) a h = subst (Holds p) (sym h.1) (record { regs = is.regs; mem = is.mem; sp = is.sp })
  answer_holds e (ByTerms high low) a h =
      ⊎_elim (λ g. subst (Holds p) (sym g.answers) (left_to t.sp g.place is.sp)) (λ g. subst (Holds p) (sym g.answers) (left_to (wrap (t.sp + 2)) g.place (wrapped (t.sp + 2)))) h
  answer_holds e (Call target back) a h =
      let u = pushed back h.0 h.2 h.3 in
      subst (Holds p) (sym h.4) (record { regs = u.regs; mem = u.mem; sp = u.sp })
  answer_holds e (Sys back) a h = subst (Holds p) (sym h.1) (system (going_on p t back) h.0 (goes_small back))
  answer_holds e SysReturn a h = subst (Holds p) (sym h.1) (system (popped_return p t) h.0 popped_small)
  answer_holds e Boot a h = subst (Holds p) (sym h) tt
  answer_holds e Leave a h = absurd h
  answer_holds e (In port next) a h = subst (Holds p) (sym h.2) (λ y bytes fit. after_in port y (in_small port y fit) (return_at p t t.place))
  answer_holds e (Out port next) a h = subst (Holds p) (sym h.4) (λ y bytes fit. after_out port h.0 y (return_at p t t.place))

-- ---- a step: each instruction alone is a block that may run

module _ (sound : BlocksRun80) (p : Program) (is : IsProgram p) where
  module _ (s : State80) (held : IsState80 p s) where
    none_before : (n : ℕ) (last : State80) → n < 1 → RunsOn (machine80 p) [] n 0 s last → last ≡ s
    none_before zero last lt h = h
    none_before (suc n) last lt h = absurd (omega (arith, lt))

    stopped : (l : BlockLeaves80 p 1 s) → Holds p (step80 p s)
    stopped l = subst (λ z. Holds p (step80 p z)) (none_before l.before l.last l.within l.runs) (subst (Holds p) (sym l.stops) tt)

    came : (a : ℕ) → BlockRuns80 p 1 (block80 p a 1) s → Holds p (step80 p s)
    came a r = subst (λ z. Holds p (step80 p z)) r.runs (answer_holds p r.ended r.is_state _ r.way (step80 p r.last) r.answers)

    at_instruction : (a : ℕ) (o : Option Instr80) → s.place ≡ At a → instr_at p a ≡ o → Holds p (act_at p s a o)
    at_instruction a None place here = tt
    at_instruction a (Some i) place here =
        let run = front_may_run p a 1 1 (i, here, (λ lt. absurd (omega (arith, lt))), tt) (omega arith) (omega arith) (omega arith) in
        subst (λ o. Holds p (act_at p s a o)) here (subst (λ q. Holds p (step_at p s q)) place (⊎_elim stopped (came a) (sound p a 1 s is run held place)))

    step_holds : Holds p (step80 p s)
    step_holds = by_place s.place refl
      where
        by_place : (q : Place) → s.place ≡ q → Holds p (step_at p s q)
        by_place Exit e = tt
        by_place (At a) e = at_instruction a (instr_at p a) e refl

  -- ---- turns

  record HoldsOn (r : Run State80 Rule) : Type 0 where
    state : r.status ≡ Going → IsState80 p r.state
    replies : All IsReply r.replies

  taken : (r : Run State80 Rule) (e : Event) (ys : List Reply) → All IsReply r.replies → All IsReply ys → Holds p (Asks e r.state) → HoldsOn (take_reply (machine80 p) [] r e ys)
  taken r e [] left all h = record { state = λ g. absurd (cc); replies = left }
  taken r e (y ∷ ys) left all h = by_fit (fits_event e y) refl
    where
      by_fit : (b : Bool) → fits_event e y ≡ b → HoldsOn (cond b (record r { state = replied80 p r.state e y; replies = ys; used = suc r.used }) (record r { status = Waiting }))
      by_fit true fit = record { state = λ g. h y (All-head IsReply y ys all) fit; replies = All-tail IsReply y ys all }
      by_fit false fit = record { state = λ g. absurd (cc); replies = left }

  settled : (r : Run State80 Rule) (a : Answer State80 Rule) → HoldsOn r → Holds p a → HoldsOn (settle (machine80 p) [] r a)
  settled r (Ran s) on h = record { state = λ g. h; replies = on.replies }
  settled r (Asks e s) on h = taken (record r { state = s; dialogue = r.dialogue ++ e ∷ []; used = suc r.used }) e r.replies on.replies on.replies h
  settled r Ends on h = record { state = λ g. absurd (cc); replies = on.replies }
  settled r (Stops why) on h = record { state = λ g. absurd (cc); replies = on.replies }

  turned : (r : Run State80 Rule) → HoldsOn r → HoldsOn (turn (machine80 p) [] r)
  turned r on = by_status r.status refl
    where
      by_status : (st : Status Rule) → r.status ≡ st → HoldsOn (turn_by (machine80 p) [] r st)
      by_status Going g = settled r (step80 p r.state) on (step_holds r.state (on.state g))
      by_status Waiting g = on
      by_status Over g = on
      by_status (Stopped why) g = on

  goes : (n : ℕ) (r : Run State80 Rule) → HoldsOn r → HoldsOn (turns (machine80 p) [] n r)
  goes zero r on = on
  goes (suc n) r on = goes n (turn (machine80 p) [] r) (turned r on)

pub runs_keep_states : BlocksRun80 → RunsKeepStates
runs_keep_states sound p page replies n is is_page are = (goes sound p is n (start_run (start80 p page) replies) (record { state = λ g. state80 p is page is_page; replies = are })).state
