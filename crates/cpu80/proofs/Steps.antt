-- One step: what the tagged machine does, unless it leaves the profile, the one over bytes does too.
use Rattle.std.proofs.Common.{◌≡◌, ℕ, ◌+◌, ◌/◌, ◌%◌, ◌<◌, Bool, true, false, cond, not, Option, Some, None, Result, Ok, Err, refl, sym, ap, subst, ◌∙◌, arith}
use Rattle.std.proofs.lemmas.Bool.{and_parts, ltb-true}
use Rattle.cells.specs.declared.Place.{Place}
use Rattle.cells.specs.declared.Place.TheVariants.{At, Exit}
use Rattle.cells.specs.declared.Flags.{Flags}
use Rattle.cells.specs.declared.Cell.TheVariants.{Num, Lo, Hi}
use Rattle.cells.specs.declared.Cond.{Cond}
use Rattle.cells.specs.declared.Cond.TheVariants.{Nz, Z, Nc, C, Po, Pe, P, M}
use Rattle.cells.specs.declared.Rule.{Rule}
use Rattle.cells.specs.declared.Rule.TheVariants.{P1, P10}
use Rattle.i80.specs.declared.Pair.TheVariants.{H as PairH}
use Rattle.i80.specs.declared.Goal.{Goal}
use Rattle.i80.specs.declared.Goal.TheVariants.{At as Instr, Boot, Bdos}
use Rattle.i80.specs.declared.Instr80.{Instr80}
use Rattle.i80.specs.declared.Instr80.TheVariants.{Pchl, Jmp, Jif, Call, Cif, Ret, Rif, Rst0, In, Out}
use Rattle.i80.specs.Columns.{length80}
use Rattle.dialogue.specs.declared.request.Event.{Event}
use Rattle.dialogue.specs.declared.request.Event.TheVariants.{In as AskedIn, Out as AskedOut}
use Rattle.dialogue.specs.Run.{Answer, Ran, Asks, Ends, Stops}
use Rattle.asm80_types.specs.Program.{Program, IsProgram, instr_at, is_start}
use Rattle.cpu80_tagged.specs.State.{State80, num_or, with_a as with_a80}
use Rattle.cpu80_tagged.specs.Effect.{effect as effect80, push as push80}
use Rattle.cpu80_tagged.specs.Call.{Return as Return80, call_system as call_system80, place_if, place_in, popped_return as popped_return80, return_after as return_after80}
use Rattle.cells.specs.Conditions.{Knows, is_clear, holds as holds80}
use Rattle.cpu80_tagged.specs.Step.{go_to as go_to80, go_on, leave_to as leave_to80, go_by, go_back, jump as jump80, enter, call as call80, where_holds, ask_event, ask_port, sent, act as act80, act_at as act_at80, step_at as step_at80, step80, return_of as return_of80, return_at as return_at80, replied_to as replied_to80}
use Rattle.cpu80.specs.State.{UntaggedFlags, UntaggedState, pair_word, with_a}
use Rattle.cpu80.specs.Flags.{holds}
use Rattle.cpu80.specs.Effect.{effect, push}
use Rattle.cpu80.specs.Call.{Stop, call_system, popped_return}
use Rattle.cpu80.specs.Step.{Fetch, go_to, leave_to, ret, jump, call, act, next_address, act_at, step_at, step_untagged, return_of, return_at, replied_to, replied_untagged}
use Rattle.cpu80.specs.Follows.{TakesAs, TakesProgram}
use Rattle.dialogue.specs.Sight.{WhoSeesMoreAsksTheSame}
use Rattle.dialogue.specs.Words.{wrap}
use Rattle.dialogue.specs.ByteMemory.{word_at}
use Rattle.dialogue.proofs.Tried.{ok_is, err_is_not, then_is}
use Rattle.cpu80.proofs.Stands.{FlagsStand, StatesStand, sets_sp, sets_place, number, number_is}
use Rattle.cpu80.proofs.MovesStand.{sets_a, high_of_place, low_of_place, push_stands}
use Rattle.asm80_types.proofs.Standing.{IsPlaced, is_placed, start_range}
use Rattle.cpu80.proofs.Rows.{effects_stand}
use Rattle.cpu80.proofs.Calls.{IsAnswered, StepFollows, not_zero, Names, place_names, ReturnStands, pops, popped_stands, system_follows}

-- conditions

is_clear_knows : (o : Option Bool) (b : Bool) → Knows o b → Knows (is_clear o) (not b)
is_clear_knows None b h = tt
is_clear_knows (Some v) b h = ap not h

holds_knows : (f : Flags) (g : UntaggedFlags) (c : Cond) → FlagsStand f g → Knows (holds80 f c) (holds g c)
holds_knows f g Nz h = is_clear_knows f.z g.z h.z
holds_knows f g Z h = h.z
holds_knows f g Nc h = is_clear_knows f.cy g.cy h.cy
holds_knows f g C h = h.cy
holds_knows f g Po h = is_clear_knows f.p g.p h.p
holds_knows f g Pe h = h.p
holds_knows f g P h = is_clear_knows f.s g.s h.s
holds_knows f g M h = h.s

-- the address after an instruction
after_is : (p : Program) (at : ℕ) (i : Instr80) → IsPlaced p at i → at + length80 i ≡ next_address at i
after_is p at i h = let lt = h.below in omega (arith, lt)

module _ (p : Program) (g : IsProgram p) (held : ℕ → ℕ) (fetch : Fetch) (takes : TakesProgram fetch p held) where
  -- gotos

  go_to_follows : (s : State80) (u : UntaggedState) (a : ℕ) → StatesStand p held s u → StepFollows p held fetch (go_to80 p s a) (go_to u a)
  go_to_follows s u a d = by_start (is_start p a)
    where
      by_start : (b : Bool) → StepFollows p held fetch (cond b (Ran (record s { place = At a })) (Stops P1)) (go_to u a)
      by_start true = sets_place s u (At a) d
      by_start false = tt

  leave_follows : (s : State80) (u : UntaggedState) (sp80 sp w : ℕ) (q : Place) → StatesStand p held s u → Names p q w → sp ≡ sp80 → sp80 < 0x10000 → StepFollows p held fetch (leave_to80 s sp80 q) (leave_to u sp w)
  leave_follows s u sp80 sp w (At a) d n e lt =
      subst (λ k. StepFollows p held fetch (Ran (record s { place = At a; sp = sp80 })) (leave_to u sp k)) (sym n.address)
      (subst (λ k. StepFollows p held fetch (Ran (record s { place = At a; sp = sp80 })) (leave_to u k a)) (sym e)
      (subst (λ b. StepFollows p held fetch (Ran (record s { place = At a; sp = sp80 })) (cond b Ends (Ran (record u { place = At a; sp = sp80 })))) (sym (not_zero a (start_range p a g n.is_place).0))
      (sets_place (record s { sp = sp80 }) (record u { sp = sp80 }) (At a) (sets_sp s u sp80 d lt))))
  leave_follows s u sp80 sp w Exit d n e lt = subst (λ k. StepFollows p held fetch Ends (leave_to u sp k)) (sym n.address) tt

  pchl_follows : (s : State80) (u : UntaggedState) → StatesStand p held s u → StepFollows p held fetch (go_by s s.sp (place_in p s.regs.h s.regs.l)) (leave_to u u.sp (pair_word u PairH))
  pchl_follows s u d = by_place (place_in p s.regs.h s.regs.l) refl
    where
      by_place : (o : Result Place Rule) → place_in p s.regs.h s.regs.l ≡ o → StepFollows p held fetch (go_by s s.sp o) (leave_to u u.sp (pair_word u PairH))
      by_place (Err r) e = tt
      by_place (Ok q) e = leave_follows s u s.sp u.sp (pair_word u PairH) q d (place_names p s.regs.h s.regs.l q u.regs.h u.regs.l d.regs.h d.regs.l e) d.sp d.sp_small

  ret_follows : (s : State80) (u : UntaggedState) → StatesStand p held s u → StepFollows p held fetch (go_back s (popped_return80 p s)) (ret u)
  ret_follows s u d = by_return (popped_return80 p s) refl
    where
      up : wrap (s.sp + 2) < 0x10000
      up = omega arith

      by_return : (o : Result Return80 Rule) → popped_return80 p s ≡ o → StepFollows p held fetch (go_back s o) (ret u)
      by_return (Err r) e = tt
      by_return (Ok r) e =
          let q = pops p s u r d e in
          subst (λ (k : Return80). StepFollows p held fetch (go_back s (Ok k)) (ret u)) q.is
          (leave_follows s u (wrap (s.sp + 2)) (wrap (u.sp + 2)) (word_at u.mem u.sp) q.place d q.names (ap (λ k. wrap (k + 2)) d.sp) up)

  where_follows : (s : State80) (u : UntaggedState) (a : ℕ) (o : Option Bool) (b : Bool) (x : Answer State80 Rule) (y : Answer UntaggedState Stop) → StatesStand p held s u → Knows o b → StepFollows p held fetch x y → StepFollows p held fetch (where_holds p s a o x) (cond b y (go_to u a))
  where_follows s u a None b x y d h f = tt
  where_follows s u a (Some true) b x y d h f = subst (λ k. StepFollows p held fetch x (cond k y (go_to u a))) (sym h) f
  where_follows s u a (Some false) b x y d h f = subst (λ k. StepFollows p held fetch (go_to80 p s a) (cond k y (go_to u a))) (sym h) (go_to_follows s u a d)

  enter_follows : (s : State80) (u : UntaggedState) (a t : ℕ) → StatesStand p held s u → a < 0x10000 → StepFollows p held fetch (enter p t a (push80 p s (Hi (At a)) (Lo (At a)))) (go_to (push u (a / 256) (a % 256)) t)
  enter_follows s u a t d lt = by_push (push80 p s (Hi (At a)) (Lo (At a))) refl
    where
      by_start : (v : State80) (b : Bool) → StatesStand p held v (push u (a / 256) (a % 256)) → StepFollows p held fetch (cond b (go_to80 p v t) (Stops P1)) (go_to (push u (a / 256) (a % 256)) t)
      by_start v true h = go_to_follows v (push u (a / 256) (a % 256)) t h
      by_start v false h = tt

      by_push : (o : Result State80 Rule) → push80 p s (Hi (At a)) (Lo (At a)) ≡ o → StepFollows p held fetch (enter p t a o) (go_to (push u (a / 256) (a % 256)) t)
      by_push (Err r) e = tt
      by_push (Ok v) e = by_start v (is_start p a) (push_stands p s v u (Hi (At a)) (Lo (At a)) (a / 256) (a % 256) d (high_of_place a lt) (low_of_place a) e)

  on_follows : (s : State80) (u : UntaggedState) (at a : ℕ) (i : Instr80) (choice : ℕ) → StatesStand p held s u → IsPlaced p at i → StepFollows p held fetch (go_on p a (effect80 p s i)) (go_to (effect u i choice) a)
  on_follows s u at a i choice d h = by_effect (effect80 p s i) refl
    where
      by_effect : (o : Result State80 Rule) → effect80 p s i ≡ o → StepFollows p held fetch (go_on p a o) (go_to (effect u i choice) a)
      by_effect (Err r) e = tt
      by_effect (Ok t) e = go_to_follows t (effect u i choice) a (effects_stand p s t u at i choice g h d e)

  -- the place after an instruction, where one starts there
  after_stands : (s : State80) (u : UntaggedState) (at a : ℕ) → StatesStand p held s u → a ≡ at → (r : Return80) → return_after80 p s a ≡ Ok r → ReturnStands r (record { place = At at; sp = u.sp })
  after_stands s u at a d same r e =
      let q = then_is (place_if (is_start p a) (At a)) _ r e in
      let placed = if_is (is_start p a) (At a) q.0 q.1 in
      let made : ReturnStands (record { place = At at; sp = s.sp; is_popped = false }) (record { place = At at; sp = u.sp }) = record { place = refl; sp = d.sp; small = d.sp_small } in
      let is : At at ≡ q.0 = ap At (sym same) ∙ placed in
      subst (λ (k : Return80). ReturnStands k (record { place = At at; sp = u.sp })) (ap (λ (k : Place). record { place = k; sp = s.sp; is_popped = false }) is ∙ ok_is _ r q.2) made
    where
      if_is : (b : Bool) (q r : Place) → place_if b q ≡ Ok r → q ≡ r
      if_is true q r e = ok_is q r e
      if_is false q r e = absurd (err_is_not P1 r e)

  after_ok : (s : State80) (a : ℕ) → is_start p a ≡ true → return_after80 p s a ≡ Ok (record { place = At a; sp = s.sp; is_popped = false })
  after_ok s a h = ap (λ b. Rattle.dialogue.specs.Tried.try_then (place_if b (At a)) (λ q. Ok (record { place = q; sp = s.sp; is_popped = false }))) h

  -- an instruction at an address, with its step
  module _ (same : WhoSeesMoreAsksTheSame) (s : State80) (u : UntaggedState) (d : StatesStand p held s u) (at : ℕ) (place : s.place ≡ At at) where
    here : (i : Instr80) → instr_at p at ≡ Some i → return_at80 p s s.place ≡ return_of80 p s at (Some i)
    here i has = ap (return_at80 p s) place ∙ ap (return_of80 p s at) has

    taken : (i : Instr80) → instr_at p at ≡ Some i → TakesAs fetch u at i
    taken i has = takes u at i (record { bytes = λ a. (d.mem.each a).small; code = d.mem.code }) has

    there : (i : Instr80) → instr_at p at ≡ Some i → return_at fetch u u.place ≡ return_of u at (Some i)
    there i has = ap (return_at fetch u) (d.place ∙ place) ∙ (taken i has).returns

    -- calls of the system
    jump_system : (i : Instr80) → instr_at p at ≡ Some i → return_of80 p s at (Some i) ≡ popped_return80 p s → return_of u at (Some i) ≡ Some (popped_return u) → StepFollows p held fetch (call_system80 p s (popped_return80 p s)) (call_system u)
    jump_system i has h k = system_follows same p held fetch s u d (popped_return80 p s) (popped_return u) (here i has ∙ h) (there i has ∙ k) (λ r e. popped_stands p s u r g d e)

    call_system_follows : (i : Instr80) → instr_at p at ≡ Some i → IsPlaced p at i → return_of80 p s at (Some i) ≡ return_after80 p s (at + length80 i) → return_of u at (Some i) ≡ Some (record { place = At (next_address at i); sp = u.sp }) → StepFollows p held fetch (call_system80 p s (return_after80 p s (at + length80 i))) (call_system u)
    call_system_follows i has l h k = system_follows same p held fetch s u d (return_after80 p s (at + length80 i)) (record { place = At (next_address at i); sp = u.sp }) (here i has ∙ h) (there i has ∙ k) (after_stands s u (next_address at i) (at + length80 i) d (after_is p at i l))

    jump_follows : (i : Instr80) (to : Goal) → instr_at p at ≡ Some i → return_of80 p s at (Some i) ≡ popped_return80 p s → return_of u at (Some i) ≡ Some (popped_return u) → StepFollows p held fetch (jump80 p s to) (jump u to)
    jump_follows i (Instr t) has h k = go_to_follows s u t d
    jump_follows i Boot has h k = tt
    jump_follows i Bdos has h k = jump_system i has h k

    call_follows : (i : Instr80) (to : Goal) → instr_at p at ≡ Some i → IsPlaced p at i → return_of80 p s at (Some i) ≡ return_after80 p s (at + length80 i) → return_of u at (Some i) ≡ Some (record { place = At (next_address at i); sp = u.sp }) → StepFollows p held fetch (call80 p s (at + length80 i) to) (call u (at + length80 i) to)
    call_follows i (Instr t) has l h k = enter_follows s u (at + length80 i) t d l.below
    call_follows i Boot has l h k = tt
    call_follows i Bdos has l h k = call_system_follows i has l h k

    -- ports
    in_answered : (port : ℕ) → instr_at p at ≡ Some (In port) → IsPlaced p at (In port) → is_start p (at + 2) ≡ true → IsAnswered p held fetch s u (AskedIn port)
    in_answered port has l starts = record {
      after = λ y choice fit bytes.
          let small = ltb-true y.answer 256 (and_parts _ _ fit).0 in
          let goes = here (In port) has ∙ after_ok s (at + 2) starts in
          subst (λ k. StatesStand p held (replied_to80 p s k (AskedIn port) y) (replied_untagged fetch u (AskedIn port) y choice)) (sym goes)
          (subst (λ k. StatesStand p held (record (with_a80 s (Num y.answer)) { place = At (at + 2) }) (replied_to u k (AskedIn port) y choice)) (sym (there (In port) has))
          (subst (λ k. StatesStand p held (record (with_a80 s (Num y.answer)) { place = At (at + 2) }) (record (with_a u y.answer) { place = At k })) (after_is p at (In port) l)
          (sets_place (with_a80 s (Num y.answer)) (with_a u y.answer) (At (at + 2)) (sets_a s u (Num y.answer) y.answer d (number y.answer small)))));
    }

    out_answered : (port byte : ℕ) → instr_at p at ≡ Some (Out port) → IsPlaced p at (Out port) → is_start p (at + 2) ≡ true → IsAnswered p held fetch s u (AskedOut port byte)
    out_answered port byte has l starts = record {
      after = λ y choice fit bytes.
          let goes = here (Out port) has ∙ after_ok s (at + 2) starts in
          subst (λ k. StatesStand p held (replied_to80 p s k (AskedOut port byte) y) (replied_untagged fetch u (AskedOut port byte) y choice)) (sym goes)
          (subst (λ k. StatesStand p held (record s { place = At (at + 2) }) (replied_to u k (AskedOut port byte) y choice)) (sym (there (Out port) has))
          (subst (λ k. StatesStand p held (record s { place = At (at + 2) }) (record u { place = At k })) (after_is p at (Out port) l)
          (sets_place s u (At (at + 2)) d)));
    }

    in_follows : (port : ℕ) → instr_at p at ≡ Some (In port) → IsPlaced p at (In port) → StepFollows p held fetch (ask_port p s (at + 2) (Ok (AskedIn port))) (Asks (AskedIn port) u)
    in_follows port has l = by_start (is_start p (at + 2)) refl
      where
        by_start : (b : Bool) → is_start p (at + 2) ≡ b → StepFollows p held fetch (cond b (Asks (AskedIn port) s) (Stops P1)) (Asks (AskedIn port) u)
        by_start true e = (refl, in_answered port has l e)
        by_start false e = tt

    out_follows : (port : ℕ) → instr_at p at ≡ Some (Out port) → IsPlaced p at (Out port) → StepFollows p held fetch (ask_port p s (at + 2) (sent s port)) (Asks (AskedOut port u.regs.a) u)
    out_follows port has l = by_start (is_start p (at + 2)) refl
      where
        by_sent : is_start p (at + 2) ≡ true → (o : Result Event Rule) → sent s port ≡ o → StepFollows p held fetch (ask_event s o) (Asks (AskedOut port u.regs.a) u)
        by_sent starts (Err r) e = tt
        by_sent starts (Ok f) e =
            let n = then_is (num_or P10 s.regs.a) _ f e in
            let is : AskedOut port u.regs.a ≡ f = ap (AskedOut port) (number_is P10 s.regs.a n.0 u.regs.a d.regs.a n.1) ∙ ok_is _ f n.2 in
            subst (λ k. StepFollows p held fetch (ask_event s (Ok k)) (Asks (AskedOut port u.regs.a) u)) is (refl, out_answered port u.regs.a has l starts)

        by_start : (b : Bool) → is_start p (at + 2) ≡ b → StepFollows p held fetch (cond b (ask_event s (sent s port)) (Stops P1)) (Asks (AskedOut port u.regs.a) u)
        by_start true e = by_sent e (sent s port) refl
        by_start false e = tt

    -- the table
    acts_follow : (i : Instr80) (choice : ℕ) → instr_at p at ≡ Some i → IsPlaced p at i → StepFollows p held fetch (act80 p s (at + length80 i) i) (act u (at + length80 i) i choice)
    acts_follow Pchl choice has l = pchl_follows s u d
    acts_follow (Jmp to) choice has l = jump_follows (Jmp to) to has refl refl
    acts_follow (Jif c to) choice has l = where_follows s u (at + 3) (holds80 s.flags c) (holds u.flags c) _ _ d (holds_knows s.flags u.flags c d.flags) (jump_follows (Jif c to) to has refl refl)
    acts_follow (Call to) choice has l = call_follows (Call to) to has l refl refl
    acts_follow (Cif c to) choice has l = where_follows s u (at + 3) (holds80 s.flags c) (holds u.flags c) _ _ d (holds_knows s.flags u.flags c d.flags) (call_follows (Cif c to) to has l refl refl)
    acts_follow Ret choice has l = ret_follows s u d
    acts_follow (Rif c) choice has l = where_follows s u (at + 1) (holds80 s.flags c) (holds u.flags c) _ _ d (holds_knows s.flags u.flags c d.flags) (ret_follows s u d)
    acts_follow Rst0 choice has l = tt
    acts_follow (In port) choice has l = in_follows port has l
    acts_follow (Out port) choice has l = out_follows port has l
    acts_follow i choice has l = on_follows s u at (at + length80 i) i choice d l

    acts_at : (o : Option Instr80) (choice : ℕ) → instr_at p at ≡ o → StepFollows p held fetch (act_at80 p s at o) (act_at u at (fetch u at) choice)
    acts_at None choice has = tt
    acts_at (Some i) choice has =
        let l = is_placed p at i g has in
        subst (λ y. StepFollows p held fetch (act80 p s (at + length80 i) i) y) (sym ((taken i has).acts choice))
        (subst (λ a. StepFollows p held fetch (act80 p s (at + length80 i) i) (act u a i choice)) (after_is p at i l) (acts_follow i choice has l))

  pub steps_follow : (same : WhoSeesMoreAsksTheSame) (s : State80) (u : UntaggedState) (choice : ℕ) → StatesStand p held s u → StepFollows p held fetch (step80 p s) (step_untagged fetch u choice)
  steps_follow same s u choice d =
      subst (λ k. StepFollows p held fetch (step80 p s) (step_at fetch u k choice)) (sym d.place) (by_place s.place refl)
    where
      by_place : (q : Place) → s.place ≡ q → StepFollows p held fetch (step_at80 p s q) (step_at fetch u q choice)
      by_place Exit e = tt
      by_place (At a) e = acts_at same s u d a e (instr_at p a) choice refl
