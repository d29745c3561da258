-- What the last instruction of a block answers.
use Rattle.std.proofs.Common.{◌≡◌, ℕ, ◌+◌, Bool, true, false, cond, List, Option, Some, None, Result, Ok, Err, refl, sym, ap, subst, ◌∙◌, ◌⊎◌, inl, inr}
use Rattle.std.specs.Prelude.{◌&&◌}
use Rattle.std.proofs.lemmas.Bool.{and_parts}
use Rattle.cells.specs.declared.Place.{Place}
use Rattle.cells.specs.declared.Place.TheVariants.{At}
use Rattle.cells.specs.declared.Flags.{Flags}
use Rattle.cells.specs.declared.Cell.{Cell}
use Rattle.cells.specs.declared.Cell.TheVariants.{Num, Lo, Hi, Psw, Junk}
use Rattle.cells.specs.declared.Cond.{Cond}
use Rattle.cells.specs.declared.Cond.TheVariants.{Nz, Z, Nc, C, Po, Pe, P, M}
use Rattle.cells.specs.declared.Rule.{Rule}
use Rattle.cells.specs.declared.Rule.TheVariants.{P1, P6, P10}
use Rattle.i80.specs.declared.Reg.TheVariants.{H, L}
use Rattle.i80.specs.declared.Goal.{Goal}
use Rattle.i80.specs.declared.Goal.TheVariants.{At as ToInstr, Boot as ToBoot, Bdos as ToBdos}
use Rattle.dialogue.specs.declared.request.Event.{Event}
use Rattle.dialogue.specs.declared.request.Event.TheVariants.{In as AskedIn}
use Rattle.dialogue.specs.Run.{Answer, Ran, Asks, Stops}
use Rattle.dialogue.specs.Words.{wrap}
use Rattle.asm80_types.specs.Program.{Program, is_start}
use Rattle.asm80_types.specs.Taken.{takes}
use Rattle.cpu80_tagged.specs.State.{State80, num_or}
use Rattle.cpu80_tagged.specs.Memory.{read_word}
use Rattle.cpu80_tagged.specs.Effect.{push}
use Rattle.cells.specs.Conditions.{is_clear, holds}
use Rattle.cells.specs.Places.{same_place}
use Rattle.cells.proofs.SamePlace.{same_place_is}
use Rattle.cpu80_tagged.specs.Call.{Return, is_place, place_in, popped_return, return_after}
use Rattle.cpu80_tagged.specs.Step.{go_to, leave_to, go_by, go_back, jump as jump80, enter, call as call80, where_holds as where_holds80, ask_event, ask_port, sent, return_at}
use Rattle.cpu80_tagged.proofs.Passing.{place_if_is}
use Rattle.sym_terms.specs.Term.{High, Low, Loaded16, same_bool}
use Rattle.sym_terms.specs.Values80.{Env80, Load80, Byte, OneBit, Val80}
use Rattle.sym_block_def.specs.Outcome.{Way, Goto, ByTerms, Call, Leave, In, Out, Exit, One, Held}
use Rattle.sym_block_def.specs.Block80.{Symbolic80, goto, jump, call, return_by, asking, flag_term, wanted, where_holds}
use Rattle.simulation_def.specs.States.{IsCell}
use Rattle.simulation_def.specs.Runs80.{env80, FlagsHold80, Takes80, Answers80}
use Rattle.sym_sound.proofs.Machine80.Denoting.{Denotes, word_loaded}
use Rattle.dialogue.proofs.Tried.{ok_is, err_is_not, then_is}
use Rattle.sym_sound.proofs.Machine80.Answering.{number_is, read_word_is}

-- the place after a call of an instruction is taken
abbrev pub ReturnIsTaken : Program → ℕ → Goal → Type 0
ReturnIsTaken p a (ToInstr t) = takes p a ≡ true
ReturnIsTaken p a ToBoot = Unit {0}
ReturnIsTaken p a ToBdos = Unit {0}

-- an answer leaves the profile, or is what a way says
abbrev pub Answered : Program → Env80 → State80 → Way → Answer State80 Rule → Type 0
Answered p e t way a = ((r : Rule) × (a ≡ Stops r)) ⊎ Answers80 p e t way a

-- the cells of a place
pub record NamesPlace (p : Program) (high low : Cell) (q : Place) : Type 0 where
  pub high_is : high ≡ Hi q
  pub low_is : low ≡ Lo q
  pub is_place : is_place p q ≡ true

pub place_is : (p : Program) (high low : Cell) (q : Place) → place_in p high low ≡ Ok q → NamesPlace p high low q
place_is p (Hi r) (Lo o) q e =
    let f = place_if_is (same_place r o && is_place p r) r q e in
    let g = and_parts (same_place r o) (is_place p r) f.0 in
    record {
      high_is = ap Hi f.1;
      low_is = ap Lo (sym (same_place_is r o g.0) ∙ f.1);
      is_place = subst (λ x. is_place p x ≡ true) f.1 g.1;
    }
place_is p (Hi r) (Num n) q e = absurd (err_is_not P1 q e)
place_is p (Hi r) (Hi o) q e = absurd (err_is_not P1 q e)
place_is p (Hi r) (Psw f) q e = absurd (err_is_not P1 q e)
place_is p (Hi r) Junk q e = absurd (err_is_not P1 q e)
place_is p (Num n) low q e = absurd (err_is_not P1 q e)
place_is p (Lo o) low q e = absurd (err_is_not P1 q e)
place_is p (Psw f) low q e = absurd (err_is_not P1 q e)
place_is p Junk low q e = absurd (err_is_not P1 q e)

module _ (p : Program) (s0 : State80) (loads : List Load80) (x : Symbolic80) (s : State80) (d : Denotes p s0 loads x s) where
  pub goto_answered : (e : Env80) (t : State80) (a : ℕ) → Answered p e t (goto p a) (go_to p t a)
  goto_answered e t a = by_start (is_start p a) refl
    where
      by_start : (b : Bool) → is_start p a ≡ b → Answered p e t (cond b (Goto (At a)) Leave) (cond b (Ran (record t { place = At a })) (Stops P1))
      by_start true h = inr (h, refl)
      by_start false h = inl (P1, refl)

  pub pair_answered : Answered p (env80 s0 loads) s (ByTerms x.held.h x.held.l) (go_by s s.sp (place_in p s.regs.h s.regs.l))
  pair_answered = by_place (place_in p s.regs.h s.regs.l) refl
    where
      by_place : (r : Result Place Rule) → place_in p s.regs.h s.regs.l ≡ r → Answered p (env80 s0 loads) s (ByTerms x.held.h x.held.l) (go_by s s.sp r)
      by_place (Err r) h = inl (r, refl)
      by_place (Ok q) h =
          let n = place_is p s.regs.h s.regs.l q h in
          inr (inl (record {
            place = q;
            is_held = subst (λ (c : Cell). IsCell p c) n.high_is (d.is_state.regs H);
            high = subst (λ (c : Cell). Val80 (env80 s0 loads) x.held.h (Byte c)) n.high_is (d.holds.in_regs H);
            low = subst (λ (c : Cell). Val80 (env80 s0 loads) x.held.l (Byte c)) n.low_is (d.holds.in_regs L);
            is_place = n.is_place;
            answers = refl;
          }))

  -- the return that is popped
  pub return_answered : Answered p (env80 s0 loads) s (return_by x) (go_back s (popped_return p s))
  return_answered = by_return (popped_return p s) refl
    where
      by_return : (r : Result Return Rule) → popped_return p s ≡ r → Answered p (env80 s0 loads) s (return_by x) (go_back s r)
      by_return (Err r) h = inl (r, refl)
      by_return (Ok back) h =
          let a = then_is (read_word p s s.sp) _ back h in
          let w = a.0 in
          let b = then_is (place_in p w.high w.low) _ back a.2 in
          let n = place_is p w.high w.low b.0 b.1 in
          let is : record { place = b.0; sp = wrap (s.sp + 2); is_popped = true } ≡ back = ok_is _ back b.2 in
          let halves : w ≡ record { high = Hi b.0; low = Lo b.0 } = ap (λ c. record { high = c; low = w.low }) n.high_is ∙ ap (λ c. record { high = Hi b.0; low = c }) n.low_is in
          let read = read_word_is p s s.sp w d.is_state.sp a.1 in
          let loaded = word_loaded p s0 loads x s (Hi b.0) (Lo b.0) d in
          inr (inr (record {
            place = b.0;
            is_held = subst (λ (c : Cell). IsCell p c) (read.4 ∙ n.low_is) (d.is_state.mem s.sp read.1);
            loaded = a.1 ∙ ap Ok halves;
            is_high = ap (λ k. High (Loaded16 k)) (sym d.count);
            is_low = ap (λ k. Low (Loaded16 k)) (sym d.count);
            high = (Lo b.0, loaded);
            low = (Hi b.0, loaded);
            is_place = n.is_place;
            answers = ap (λ (k : Return). leave_to s k.sp k.place) (sym is);
          }))

  pub jump_answered : (t : Goal) → return_at p s s.place ≡ popped_return p s → Answered p (env80 s0 loads) s (jump p t) (jump80 p s t)
  jump_answered (ToInstr a) r = goto_answered (env80 s0 loads) s a
  jump_answered ToBoot r = inr refl
  jump_answered ToBdos r = inr (r, refl)

  -- a call
  pub call_answered : (a : ℕ) (t : Goal) → return_at p s s.place ≡ return_after p s a → ReturnIsTaken p a t → Answered p (env80 s0 loads) s (call p a t) (call80 p s a t)
  call_answered a ToBoot r held = inr refl
  call_answered a ToBdos r held = inr (r, refl)
  call_answered a (ToInstr t) r held = by_push (push p s (Hi (At a)) (Lo (At a))) refl
    where
      by_target : (u : State80) → push p s (Hi (At a)) (Lo (At a)) ≡ Ok u → is_start p a ≡ true → (c : Bool) → is_start p t ≡ c → Answered p (env80 s0 loads) s (Call (At t) (At a)) (cond c (Ran (record u { place = At t })) (Stops P1))
      by_target u h k true g = inr (u, g, (k, held), h, refl)
      by_target u h k false g = inl (P1, refl)

      by_start : (u : State80) → push p s (Hi (At a)) (Lo (At a)) ≡ Ok u → (b : Bool) → is_start p a ≡ b → Answered p (env80 s0 loads) s (cond b (Call (At t) (At a)) Leave) (cond b (go_to p u t) (Stops P1))
      by_start u h true k = by_target u h k (is_start p t) refl
      by_start u h false k = inl (P1, refl)

      by_push : (q : Result State80 Rule) → push p s (Hi (At a)) (Lo (At a)) ≡ q → Answered p (env80 s0 loads) s (cond (is_start p a) (Call (At t) (At a)) Leave) (enter p t a q)
      by_push (Err r) h = inl (r, refl)
      by_push (Ok u) h = by_start u h (is_start p a) refl

  -- a port that is asked
  pub in_answered : (a port : ℕ) → return_at p s s.place ≡ return_after p s a → Answered p (env80 s0 loads) s (asking p a (In port)) (ask_port p s a (Ok (AskedIn port)))
  in_answered a port r = by_start (is_start p a) refl
    where
      by_start : (b : Bool) → is_start p a ≡ b → Answered p (env80 s0 loads) s (cond b (In port (At a)) Leave) (cond b (Asks (AskedIn port) s) (Stops P1))
      by_start true h = inr (h, r, refl)
      by_start false h = inl (P1, refl)

  pub out_answered : (a port : ℕ) → return_at p s s.place ≡ return_after p s a → Answered p (env80 s0 loads) s (asking p a (Out port)) (ask_port p s a (sent s port))
  out_answered a port r = by_start (is_start p a) refl
    where
      by_sent : (q : Result Event Rule) → sent s port ≡ q → is_start p a ≡ true → Answered p (env80 s0 loads) s (Out port (At a)) (ask_event s q)
      by_sent (Err e) h k = inl (e, refl)
      by_sent (Ok e) h k =
          let n = then_is (num_or P10 s.regs.a) _ e h in
          inr (n.0, number_is P10 s.regs.a n.0 n.1, k, r, ap (λ v. Asks v s) (sym (ok_is _ e n.2)))

      by_start : (b : Bool) → is_start p a ≡ b → Answered p (env80 s0 loads) s (cond b (Out port (At a)) Leave) (cond b (ask_event s (sent s port)) (Stops P1))
      by_start true h = by_sent (sent s port) refl h
      by_start false h = inl (P1, refl)

-- conditions

-- the flag of a condition
abbrev flag_of : Flags → Cond → Option Bool
flag_of f Nz = f.z
flag_of f Z = f.z
flag_of f Nc = f.cy
flag_of f C = f.cy
flag_of f Po = f.p
flag_of f Pe = f.p
flag_of f P = f.s
flag_of f M = f.s

flag_value : (e : Env80) (x : Held) (f : Flags) (c : Cond) → FlagsHold80 e x f → Val80 e (flag_term x c) (OneBit (flag_of f c))
flag_value e x f Nz h = h.1
flag_value e x f Z h = h.1
flag_value e x f Nc h = h.4
flag_value e x f C h = h.4
flag_value e x f Po h = h.3
flag_value e x f Pe h = h.3
flag_value e x f P h = h.0
flag_value e x f M h = h.0

is_clear_is : (o : Option Bool) (k : Bool) → is_clear o ≡ Some k → (b : Bool) × (o ≡ Some b) × (same_bool b false ≡ k)
is_clear_is None k e = absurd (cc)
is_clear_is (Some true) k e = let same : Some false ≡ Some k = e in (true, refl, cc)
is_clear_is (Some false) k e = let same : Some true ≡ Some k = e in (false, refl, cc)

straight_is : (o : Option Bool) (k : Bool) → o ≡ Some k → (b : Bool) × (o ≡ Some b) × (same_bool b true ≡ k)
straight_is o true e = (true, e, refl)
straight_is o false e = (false, e, refl)

-- where a condition holds, or does not, its flag has this value
holds_is : (f : Flags) (c : Cond) (k : Bool) → holds f c ≡ Some k → (b : Bool) × (flag_of f c ≡ Some b) × (same_bool b (wanted c) ≡ k)
holds_is f Nz k e = is_clear_is f.z k e
holds_is f Z k e = straight_is f.z k e
holds_is f Nc k e = is_clear_is f.cy k e
holds_is f C k e = straight_is f.cy k e
holds_is f Po k e = is_clear_is f.p k e
holds_is f Pe k e = straight_is f.p k e
holds_is f P k e = is_clear_is f.s k e
holds_is f M k e = straight_is f.s k e

-- the way that an exit takes, and the answer by it
pub record AnswersBy (p : Program) (e : Env80) (t : State80) (exit : Exit) (a : Answer State80 Rule) : Type 0 where
  pub way : Way
  pub takes : Takes80 e exit way
  pub answers : Answers80 p e t way a

abbrev pub AnsweredBy : Program → Env80 → State80 → Exit → Answer State80 Rule → Type 0
AnsweredBy p e t exit a = ((r : Rule) × (a ≡ Stops r)) ⊎ AnswersBy p e t exit a

pub one_answered : (p : Program) (e : Env80) (t : State80) (way : Way) (a : Answer State80 Rule) → Answered p e t way a → AnsweredBy p e t (One way) a
one_answered p e t way a (inl r) = inl r
one_answered p e t way a (inr h) = inr (record { way = way; takes = refl; answers = h })

pub two_answered : (p : Program) (e : Env80) (x : Symbolic80) (t : State80) (c : Cond) (place : ℕ) (way : Way) (go : Answer State80 Rule) → FlagsHold80 e x.held t.flags → Answered p e t way go → Answered p e t (goto p place) (go_to p t place) → AnsweredBy p e t (where_holds x c way (goto p place)) (where_holds80 p t place (holds t.flags c) go)
two_answered p e x t c place way go f so otherwise = by_flag (holds t.flags c) refl
  where
    taken : (k : Bool) → holds t.flags c ≡ Some k → (w : Way) → w ≡ cond k way (goto p place) → Takes80 e (where_holds x c way (goto p place)) w
    taken k h w is =
        let b = holds_is t.flags c k h in
        (b.0, subst (λ o. Val80 e (flag_term x.held c) (OneBit o)) b.1 (flag_value e x.held t.flags c f), is ∙ ap (λ q. cond q way (goto p place)) (sym b.2))

    by_so : (a : Answer State80 Rule) → holds t.flags c ≡ Some true → Answered p e t way a → AnsweredBy p e t (where_holds x c way (goto p place)) a
    by_so a h (inl r) = inl r
    by_so a h (inr g) = inr (record { way = way; takes = taken true h way refl; answers = g })

    by_otherwise : (a : Answer State80 Rule) → holds t.flags c ≡ Some false → Answered p e t (goto p place) a → AnsweredBy p e t (where_holds x c way (goto p place)) a
    by_otherwise a h (inl r) = inl r
    by_otherwise a h (inr g) = inr (record { way = goto p place; takes = taken false h (goto p place) refl; answers = g })

    by_flag : (o : Option Bool) → holds t.flags c ≡ o → AnsweredBy p e t (where_holds x c way (goto p place)) (where_holds80 p t place o go)
    by_flag None h = inl (P6, refl)
    by_flag (Some true) h = by_so go h so
    by_flag (Some false) h = by_otherwise (go_to p t place) h otherwise
