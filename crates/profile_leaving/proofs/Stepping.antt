-- The step at a listed place.
use Rattle.std.proofs.Common.{◌≡◌, ◌∙◌, ℕ, zero, suc, ◌+◌, Bool, true, false, cond, Option, Some, None, Result, Ok, Err, refl, sym, ap, subst, arith, ◌⊎◌, inl, inr}
use Rattle.std.specs.Prelude.{◌==◌, is_some, is_none}
use Rattle.std.proofs.lemmas.Bool.{true≢false, false≢true}
use Rattle.std.proofs.lemmas.Option.{same_Some}
use Rattle.cells.specs.declared.Place.TheVariants.{At}
use Rattle.cells.specs.declared.Cell.{Cell}
use Rattle.cells.specs.declared.Cell.TheVariants.{Num, Lo, Hi, Psw, Junk}
use Rattle.cells.specs.declared.Rule.{Rule}
use Rattle.cells.specs.declared.Rule.TheVariants.{P1, P6, P9}
use Rattle.cells.specs.Conditions.{holds}
use Rattle.i80.specs.declared.Goal.TheVariants.{At as Instr, Boot, Bdos}
use Rattle.i80.specs.declared.Instr80.{Instr80}
use Rattle.i80.specs.declared.Instr80.TheVariants.{Pchl, Jmp, Jif, Call, Cif, Ret, Rif, Rst0, In, Out}
use Rattle.i80.specs.Columns.{length80}
use Rattle.dialogue.specs.Table.{Row, row_of}
use Rattle.dialogue.specs.Run.{Answer, Ends, Stops}
use Rattle.asm80_types.specs.Program.{Program, instr_at, is_start}
use Rattle.cpu80_tagged.specs.State.{State80, num_of}
use Rattle.cpu80_tagged.specs.Effect.{effect, push}
use Rattle.cpu80_tagged.specs.Call.{Return, call_by, call_system, popped_return, return_after, ask_after}
use Rattle.cpu80_tagged.specs.Step.{go_on, enter, call, jump, where_holds, act, step80}
use Rattle.profile_leaving.specs.declared.departure.Certainty.{Certainty}
use Rattle.profile_leaving.specs.declared.departure.Certainty.TheVariants.{Sure, May}
use Rattle.profile_leaving.specs.declared.departure.Departure.{Departure}
use Rattle.profile_leaving.specs.Leaving.{is_unlisted, asking, returning, going_on, by_rule, or_else, leaving_by}
use Rattle.profile_leaving.specs.Left.{LetsPass}
use Rattle.sym_sound.proofs.Machine80.Blocks.{step_is}

abbrev is_sure : Option Certainty → Bool
is_sure (Some Sure) = true
is_sure o = false

-- a step that leaves the profile
abbrev pub Stopping : Answer State80 Rule → Type 0
Stopping a = (why : Rule) × (a ≡ Stops why)

abbrev pub StopsSurely : Rule → Answer State80 Rule → Type 0
StopsSurely P9 a = a ≡ Stops P9
StopsSurely rule a = Stopping a

abbrev pub StepsAway : Certainty → Rule → State80 → Instr80 → Answer State80 Rule → Type 0
StepsAway Sure rule s i a = StopsSurely rule a
StepsAway May rule s i a = Stopping a ⊎ LetsPass s (Some i)

-- where the function is known, C holds it
abbrev pub IsKnown : Option ℕ → State80 → Type 0
IsKnown function s = (n : ℕ) → function ≡ Some n → s.regs.c ≡ Num n

module _ (p : Program) (s : State80) where
  -- ---- P9

  unlisted : (function : Option ℕ) (back : Result Return Rule) → IsKnown function s → is_unlisted function ≡ true → call_system p s back ≡ Stops P9
  unlisted None back known e = absurd (false≢true e)
  unlisted (Some n) back known e = ap (λ c. call_by p s back (num_of c)) (known n refl) ∙ no_row (row_of n) e
    where
      no_row : (o : Option Row) → is_none o ≡ true → cond (is_some o) (cond (n == 0) Ends (ask_after p s n back)) (Stops P9) ≡ Stops P9
      no_row None h = refl
      no_row (Some row) h = absurd (false≢true h)

  on_condition : (a : ℕ) (o : Option Bool) (go : Answer State80 Rule) → go ≡ Stops P9 → Stopping (where_holds p s a o go) ⊎ (o ≡ Some false)
  on_condition a None go e = inl (P6, refl)
  on_condition a (Some true) go e = inl (P9, e)
  on_condition a (Some false) go e = inr refl

  asks : (a : ℕ) (function : Option ℕ) (i : Instr80) (c : Certainty) → IsKnown function s → is_unlisted function ≡ true → asking i ≡ Some c → StepsAway c P9 s i (act p s a i)
  asks a function (Call Bdos) Sure known e h = unlisted function (return_after p s a) known e
  asks a function (Jmp Bdos) Sure known e h = unlisted function (popped_return p s) known e
  asks a function (Cif k Bdos) May known e h = on_condition a (holds s.flags k) (call p s a Bdos) (unlisted function (return_after p s a) known e)
  asks a function (Jif k Bdos) May known e h = on_condition a (holds s.flags k) (jump p s Bdos) (unlisted function (popped_return p s) known e)
  asks a function (Call Bdos) May known e h = absurd (true≢false (ap is_sure h))
  asks a function (Jmp Bdos) May known e h = absurd (true≢false (ap is_sure h))
  asks a function (Cif k Bdos) Sure known e h = absurd (false≢true (ap is_sure h))
  asks a function (Jif k Bdos) Sure known e h = absurd (false≢true (ap is_sure h))
  asks a function i c known e h = absurd (false≢true (ap is_some h))

  -- ---- P1

  module _ (a : ℕ) (none : is_start p a ≡ false) where
    no_start : (go stop : Answer State80 Rule) → cond (is_start p a) go stop ≡ stop
    no_start go stop = ap (λ b. cond b go stop) none

    goes_on : (q : Result State80 Rule) → Stopping (go_on p a q)
    goes_on (Err r) = (r, refl)
    goes_on (Ok t) = (P1, no_start _ _)

    enters : (t : ℕ) (q : Result State80 Rule) → Stopping (enter p t a q)
    enters t (Err r) = (r, refl)
    enters t (Ok u) = (P1, no_start _ _)

    no_return : return_after p s a ≡ Err P1
    no_return = rw (none) refl

    -- a call of a function that is not 0
    returns : (n : ℕ) → Stopping (call_by p s (return_after p s a) (Some (suc n)))
    returns n = by_row (is_some (row_of (suc n)))
      where
        some : (suc n == 0) ≡ false
        some = grind arith

        by_row : (b : Bool) → Stopping (cond b (cond (suc n == 0) Ends (ask_after p s (suc n) (return_after p s a))) (Stops P9))
        by_row true = (P1, ap (λ z. cond z Ends (ask_after p s (suc n) (return_after p s a))) some ∙ ap (ask_after p s (suc n)) no_return)
        by_row false = (P9, refl)

    calls : (function : Option ℕ) (c : Certainty) → IsKnown function s → returning function ≡ Some c → StepsAway c P1 s (Call Bdos) (call_system p s (return_after p s a))
    calls None May known h = by_cell s.regs.c refl
      where
        by_number : (n : ℕ) → s.regs.c ≡ Num n → Stopping (call_by p s (return_after p s a) (Some n)) ⊎ (s.regs.c ≡ Num 0)
        by_number zero e = inr e
        by_number (suc n) e = inl (returns n)

        by_cell : (k : Cell) → s.regs.c ≡ k → Stopping (call_system p s (return_after p s a)) ⊎ (s.regs.c ≡ Num 0)
        by_cell (Num n) e = subst (λ q. Stopping (call_by p s (return_after p s a) (num_of q)) ⊎ (s.regs.c ≡ Num 0)) (sym e) (by_number n e)
        by_cell (Lo q) e = inl (P9, ap (λ k. call_by p s (return_after p s a) (num_of k)) e)
        by_cell (Hi q) e = inl (P9, ap (λ k. call_by p s (return_after p s a) (num_of k)) e)
        by_cell (Psw f) e = inl (P9, ap (λ k. call_by p s (return_after p s a) (num_of k)) e)
        by_cell Junk e = inl (P9, ap (λ k. call_by p s (return_after p s a) (num_of k)) e)
    calls None Sure known h = absurd (false≢true (ap is_sure h))
    calls (Some zero) c known h = absurd (false≢true (ap is_some h))
    calls (Some (suc n)) Sure known h = subst (λ q. Stopping (call_by p s (return_after p s a) (num_of q))) (sym (known (suc n) refl)) (returns n)
    calls (Some (suc n)) May known h = absurd (true≢false (ap is_sure h))

    passes : (function : Option ℕ) (i : Instr80) (c : Certainty) → IsKnown function s → going_on function i ≡ Some c → StepsAway c P1 s i (act p s a i)
    passes function (Jmp g) c known h = absurd (false≢true (ap is_some h))
    passes function (Jif k g) c known h = absurd (false≢true (ap is_some h))
    passes function (Call (Instr t)) Sure known h = enters t (push p s (Hi (At a)) (Lo (At a)))
    passes function (Call (Instr t)) May known h = absurd (true≢false (ap is_sure h))
    passes function (Call Boot) c known h = absurd (false≢true (ap is_some h))
    passes function (Call Bdos) c known h = calls function c known h
    passes function (Cif k g) c known h = absurd (false≢true (ap is_some h))
    passes function Pchl c known h = absurd (false≢true (ap is_some h))
    passes function Ret c known h = absurd (false≢true (ap is_some h))
    passes function (Rif k) c known h = absurd (false≢true (ap is_some h))
    passes function Rst0 c known h = absurd (false≢true (ap is_some h))
    passes function (In port) Sure known h = (P1, no_start _ _)
    passes function (In port) May known h = absurd (true≢false (ap is_sure h))
    passes function (Out port) Sure known h = (P1, no_start _ _)
    passes function (Out port) May known h = absurd (true≢false (ap is_sure h))
    passes function i Sure known h = goes_on (effect p s i)
    passes function i May known h = absurd (true≢false (ap is_sure h))

-- ---- both

pub listed_at : (p : Program) (at : ℕ) (function : Option ℕ) (i : Instr80) (x : Departure) → leaving_by p at function i ≡ Some x → at ≡ x.at
listed_at p at function i x e = by_rules (cond (is_unlisted function) (asking i) None) (cond (is_start p (at + length80 i)) None (going_on function i)) e
  where
    by_rules : (o q : Option Certainty) → or_else (by_rule at P9 o) (by_rule at P1 q) ≡ Some x → at ≡ x.at
    by_rules (Some c) q h = ap (λ (d : Departure). d.at) (same_Some _ x h)
    by_rules None (Some c) h = ap (λ (d : Departure). d.at) (same_Some _ x h)
    by_rules None None h = absurd (false≢true (ap is_some h))

pub leaves_there : (p : Program) (s : State80) (at : ℕ) (function : Option ℕ) (i : Instr80) (x : Departure) → s.place ≡ At at → instr_at p at ≡ Some i → IsKnown function s → leaving_by p at function i ≡ Some x → StepsAway x.certainty x.rule s i (step80 p s)
leaves_there p s at function i x place here known e = by_unlisted (is_unlisted function) refl e
  where
    as_away : (rule : Rule) (c : Certainty) → Some (record { at = at; rule = rule; certainty = c }) ≡ Some x → StepsAway c rule s i (act p s (at + length80 i) i) → StepsAway x.certainty x.rule s i (step80 p s)
    as_away rule c same h =
        let is : record { at = at; rule = rule; certainty = c } ≡ x = same_Some _ x same in
        subst (λ y. StepsAway y.certainty y.rule s i (step80 p s)) is (subst (λ a. StepsAway c rule s i a) (sym (step_is p s at i place here)) h)

    by_place : (b : Bool) → is_start p (at + length80 i) ≡ b → by_rule at P1 (cond b None (going_on function i)) ≡ Some x → StepsAway x.certainty x.rule s i (step80 p s)
    by_place true h same = absurd (false≢true (ap is_some same))
    by_place false h same = by_certainty (going_on function i) refl same
      where
        by_certainty : (o : Option Certainty) → going_on function i ≡ o → by_rule at P1 o ≡ Some x → StepsAway x.certainty x.rule s i (step80 p s)
        by_certainty None g same = absurd (false≢true (ap is_some same))
        by_certainty (Some c) g same = as_away P1 c same (passes p s (at + length80 i) h function i c known g)

    by_asking : (o : Option Certainty) → asking i ≡ o → is_unlisted function ≡ true → or_else (by_rule at P9 o) (by_rule at P1 (cond (is_start p (at + length80 i)) None (going_on function i))) ≡ Some x → StepsAway x.certainty x.rule s i (step80 p s)
    by_asking None g u same = by_place (is_start p (at + length80 i)) refl same
    by_asking (Some c) g u same = as_away P9 c same (asks p s (at + length80 i) function i c known u g)

    by_unlisted : (b : Bool) → is_unlisted function ≡ b → or_else (by_rule at P9 (cond b (asking i) None)) (by_rule at P1 (cond (is_start p (at + length80 i)) None (going_on function i))) ≡ Some x → StepsAway x.certainty x.rule s i (step80 p s)
    by_unlisted true u same = by_asking (asking i) refl u same
    by_unlisted false u same = by_place (is_start p (at + length80 i)) refl same
