-- What a walk gives is made and of its sort.
use Rattle.std.proofs.Common.{ℕ, zero, suc, ◌*◌, Bool, true, false, cond, not, ◌||◌, List, [], ◌∷◌, Option, Some, None, Result, Ok, Err, IfOk, refl}
use Rattle.cells.specs.declared.Place.{Place}
use Rattle.cells.specs.declared.Place.TheVariants.{At as AtPlace}
use Rattle.i86.specs.declared.Jump.{Jump}
use Rattle.i86.specs.declared.Jump.TheVariants.{Jb, Jnb, Jz, Jnz, Js, Jns, Jp, Jnp}
use Rattle.i86.specs.declared.Instr86.{Instr86}
use Rattle.i86.specs.declared.Instr86.TheVariants.{MovSsAx, Jcc, JmpNear, JmpShort, JmpBx, CallNear, Ret, Int224, InAl, OutAl}
use Rattle.dialogue.specs.Tried.{try_then}
use Rattle.asm86_line_types.specs.declared.line.Label.{Label}
use Rattle.asm86_line_types.specs.declared.line.Label.TheVariants.{At, Skip, User, Sys, End}
use Rattle.asm86_line_types.specs.declared.line.Stmt86.{Stmt86}
use Rattle.asm86_line_types.specs.declared.line.Stmt86.TheVariants.{Cseg, Dseg, Org, Rb, Db, Dw, Mark, Run, MovOffset, Jmp, Jmps, Jcc as JccTo, Call as CallTo, EndText}
use Rattle.asm86_line_types.specs.Layout.{marks}
use Rattle.sym_terms.specs.Term.{is_bit}
use Rattle.sym_terms.specs.Laws.{IsMadeAs, MadeTermsHaveSorts}
use Rattle.sym_block_def.specs.declared.reason.Reason.{Reason}
use Rattle.sym_block_def.specs.declared.reason.Reason.TheVariants.{Form}
use Rattle.sym_block_def.specs.Outcome.{Way, Goto, Sys as AskSystem, SysReturn, Boot, In, Out, Exit, One, Two, Held, Outcome}
use Rattle.sym_block_def.specs.Block80.{instrs_from}
use Rattle.sym_block_def.specs.Symbolic86.{Symbolic86, start86, with_reg16, next_word, offset_term, effect86}
use Rattle.sym_block_def.specs.Walk86.{Surroundings, after_label, way_to, is_passed, Met, EndsAt, Instruction, Nothing, met_label, met, back_from_system, comes_next, call_way, return_way, bx_way, go_behind, walk_jump, jump_to, way_by, way_from, flag_of_jump, jumps_at, outcome86, one_way, two_ways, is_call, direct_call, port_way, run_by, walk_by, walk_through, walk_some, walk_behind, surroundings}
use Rattle.sym_block_def.specs.Sorts.{HeldIsSorted, AreSorted86, WayIsSorted, ExitIsSorted, OutcomeIsSorted, IsCoded86, StatementIsCoded, StatementsAreCoded, StepsKeepSorts}
use Rattle.sym_block_def.proofs.Sorts80.{start_sorted, effect_sorted, block_sorted}
use Rattle.sym_block_def.proofs.Sorts86.{with_reg16_sorted, offset_sorted, effect86_sorted, start86_sorted}

-- what is met is coded where the statements are
abbrev IsCodedMet : Met → Type 0
IsCodedMet (EndsAt l) = Unit {0}
IsCodedMet (Instruction x rest) = StatementIsCoded x × StatementsAreCoded rest
IsCodedMet Nothing = Unit {0}

met_coded : (w : Surroundings) (xs : List Stmt86) → StatementsAreCoded xs → IsCodedMet (met w xs)
met_coded w [] k = tt
met_coded w (Mark l ∷ xs) k = by_test (met_coded w xs k.1) (is_passed w l)
  where
    by_test : IsCodedMet (met w xs) → (x : Bool) → IsCodedMet (met_label x l (met w xs))
    by_test later true = later
    by_test later false = tt
met_coded w (Run i ∷ xs) k = k
met_coded w (MovOffset r l ∷ xs) k = k
met_coded w (Jmp l ∷ xs) k = k
met_coded w (Jmps l ∷ xs) k = k
met_coded w (JccTo j l ∷ xs) k = k
met_coded w (CallTo l ∷ xs) k = k
met_coded w (Cseg ∷ xs) k = tt
met_coded w (Dseg ∷ xs) k = tt
met_coded w (Org a ∷ xs) k = tt
met_coded w (Rb n ∷ xs) k = tt
met_coded w (Db n ∷ xs) k = tt
met_coded w (Dw v ∷ xs) k = tt
met_coded w (EndText ∷ xs) k = tt

abbrev IfCoded : Option (List Stmt86) → Type 0
IfCoded None = Unit {0}
IfCoded (Some xs) = StatementsAreCoded xs

behind_coded : (xs : List Stmt86) (l : Label) → StatementsAreCoded xs → IfCoded (after_label xs l)
behind_coded [] l k = tt
behind_coded (x ∷ xs) l k = by_test (behind_coded xs l k.1) (marks l x)
  where
    by_test : IfCoded (after_label xs l) → (b : Bool) → IfCoded (cond b (Some xs) (after_label xs l))
    by_test later true = k.1
    by_test later false = later

-- a jump, where both what ends the way and what goes on do

behind_kept : {A : Type 0} (Q : A → Type 0) (on : List Stmt86 → Result A Reason) (o : Option (List Stmt86)) → ((xs : List Stmt86) → StatementsAreCoded xs → IfOk (on xs) Q) → IfCoded o → IfOk (go_behind on o) Q
behind_kept Q on None h k = tt
behind_kept Q on (Some xs) h k = h xs k

jump_kept : {A : Type 0} (Q : A → Type 0) (ends : Way → Result A Reason) (on : Result A Reason) (l : Label) → ((way : Way) → WayIsSorted way → IfOk (ends way) Q) → IfOk on Q → IfOk (walk_jump ends on (way_to l)) Q
jump_kept Q ends on (At a) h k = h (Goto (AtPlace a)) tt
jump_kept Q ends on (Skip a) h k = k
jump_kept Q ends on (User a) h k = k
jump_kept Q ends on Sys h k = h SysReturn tt
jump_kept Q ends on End h k = h Boot tt

jump_to_kept : {A : Type 0} (Q : A → Type 0) (w : Surroundings) (ends : Way → Result A Reason) (on : List Stmt86 → Result A Reason) (l : Label) → StatementsAreCoded w.text → ((way : Way) → WayIsSorted way → IfOk (ends way) Q) → ((xs : List Stmt86) → StatementsAreCoded xs → IfOk (on xs) Q) → IfOk (jump_to w ends on l) Q
jump_to_kept Q w ends on l k h next = jump_kept Q ends (go_behind on (after_label w.text l)) l h (behind_kept Q on (after_label w.text l) next (behind_coded w.text l k))

then_kept : {A B : Type 0} (P : A → Type 0) (Q : B → Type 0) (r : Result A Reason) (f : A → Result B Reason) → IfOk r P → ((x : A) → P x → IfOk (f x) Q) → IfOk (try_then r f) Q
then_kept P Q (Ok x) f h next = next x h
then_kept P Q (Err e) f h next = tt

call_kept : (w : Surroundings) (rest : List Stmt86) (l : Label) → IfOk (call_way w rest l) WayIsSorted
call_kept w rest (At t) = tt
call_kept w rest Sys = tt
call_kept w rest End = tt
call_kept w rest (Skip a) = tt
call_kept w rest (User a) = tt

module _ (m : MadeTermsHaveSorts) (w : Surroundings) (k : StatementsAreCoded w.text) where
  return_kept : (s : Symbolic86) → WayIsSorted (return_way s)
  return_kept s = (m.high (next_word s) (tt, refl), m.low (next_word s) (tt, refl))

  -- a way behind a conditional jump

  by_kept : (s : Symbolic86) (on : List Stmt86 → Result Way Reason) (rest : List Stmt86) (x : Stmt86) → AreSorted86 s → ((xs : List Stmt86) → StatementsAreCoded xs → IfOk (on xs) WayIsSorted) → IfOk (way_by w s on rest x) WayIsSorted
  by_kept s on rest (Jmp l) h next = jump_to_kept WayIsSorted w Ok on l k (λ way q. q) next
  by_kept s on rest (Jmps l) h next = jump_to_kept WayIsSorted w Ok on l k (λ way q. q) next
  by_kept s on rest (CallTo l) h next = call_kept w rest l
  by_kept s on rest (Run Ret) h next = return_kept s
  by_kept s on rest (Run JmpBx) h next = (h.held.h, h.held.l)
  by_kept s on rest x h next = tt

  way_kept : (s : Symbolic86) (room : ℕ) (x : Met) → AreSorted86 s → IsCodedMet x → IfOk (way_from w s room x) WayIsSorted
  way_kept s room (EndsAt l) h c = jump_kept WayIsSorted Ok (Err Form) l (λ way q. q) tt
  way_kept s room Nothing h c = tt
  way_kept s zero (Instruction x rest) h c = tt
  way_kept s (suc room) (Instruction x rest) h c = by_kept s (λ xs. way_from w s room (met w xs)) rest x h (λ xs d. way_kept s room (met w xs) h (met_coded w xs d))

  flag_kept : (x : Held) (j : Jump) → HeldIsSorted x → IsMadeAs is_bit (flag_of_jump x j)
  flag_kept x Jb h = h.cy
  flag_kept x Jnb h = h.cy
  flag_kept x Jz h = h.z
  flag_kept x Jnz h = h.z
  flag_kept x Js h = h.s
  flag_kept x Jns h = h.s
  flag_kept x Jp h = h.p
  flag_kept x Jnp h = h.p

  outcome_kept : (s : Symbolic86) (direct : Bool) (exit : Exit) → AreSorted86 s → ExitIsSorted exit → OutcomeIsSorted (outcome86 s direct exit)
  outcome_kept s direct exit h e = record { actions = h.actions; held = h.held; sp = h.sp; exit = e }

  one_kept : (s : Symbolic86) (way : Way) → AreSorted86 s → WayIsSorted way → IfOk (one_way s way) OutcomeIsSorted
  one_kept s way h q = outcome_kept s false (One way) h q

  two_kept : (room : ℕ) (rest : List Stmt86) (s : Symbolic86) (j : Jump) (l : Label) → AreSorted86 s → StatementsAreCoded rest → IfOk (two_ways w room rest s j l) OutcomeIsSorted
  two_kept room rest s j l h c =
      then_kept WayIsSorted OutcomeIsSorted (way_from w s room (met w rest))
      (λ straight. try_then (jump_to w Ok (λ xs. way_from w s room (met w xs)) l) (λ jumped. Ok (outcome86 s false (Two (flag_of_jump s.held j) (jumps_at j) jumped straight))))
      (way_kept s room (met w rest) h (met_coded w rest c))
      (λ straight q.
      then_kept WayIsSorted OutcomeIsSorted (jump_to w Ok (λ xs. way_from w s room (met w xs)) l)
      (λ jumped. Ok (outcome86 s false (Two (flag_of_jump s.held j) (jumps_at j) jumped straight)))
      (jump_to_kept WayIsSorted w Ok (λ xs. way_from w s room (met w xs)) l k (λ way p. p) (λ xs d. way_kept s room (met w xs) h (met_coded w xs d)))
      (λ jumped p. outcome_kept s false (Two (flag_of_jump s.held j) (jumps_at j) jumped straight) h (flag_kept s.held j h.held, p, q)))

  direct_kept : (rest : List Stmt86) (s : Symbolic86) → AreSorted86 s → IfOk (direct_call w rest s) OutcomeIsSorted
  direct_kept rest s h = by_test (is_call s.held.c)
    where
      by_test : (x : Bool) → IfOk (cond x (Ok (outcome86 s true (One (AskSystem (back_from_system w rest))))) (Err Form)) OutcomeIsSorted
      by_test true = outcome_kept s true (One (AskSystem (back_from_system w rest))) h tt
      by_test false = tt

  port_kept : (rest : List Stmt86) (s : Symbolic86) (way : Place → Way) → AreSorted86 s → WayIsSorted (way (AtPlace w.after)) → IfOk (port_way w rest s way) OutcomeIsSorted
  port_kept rest s way h q = by_test (comes_next w rest || not w.goes_on)
    where
      by_test : (x : Bool) → IfOk (cond x (one_way s (way (AtPlace w.after))) (Err Form)) OutcomeIsSorted
      by_test true = one_kept s (way (AtPlace w.after)) h q
      by_test false = tt

  -- what goes on from terms that are made and statements that are coded
  abbrev GoesOn : (Symbolic86 → List Stmt86 → Result Outcome Reason) → Type 0
  GoesOn on = (t : Symbolic86) (xs : List Stmt86) → AreSorted86 t → StatementsAreCoded xs → IfOk (on t xs) OutcomeIsSorted

  run_kept : (on : Symbolic86 → List Stmt86 → Result Outcome Reason) (rest : List Stmt86) (s : Symbolic86) (i : Instr86) → GoesOn on → StatementsAreCoded rest → IsCoded86 i → AreSorted86 s → IfOk (run_by w on rest s i) OutcomeIsSorted
  run_kept on rest s Ret next c d h = one_kept s (return_way s) h (return_kept s)
  run_kept on rest s JmpBx next c d h = one_kept s (bx_way s) h (h.held.h, h.held.l)
  run_kept on rest s Int224 next c d h = direct_kept rest s h
  run_kept on rest s (InAl port) next c d h = port_kept rest s (In port) h tt
  run_kept on rest s (OutAl port) next c d h = port_kept rest s (Out port) h tt
  run_kept on rest s MovSsAx next c d h = tt
  run_kept on rest s (Jcc j x) next c d h = tt
  run_kept on rest s (JmpNear x) next c d h = tt
  run_kept on rest s (JmpShort x) next c d h = tt
  run_kept on rest s (CallNear x) next c d h = tt
  run_kept on rest s i next c d h = next (effect86 s i) rest (effect86_sorted m s i d h) c

  step_kept : (room : ℕ) (on : Symbolic86 → List Stmt86 → Result Outcome Reason) (rest : List Stmt86) (s : Symbolic86) (x : Stmt86) → GoesOn on → StatementsAreCoded rest → StatementIsCoded x → AreSorted86 s → IfOk (walk_by w room on rest s x) OutcomeIsSorted
  step_kept room on rest s (Run i) next c d h = run_kept on rest s i next c d h
  step_kept room on rest s (MovOffset r l) next c d h = next (with_reg16 s r (offset_term l)) rest (with_reg16_sorted m s r (offset_term l) h (offset_sorted m l)) c
  step_kept room on rest s (Jmp l) next c d h = jump_to_kept OutcomeIsSorted w (one_way s) (on s) l k (λ way q. one_kept s way h q) (λ xs e. next s xs h e)
  step_kept room on rest s (Jmps l) next c d h = jump_to_kept OutcomeIsSorted w (one_way s) (on s) l k (λ way q. one_kept s way h q) (λ xs e. next s xs h e)
  step_kept room on rest s (JccTo j l) next c d h = two_kept room rest s j l h c
  step_kept room on rest s (CallTo l) next c d h = then_kept WayIsSorted OutcomeIsSorted (call_way w rest l) (one_way s) (call_kept w rest l) (λ way q. one_kept s way h q)
  step_kept room on rest s x next c d h = tt

  walk_kept : (room : ℕ) (x : Met) (s : Symbolic86) → IsCodedMet x → AreSorted86 s → IfOk (walk_through w room x s) OutcomeIsSorted
  walk_kept room (EndsAt l) s c h = jump_kept OutcomeIsSorted (one_way s) (Err Form) l (λ way q. one_kept s way h q) tt
  walk_kept room Nothing s c h = tt
  walk_kept zero (Instruction x rest) s c h = tt
  walk_kept (suc room) (Instruction x rest) s c h =
      step_kept room (λ t xs. walk_through w room (met w xs) t) rest s x (λ t xs p d. walk_kept room (met w xs) t (met_coded w xs d) p) c.1 c.0 h

  some_kept : (room : ℕ) (x : Met) (s : Symbolic86) → IsCodedMet x → AreSorted86 s → IfOk (walk_some w room x s) OutcomeIsSorted
  some_kept room (EndsAt l) s c h = tt
  some_kept room (Instruction x rest) s c h = walk_kept room (Instruction x rest) s c h
  some_kept room Nothing s c h = tt

  behind_walked : (room : ℕ) (s : Symbolic86) (o : Option (List Stmt86)) → IfCoded o → AreSorted86 s → IfOk (walk_behind w room s o) OutcomeIsSorted
  behind_walked room s None c h = tt
  behind_walked room s (Some xs) c h = some_kept room (met w xs) s (met_coded w xs c) h

pub steps : MadeTermsHaveSorts → StepsKeepSorts
steps m = record {
  start80 = start_sorted m;
  start86 = start86_sorted m;
  effect80 = effect_sorted m;
  effect86 = effect86_sorted m;
  offset = λ s r l h. with_reg16_sorted m s r (offset_term l) h (offset_sorted m l);
  block80 = block_sorted m;
  walk86 = λ p text keep first count c.
      behind_walked m (surroundings p text first (instrs_from p first count)) c (10 * count) (start86 keep) (after_label text (At first)) (behind_coded text (At first) c) (start86_sorted m keep);
}
