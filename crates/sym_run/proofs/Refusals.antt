-- A walk that is refused is refused for what stands where it ends.
use Rattle.std.proofs.Common.{◌≡◌, ◌∙◌, ℕ, zero, suc, Bool, true, false, not, ◌||◌, cond, List, [], ◌∷◌, Option, Some, None, is_some, Result, Ok, Err, refl, sym, ap, subst}
use Rattle.i86.specs.declared.Jump.{Jump}
use Rattle.i86.specs.declared.Instr86.TheVariants.{MovSsAx, Jcc, JmpNear, JmpShort, JmpBx, CallNear, Ret, Int224, InAl, OutAl}
use Rattle.dialogue.specs.Tried.{try_then}
use Rattle.asm86_line_types.specs.declared.line.Label.{Label}
use Rattle.asm86_line_types.specs.declared.line.Label.TheVariants.{At, Skip, User, Sys, End}
use Rattle.asm86_line_types.specs.declared.line.Stmt86.{Stmt86}
use Rattle.asm86_line_types.specs.declared.line.Stmt86.TheVariants.{Mark, Run, MovOffset, Jmp, Jmps, Jcc as JccTo, Call as CallTo}
use Rattle.sym_block_def.specs.declared.reason.Reason.{Reason}
use Rattle.sym_block_def.specs.declared.reason.Reason.TheVariants.{Form}
use Rattle.sym_block_def.specs.Outcome.{Way, Two, Outcome}
use Rattle.sym_block_def.specs.Symbolic86.{Symbolic86, with_reg16, offset_term, effect86}
use Rattle.sym_block_def.specs.Walk86.{Surroundings, met, met_label, after_label, way_to, is_passed, walk_jump, go_behind, jump_to, way_from, call_way, flag_of_jump, jumps_at, outcome86, one_way, two_ways, is_call, comes_next, walk_through, walk_some, walk_behind}
use Rattle.sym_run.specs.Stop.{Stop, stop, pass, goes_to, if_no_way, or_stop, stop_from, way_stop, is_way_end, jumped_stop, two_ways_stop, walk_stop, stop_if_any, reason_at, reason_of_stop, reason_by}

-- ---- what a walk meets is what stands after the labels that it passes

abbrev Stands : Surroundings → List Stmt86 → Type 0
Stands w (Mark l ∷ xs) = is_passed w l ≡ false
Stands w xs = Unit {0}

module _ (w : Surroundings) where
  met_by : (b : Bool) (l : Label) (xs : List Stmt86) → is_passed w l ≡ b → met w xs ≡ met w (pass w xs) → met_label b l (met w xs) ≡ met w (cond b (pass w xs) (Mark l ∷ xs))
  met_by true l xs e h = h
  met_by false l xs e h = ap (λ b. met_label b l (met w xs)) (sym e)

  pub met_is : (xs : List Stmt86) → met w xs ≡ met w (pass w xs)
  met_is [] = refl
  met_is (Mark l ∷ xs) = met_by (is_passed w l) l xs refl (met_is xs)
  met_is (x ∷ xs) = refl

  stands_by : (b : Bool) (l : Label) (xs : List Stmt86) → is_passed w l ≡ b → Stands w (pass w xs) → Stands w (cond b (pass w xs) (Mark l ∷ xs))
  stands_by true l xs e h = h
  stands_by false l xs e h = e

  pub stands : (xs : List Stmt86) → Stands w (pass w xs)
  stands [] = tt
  stands (Mark l ∷ xs) = stands_by (is_passed w l) l xs refl (stands xs)
  stands (x ∷ xs) = tt

-- ---- the way after a conditional jump

-- a way that ends where it stops, or is refused for what stands there
abbrev WayStops : Result Way Reason → Stop → Type 0
WayStops (Ok way) s = is_way_end s.room s.at ≡ true
WayStops (Err r) s = (is_way_end s.room s.at ≡ false) × (r ≡ reason_of_stop s)

module _ (w : Surroundings) (s : Symbolic86) where
  abbrev way_at : ℕ → List Stmt86 → Result Way Reason
  way_at room xs = way_from w s room (met w xs)

  abbrev IsWay : ℕ → List Stmt86 → Type 0
  IsWay room xs = WayStops (way_at room xs) (stop_from true w room xs)

  at_label : (room : ℕ) (l : Label) (xs : List Stmt86) → is_passed w l ≡ false → IsWay room (Mark l ∷ xs)
  at_label zero (At a) xs e = rw e refl
  at_label zero (Skip a) xs e = absurd (cc)
  at_label zero (User a) xs e = absurd (cc)
  at_label zero Sys xs e = refl
  at_label zero End xs e = refl
  at_label (suc room) (At a) xs e = rw e refl
  at_label (suc room) (Skip a) xs e = absurd (cc)
  at_label (suc room) (User a) xs e = absurd (cc)
  at_label (suc room) Sys xs e = refl
  at_label (suc room) End xs e = refl

  -- a jump: to a place, on in the text, or to a label that there is not
  by_jump : (x : Stmt86) (rest : List Stmt86) (room : ℕ) (found : Option Way) (on : Option (List Stmt86)) → is_way_end (suc room) (x ∷ rest) ≡ is_some found → reason_at (suc room) (x ∷ rest) ≡ Form → ((xs : List Stmt86) → IsWay room (pass w xs)) → WayStops (walk_jump Ok (go_behind (λ xs. way_at room xs) on) found) (or_stop (if_no_way found on) (λ xs. stop_from true w room (pass w xs)) (stop (suc room) (x ∷ rest)))
  by_jump x rest room (Some way) on e f h = e
  by_jump x rest room None None e f h = (e, sym f)
  by_jump x rest room None (Some xs) e f h = subst (λ m. WayStops (way_from w s room m) (stop_from true w room (pass w xs))) (sym (met_is w xs)) (h xs)

  by_call : (room : ℕ) (l : Label) (rest : List Stmt86) → IsWay (suc room) (CallTo l ∷ rest)
  by_call room (At a) rest = refl
  by_call room Sys rest = refl
  by_call room End rest = (refl, refl)
  by_call room (Skip a) rest = (refl, refl)
  by_call room (User a) rest = (refl, refl)

  pub is_way : (room : ℕ) (xs : List Stmt86) → Stands w xs → IsWay room xs
  is_way room [] h = (refl, refl)
  is_way room (Mark l ∷ xs) h = at_label room l xs h
  is_way zero (Run i ∷ xs) h = (refl, refl)
  is_way zero (MovOffset r l ∷ xs) h = (refl, refl)
  is_way zero (Jmp l ∷ xs) h = (refl, refl)
  is_way zero (Jmps l ∷ xs) h = (refl, refl)
  is_way zero (JccTo j l ∷ xs) h = (refl, refl)
  is_way zero (CallTo l ∷ xs) h = (refl, refl)
  is_way (suc room) (Run Ret ∷ xs) h = refl
  is_way (suc room) (Run JmpBx ∷ xs) h = refl
  is_way (suc room) (Run i ∷ xs) h = (refl, refl)
  is_way (suc room) (MovOffset r l ∷ xs) h = (refl, refl)
  is_way (suc room) (Jmp l ∷ xs) h = by_jump (Jmp l) xs room (way_to l) (after_label w.text l) refl refl (λ ys. is_way room (pass w ys) (stands w ys))
  is_way (suc room) (Jmps l ∷ xs) h = by_jump (Jmps l) xs room (way_to l) (after_label w.text l) refl refl (λ ys. is_way room (pass w ys) (stands w ys))
  is_way (suc room) (JccTo j l ∷ xs) h = (refl, refl)
  is_way (suc room) (CallTo l ∷ xs) h = by_call room l xs
  is_way zero (x ∷ xs) h = (refl, refl)
  is_way (suc room) (x ∷ xs) h = (refl, refl)

-- ---- the walk

-- what is refused is refused for what stands at the stop
abbrev Refused : {A : Type 0} → Result A Reason → Stop → Type 0
Refused (Ok x) s = Unit {0}
Refused (Err r) s = r ≡ reason_of_stop s

refused_way : (way : Result Way Reason) (s : Stop) → WayStops way s → Refused way s
refused_way (Ok way) s h = tt
refused_way (Err r) s h = h.1

by_test : (b : Bool) (x : Outcome) (s : Stop) → reason_of_stop s ≡ Form → Refused (cond b (Ok x) (Err Form)) s
by_test true x s e = tt
by_test false x s e = sym e

module _ (w : Surroundings) where
  abbrev final : ℕ → List Stmt86 → Stop
  final room xs = let s = stop_from false w room xs in walk_stop w s.room s.at

  abbrev IsWalk : Symbolic86 → ℕ → List Stmt86 → Type 0
  IsWalk s room xs = Refused (walk_through w room (met w xs) s) (final room xs)

  goes_on : (s : Symbolic86) (room : ℕ) (xs : List Stmt86) → IsWalk s room (pass w xs) → Refused (walk_through w room (met w xs) s) (final room (pass w xs))
  goes_on s room xs h = subst (λ m. Refused (walk_through w room m s) (final room (pass w xs))) (sym (met_is w xs)) h

  ends_at : (s : Symbolic86) (room : ℕ) (l : Label) (xs : List Stmt86) → is_passed w l ≡ false → IsWalk s room (Mark l ∷ xs)
  ends_at s room (At a) xs e = rw e tt
  ends_at s room (Skip a) xs e = absurd (cc)
  ends_at s room (User a) xs e = absurd (cc)
  ends_at s room Sys xs e = tt
  ends_at s room End xs e = tt

  walks_jump : (s : Symbolic86) (x : Stmt86) (rest : List Stmt86) (room : ℕ) (found : Option Way) (on : Option (List Stmt86)) → walk_stop w (suc room) (x ∷ rest) ≡ stop (suc room) (x ∷ rest) → reason_at (suc room) (x ∷ rest) ≡ Form → ((xs : List Stmt86) → IsWalk s room (pass w xs)) → Refused (walk_jump (one_way s) (go_behind (λ xs. walk_through w room (met w xs) s) on) found) (let t = or_stop (if_no_way found on) (λ xs. stop_from false w room (pass w xs)) (stop (suc room) (x ∷ rest)) in walk_stop w t.room t.at)
  walks_jump s x rest room (Some way) on e f h = tt
  walks_jump s x rest room None None e f h = sym (ap reason_of_stop e ∙ f)
  walks_jump s x rest room None (Some xs) e f h = goes_on s room xs (h xs)

  -- the two ways after a conditional jump
  second : (s : Symbolic86) (room : ℕ) (found : Option Way) (on : Option (List Stmt86)) (here : Stop) → reason_of_stop here ≡ Form → Refused (walk_jump Ok (go_behind (λ xs. way_from w s room (met w xs)) on) found) (jumped_stop w room (if_no_way found on) here)
  second s room (Some way) on here e = tt
  second s room None None here e = sym e
  second s room None (Some xs) here e =
      subst (λ m. Refused (way_from w s room m) (way_stop w room xs)) (sym (met_is w xs))
      (refused_way (way_from w s room (met w (pass w xs))) (way_stop w room xs) (is_way w s room (pass w xs) (stands w xs)))

  either : (straight jumped : Result Way Reason) (f : Way → Way → Outcome) (s t : Stop) → WayStops straight s → Refused jumped t → Refused (try_then straight (λ a. try_then jumped (λ b. Ok (f a b)))) (cond (is_way_end s.room s.at) t s)
  either (Err r) jumped f s t h k = subst (λ b. r ≡ reason_of_stop (cond b t s)) (sym h.0) h.1
  either (Ok a) (Err r) f s t h k = subst (λ b. r ≡ reason_of_stop (cond b t s)) (sym h) k
  either (Ok a) (Ok b) f s t h k = tt

  walks_two : (s : Symbolic86) (room : ℕ) (rest : List Stmt86) (j : Jump) (l : Label) (here : Stop) → reason_of_stop here ≡ Form → Refused (two_ways w room rest s j l) (two_ways_stop w room l (way_stop w room rest) here)
  walks_two s room rest j l here e =
      either (way_from w s room (met w rest)) (jump_to w Ok (λ xs. way_from w s room (met w xs)) l) (λ straight jumped. outcome86 s false (Two (flag_of_jump s.held j) (jumps_at j) jumped straight)) (way_stop w room rest) (jumped_stop w room (goes_to w l) here)
      (subst (λ m. WayStops (way_from w s room m) (way_stop w room rest)) (sym (met_is w rest)) (is_way w s room (pass w rest) (stands w rest)))
      (second s room (way_to l) (after_label w.text l) here e)

  walks_call : (s : Symbolic86) (l : Label) (rest : List Stmt86) (here : Stop) → reason_of_stop here ≡ Form → Refused (try_then (call_way w rest l) (one_way s)) here
  walks_call s (At a) rest here e = tt
  walks_call s Sys rest here e = tt
  walks_call s End rest here e = sym e
  walks_call s (Skip a) rest here e = sym e
  walks_call s (User a) rest here e = sym e

  is_walk : (room : ℕ) (xs : List Stmt86) (s : Symbolic86) → Stands w xs → IsWalk s room xs
  is_walk room [] s h = refl
  is_walk room (Mark l ∷ xs) s h = ends_at s room l xs h
  is_walk zero (x ∷ xs) s h = refl
  is_walk (suc room) (Run Ret ∷ xs) s h = tt
  is_walk (suc room) (Run JmpBx ∷ xs) s h = tt
  is_walk (suc room) (Run Int224 ∷ xs) s h = by_test (is_call s.held.c) _ _ refl
  is_walk (suc room) (Run (InAl port) ∷ xs) s h = by_test (comes_next w xs || not w.goes_on) _ _ refl
  is_walk (suc room) (Run (OutAl port) ∷ xs) s h = by_test (comes_next w xs || not w.goes_on) _ _ refl
  is_walk (suc room) (Run MovSsAx ∷ xs) s h = refl
  is_walk (suc room) (Run (Jcc j d) ∷ xs) s h = refl
  is_walk (suc room) (Run (JmpNear d) ∷ xs) s h = refl
  is_walk (suc room) (Run (JmpShort d) ∷ xs) s h = refl
  is_walk (suc room) (Run (CallNear d) ∷ xs) s h = refl
  is_walk (suc room) (Run i ∷ xs) s h = goes_on (effect86 s i) room xs (is_walk room (pass w xs) (effect86 s i) (stands w xs))
  is_walk (suc room) (MovOffset r l ∷ xs) s h = goes_on (with_reg16 s r (offset_term l)) room xs (is_walk room (pass w xs) (with_reg16 s r (offset_term l)) (stands w xs))
  is_walk (suc room) (Jmp l ∷ xs) s h = walks_jump s (Jmp l) xs room (way_to l) (after_label w.text l) refl refl (λ ys. is_walk room (pass w ys) s (stands w ys))
  is_walk (suc room) (Jmps l ∷ xs) s h = walks_jump s (Jmps l) xs room (way_to l) (after_label w.text l) refl refl (λ ys. is_walk room (pass w ys) s (stands w ys))
  is_walk (suc room) (JccTo j l ∷ xs) s h = walks_two s room xs j l (stop (suc room) (JccTo j l ∷ xs)) refl
  is_walk (suc room) (CallTo l ∷ xs) s h = walks_call s l xs (stop (suc room) (CallTo l ∷ xs)) refl
  is_walk (suc room) (x ∷ xs) s h = refl

  -- from a block's label on, where a label that ends the walk at once is too short
  some_by : (room : ℕ) (ys : List Stmt86) (s : Symbolic86) → Stands w ys → Refused (walk_some w room (met w ys) s) (final room ys)
  some_by room (Mark l ∷ ys) s h = too_short room l ys s h
    where
      too_short : (room : ℕ) (l : Label) (ys : List Stmt86) (s : Symbolic86) → is_passed w l ≡ false → Refused (walk_some w room (met w (Mark l ∷ ys)) s) (final room (Mark l ∷ ys))
      too_short zero l ys s e = rw e refl
      too_short (suc room) l ys s e = rw e refl
  some_by room [] s h = is_walk room [] s h
  some_by room (x ∷ ys) s h = is_walk room (x ∷ ys) s h

  pub from_label : (room : ℕ) (found : Option (List Stmt86)) (s : Symbolic86) (r : Reason) → walk_behind w room s found ≡ Err r → r ≡ reason_by (stop_if_any w room found)
  from_label room None s r e = cc
  from_label room (Some xs) s r e = why (walk_some w room (met w xs) s) e (subst (λ m. Refused (walk_some w room m s) (final room (pass w xs))) (sym (met_is w xs)) (some_by room (pass w xs) s (stands w xs)))
    where
      why : (walked : Result Outcome Reason) → walked ≡ Err r → Refused walked (final room (pass w xs)) → r ≡ reason_of_stop (final room (pass w xs))
      why (Ok x) e h = absurd (cc)
      why (Err q) e h = let same : q ≡ r = cc in sym same ∙ h
