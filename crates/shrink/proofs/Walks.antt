-- A walk that does not come to a part of a text is the same where that part is another.
use Rattle.std.proofs.Common.{◌≡◌, ℕ, zero, suc, ◌==◌, Bool, true, false, cond, not, ◌||◌, List, [], ◌∷◌, ◌++◌, Option, None, Some, refl, sym, ap, ◌∙◌, subst}
use Rattle.std.specs.Prelude.{Result, Ok, Err}
use Rattle.std.specs.List.{list_any}
use Rattle.cells.specs.declared.Place.{Place}
use Rattle.cells.specs.declared.Place.TheVariants.{At as AtPlace, Exit as EndPlace}
use Rattle.dialogue.specs.Tried.{try_then}
use Rattle.i86.specs.declared.Jump.{Jump}
use Rattle.i86.specs.declared.Instr86.{Instr86}
use Rattle.i86.specs.declared.Instr86.TheVariants.{MovSsAx, Jcc, JmpNear, JmpShort, JmpBx, CallNear, Ret, Int224, InAl, OutAl}
use Rattle.asm86_line_types.specs.declared.line.Label.{Label}
use Rattle.asm86_line_types.specs.declared.line.Label.TheVariants.{At, Skip, User, Sys, End}
use Rattle.asm86_line_types.specs.declared.line.Stmt86.{Stmt86}
use Rattle.asm86_line_types.specs.declared.line.Stmt86.TheVariants.{Mark, Run, MovOffset, Jmp, Jmps, Jcc as JccTo, Call as CallTo}
use Rattle.asm86_line_types.specs.Layout.{same_label}
use Rattle.sym_block_def.specs.declared.reason.Reason.{Reason}
use Rattle.sym_block_def.specs.declared.reason.Reason.TheVariants.{Form}
use Rattle.sym_block_def.specs.Outcome.{Way, Call, Sys as AskSystem, In, Out, One, Two, Outcome}
use Rattle.sym_block_def.specs.Symbolic86.{Symbolic86, with_reg16, offset_term, effect86}
use Rattle.sym_block_def.specs.Walk86.{Surroundings, after_label, way_to, is_passed, Met, EndsAt, Instruction, Nothing, met_label, met, follows, call_way, go_behind, jump_to, way_by, way_from, flag_of_jump, jumps_at, outcome86, one_way, two_ways, is_call, direct_call, port_way, run_by, walk_by, walk_through, walk_some, walk_behind}

-- the two texts have these after a label of an address
module _ (a : ℕ) (long short : List Stmt86) where
  -- the same stands after two positions, or they are before that label
  pub data AsFar : List Stmt86 → List Stmt86 → Type 0 where
    alike : (xs : List Stmt86) → AsFar xs xs
    over : (q : List Stmt86) → AsFar (q ++ Mark (At a) ∷ long) (q ++ Mark (At a) ∷ short)

  pub data SameMet : Met → Met → Type 0 where
    ends_at : (l : Label) → SameMet (EndsAt l) (EndsAt l)
    instruction : (x : Stmt86) (xs ys : List Stmt86) → AsFar xs ys → SameMet (Instruction x xs) (Instruction x ys)
    nothing : SameMet Nothing Nothing

  pub data SamePlace : Option (List Stmt86) → Option (List Stmt86) → Type 0 where
    none : SamePlace None None
    some : (xs ys : List Stmt86) → AsFar xs ys → SamePlace (Some xs) (Some ys)

  module _ (follow : (l : Label) → follows l long ≡ follows l short) where
    follows_over : (l : Label) (q : List Stmt86) → follows l (q ++ Mark (At a) ∷ long) ≡ follows l (q ++ Mark (At a) ∷ short)
    follows_over l [] = ap (λ b. same_label (At a) l || b) (follow l)
    follows_over l (Mark k ∷ q) = ap (λ b. same_label k l || b) (follows_over l q)
    follows_over l (x ∷ q) = refl

    follows_as : (l : Label) (xs ys : List Stmt86) → AsFar xs ys → follows l xs ≡ follows l ys
    follows_as l _ _ (alike xs) = refl
    follows_as l _ _ (over q) = follows_over l q

    module _ (w : Surroundings) (other : List Stmt86) (passes : list_any (λ b. b == a) w.later ≡ false) (behind : (l : Label) → way_to l ≡ None → SamePlace (after_label w.text l) (after_label other l)) where
      abbrev v : Surroundings
      v = record w { text = other }

      -- ---- what is met

      passed_same : (l : Label) → is_passed w l ≡ is_passed v l
      passed_same (At b) = refl
      passed_same (Skip b) = refl
      passed_same (User b) = refl
      passed_same Sys = refl
      passed_same End = refl

      by_pass : (t : Bool) (l : Label) (m n : Met) → SameMet m n → SameMet (met_label t l m) (met_label t l n)
      by_pass true l m n s = s
      by_pass false l m n s = ends_at l

      label_met : (l : Label) (m n : Met) → SameMet m n → SameMet (met_label (is_passed w l) l m) (met_label (is_passed v l) l n)
      label_met l m n s = subst (λ t. SameMet (met_label (is_passed w l) l m) (met_label t l n)) (passed_same l) (by_pass (is_passed w l) l m n s)

      met_same : (xs : List Stmt86) → SameMet (met w xs) (met v xs)
      met_same [] = nothing
      met_same (Mark l ∷ xs) = label_met l (met w xs) (met v xs) (met_same xs)
      met_same (Run i ∷ xs) = instruction (Run i) xs xs (alike xs)
      met_same (MovOffset r l ∷ xs) = instruction (MovOffset r l) xs xs (alike xs)
      met_same (Jmp l ∷ xs) = instruction (Jmp l) xs xs (alike xs)
      met_same (Jmps l ∷ xs) = instruction (Jmps l) xs xs (alike xs)
      met_same (JccTo j l ∷ xs) = instruction (JccTo j l) xs xs (alike xs)
      met_same (CallTo l ∷ xs) = instruction (CallTo l) xs xs (alike xs)
      met_same (x ∷ xs) = nothing

      met_over : (q : List Stmt86) → SameMet (met w (q ++ Mark (At a) ∷ long)) (met v (q ++ Mark (At a) ∷ short))
      met_over [] = subst (λ t. SameMet (met_label t (At a) (met w long)) (met_label t (At a) (met v short))) (sym passes) (ends_at (At a))
      met_over (Mark l ∷ q) = label_met l (met w (q ++ Mark (At a) ∷ long)) (met v (q ++ Mark (At a) ∷ short)) (met_over q)
      met_over (Run i ∷ q) = instruction (Run i) _ _ (over q)
      met_over (MovOffset r l ∷ q) = instruction (MovOffset r l) _ _ (over q)
      met_over (Jmp l ∷ q) = instruction (Jmp l) _ _ (over q)
      met_over (Jmps l ∷ q) = instruction (Jmps l) _ _ (over q)
      met_over (JccTo j l ∷ q) = instruction (JccTo j l) _ _ (over q)
      met_over (CallTo l ∷ q) = instruction (CallTo l) _ _ (over q)
      met_over (x ∷ q) = nothing

      met_as : (xs ys : List Stmt86) → AsFar xs ys → SameMet (met w xs) (met v ys)
      met_as _ _ (alike xs) = met_same xs
      met_as _ _ (over q) = met_over q

      -- ---- ends of ways

      behind_as : {A : Type 0} → (on with : List Stmt86 → Result A Reason) → ((xs ys : List Stmt86) → AsFar xs ys → on xs ≡ with ys) → (o q : Option (List Stmt86)) → SamePlace o q → go_behind on o ≡ go_behind with q
      behind_as on with h _ _ none = refl
      behind_as on with h _ _ (some xs ys r) = h xs ys r

      jump_as : {A : Type 0} → (ends : Way → Result A Reason) (on with : List Stmt86 → Result A Reason) → ((xs ys : List Stmt86) → AsFar xs ys → on xs ≡ with ys) → (l : Label) → jump_to w ends on l ≡ jump_to v ends with l
      jump_as ends on with h (At b) = refl
      jump_as ends on with h (Skip b) = behind_as on with h (after_label w.text (Skip b)) (after_label other (Skip b)) (behind (Skip b) refl)
      jump_as ends on with h (User b) = behind_as on with h (after_label w.text (User b)) (after_label other (User b)) (behind (User b) refl)
      jump_as ends on with h Sys = refl
      jump_as ends on with h End = refl

      call_as : (xs ys : List Stmt86) → AsFar xs ys → (l : Label) → call_way w xs l ≡ call_way v ys l
      call_as xs ys r (At t) = ap (λ b. Ok (Call (AtPlace t) (cond b (AtPlace w.after) EndPlace))) (follows_as (At w.after) xs ys r)
      call_as xs ys r Sys = ap (λ b. Ok (AskSystem (cond (b || not w.goes_on) (AtPlace w.after) EndPlace))) (follows_as (At w.after) xs ys r)
      call_as xs ys r l = refl

      -- ---- the ways after a conditional jump

      way_by_as : (s : Symbolic86) (on with : List Stmt86 → Result Way Reason) → ((xs ys : List Stmt86) → AsFar xs ys → on xs ≡ with ys) → (xs ys : List Stmt86) → AsFar xs ys → (x : Stmt86) → way_by w s on xs x ≡ way_by v s with ys x
      way_by_as s on with h xs ys r (Jmp l) = jump_as Ok on with h l
      way_by_as s on with h xs ys r (Jmps l) = jump_as Ok on with h l
      way_by_as s on with h xs ys r (CallTo l) = call_as xs ys r l
      way_by_as s on with h xs ys r (Run Ret) = refl
      way_by_as s on with h xs ys r (Run JmpBx) = refl
      way_by_as s on with h xs ys r x = refl

      way_as : (s : Symbolic86) (room : ℕ) (m n : Met) → SameMet m n → way_from w s room m ≡ way_from v s room n
      way_as s zero _ _ (ends_at l) = refl
      way_as s zero _ _ nothing = refl
      way_as s zero _ _ (instruction x xs ys r) = refl
      way_as s (suc room) _ _ (ends_at l) = refl
      way_as s (suc room) _ _ nothing = refl
      way_as s (suc room) _ _ (instruction x xs ys r) =
          way_by_as s (λ zs. way_from w s room (met w zs)) (λ zs. way_from v s room (met v zs))
          (λ zs us q. way_as s room (met w zs) (met v us) (met_as zs us q)) xs ys r x

      -- ---- before it

      two_as : (room : ℕ) (xs ys : List Stmt86) → AsFar xs ys → (s : Symbolic86) (j : Jump) (l : Label) → two_ways w room xs s j l ≡ two_ways v room ys s j l
      two_as room xs ys r s j l =
          ap (λ first. try_then first (λ straight. try_then (jump_to w Ok (λ zs. way_from w s room (met w zs)) l) (λ jumped. Ok (outcome86 s false (Two (flag_of_jump s.held j) (jumps_at j) jumped straight)))))
          (way_as s room (met w xs) (met v ys) (met_as xs ys r))
          ∙ ap (λ second. try_then (way_from v s room (met v ys)) (λ straight. try_then second (λ jumped. Ok (outcome86 s false (Two (flag_of_jump s.held j) (jumps_at j) jumped straight)))))
          (jump_as Ok (λ zs. way_from w s room (met w zs)) (λ zs. way_from v s room (met v zs)) (λ zs us q. way_as s room (met w zs) (met v us) (met_as zs us q)) l)

      asked_as : (xs ys : List Stmt86) → AsFar xs ys → (s : Symbolic86) → direct_call w xs s ≡ direct_call v ys s
      asked_as xs ys r s =
          ap (λ b. cond (is_call s.held.c) (Ok (outcome86 s true (One (AskSystem (cond (b || not w.goes_on) (AtPlace w.after) EndPlace))))) (Err Form))
          (follows_as (At w.after) xs ys r)

      port_as : (xs ys : List Stmt86) → AsFar xs ys → (s : Symbolic86) (way : Place → Way) → port_way w xs s way ≡ port_way v ys s way
      port_as xs ys r s way = ap (λ b. cond (b || not w.goes_on) (one_way s (way (AtPlace w.after))) (Err Form)) (follows_as (At w.after) xs ys r)

      module _ (on with : Symbolic86 → List Stmt86 → Result Outcome Reason) (h : (t : Symbolic86) (xs ys : List Stmt86) → AsFar xs ys → on t xs ≡ with t ys) where
        run_as : (xs ys : List Stmt86) → AsFar xs ys → (s : Symbolic86) (i : Instr86) → run_by w on xs s i ≡ run_by v with ys s i
        run_as xs ys r s Ret = refl
        run_as xs ys r s JmpBx = refl
        run_as xs ys r s Int224 = asked_as xs ys r s
        run_as xs ys r s (InAl port) = port_as xs ys r s (In port)
        run_as xs ys r s (OutAl port) = port_as xs ys r s (Out port)
        run_as xs ys r s MovSsAx = refl
        run_as xs ys r s (Jcc j d) = refl
        run_as xs ys r s (JmpNear d) = refl
        run_as xs ys r s (JmpShort d) = refl
        run_as xs ys r s (CallNear d) = refl
        run_as xs ys r s i = h (effect86 s i) xs ys r

        by_as : (room : ℕ) (xs ys : List Stmt86) → AsFar xs ys → (s : Symbolic86) (x : Stmt86) → walk_by w room on xs s x ≡ walk_by v room with ys s x
        by_as room xs ys r s (Run i) = run_as xs ys r s i
        by_as room xs ys r s (MovOffset q l) = h (with_reg16 s q (offset_term l)) xs ys r
        by_as room xs ys r s (Jmp l) = jump_as (one_way s) (on s) (with s) (h s) l
        by_as room xs ys r s (Jmps l) = jump_as (one_way s) (on s) (with s) (h s) l
        by_as room xs ys r s (JccTo j l) = two_as room xs ys r s j l
        by_as room xs ys r s (CallTo l) = ap (λ way. try_then way (one_way s)) (call_as xs ys r l)
        by_as room xs ys r s x = refl

      through_as : (room : ℕ) (m n : Met) → SameMet m n → (s : Symbolic86) → walk_through w room m s ≡ walk_through v room n s
      through_as zero _ _ (ends_at l) s = refl
      through_as zero _ _ nothing s = refl
      through_as zero _ _ (instruction x xs ys r) s = refl
      through_as (suc room) _ _ (ends_at l) s = refl
      through_as (suc room) _ _ nothing s = refl
      through_as (suc room) _ _ (instruction x xs ys r) s =
          by_as (λ t zs. walk_through w room (met w zs) t) (λ t zs. walk_through v room (met v zs) t)
          (λ t zs us q. through_as room (met w zs) (met v us) (met_as zs us q) t) room xs ys r s x

      some_as : (room : ℕ) (m n : Met) → SameMet m n → (s : Symbolic86) → walk_some w room m s ≡ walk_some v room n s
      some_as room _ _ (ends_at l) s = refl
      some_as room _ _ nothing s = through_as room Nothing Nothing nothing s
      some_as room _ _ (instruction x xs ys r) s = through_as room (Instruction x xs) (Instruction x ys) (instruction x xs ys r) s

      pub walks_as : (room : ℕ) (s : Symbolic86) (o q : Option (List Stmt86)) → SamePlace o q → walk_behind w room s o ≡ walk_behind v room s q
      walks_as room s _ _ none = refl
      walks_as room s _ _ (some xs ys r) = some_as room (met w xs) (met v ys) (met_as xs ys r) s
