-- The ends of blocks: the walk through the template of what ends a block, or at the label behind it.
use Rattle.std.proofs.Common.{◌≡◌, ℕ, suc, ◌==◌, Bool, true, false, cond, List, ◌∷◌, ◌++◌, Some, refl, sym, ap, ◌∙◌, subst}
use Rattle.std.specs.Prelude.{Result, Ok, Err}
use Rattle.std.proofs.lemmas.Bool.{and_from, false≢true}
use Rattle.cells.specs.declared.Part.{Part}
use Rattle.cells.specs.declared.Part.TheVariants.{C, H, L}
use Rattle.cells.specs.declared.Cond.{Cond}
use Rattle.cells.specs.declared.Place.TheVariants.{At as AtPlace}
use Rattle.cells.specs.Parts.{Parts}
use Rattle.i80.specs.declared.Goal.{Goal}
use Rattle.i80.specs.declared.Goal.TheVariants.{At as ToInstr, Boot as ToBoot, Bdos as ToBdos}
use Rattle.i80.specs.declared.Instr80.{Instr80}
use Rattle.i80.specs.declared.Instr80.TheVariants.{Pchl, Jmp, Jif, Call as CallTo, Cif, Ret, Rif, Rst0, In as InFrom, Out as OutTo}
use Rattle.i80.specs.Columns.{ends80, uses80, flag_of_condition, asked_of}
use Rattle.i86.specs.declared.Jump.{Jump}
use Rattle.i86.specs.declared.Instr86.TheVariants.{Ret as Ret86, Int224}
use Rattle.asm80_types.specs.Program.{Program, is_start}
use Rattle.asm86_line_types.specs.declared.line.Label.{Label}
use Rattle.asm86_line_types.specs.declared.line.Label.TheVariants.{At, Skip, Sys as SysLabel, End}
use Rattle.asm86_line_types.specs.declared.line.Stmt86.{Stmt86}
use Rattle.asm86_line_types.specs.declared.line.Stmt86.TheVariants.{Mark, Run, Jcc as JccTo, Jmp as JmpTo, Call as CallStmt}
use Rattle.dialogue.specs.Tried.{try_then}
use Rattle.templates.specs.Template.{template, label_of_goal, unless}
use Rattle.sym_block_def.specs.declared.reason.Reason.{Reason}
use Rattle.sym_block_def.specs.declared.reason.Reason.TheVariants.{Form}
use Rattle.sym_terms.specs.Term.{Term}
use Rattle.sym_block_def.specs.Outcome.{Way, Goto, Call, Sys, SysReturn, Boot, In, Out, One, Two}
use Rattle.sym_block_def.specs.Block80.{Symbolic80, goto, jump, call, return_by, asking, where_holds, exit80, flag_term}
use Rattle.sym_block_def.specs.Symbolic86.{Symbolic86}
use Rattle.sym_block_def.specs.Walk86.{Surroundings, EndsAt, after_label, way_to, met, met_label, back_from_call, back_from_system, return_way, bx_way, go_behind, walk_jump, jump_to, way_from, flag_of_jump, jumps_at, outcome86, one_way, two_ways, is_call, walk_through}
use Rattle.sym_block_def.proofs.Exits.{exit_falls}
use Rattle.sym_block_def.specs.Agree.{agrees, way_agrees}
use Rattle.templates_law.specs.Match.Meeting.{Meets, lost, same, Among, Agree}
use Rattle.templates_law.proofs.Match.Terms.{meets_agree}
use Rattle.templates_law.proofs.Match.Row.{in_first}
use Rattle.templates_law.specs.Match.Exits.{EndsBehind, SkipsTo, WalkEnds, JumpsWhere}
use Rattle.templates_law.proofs.Match.Ways.{same_here, one_agrees, jumps_agree, next_agrees, may_follow, asking_agrees, calls_agree, asks_agree, returns_agree, flags_meet_at, crossed, straight_on}

-- a jump to the label of a target ends the way
goal_way : (g : Goal) → (way : Way) × (way_to (label_of_goal g) ≡ Some way)
goal_way (ToInstr t) = (Goto (AtPlace t), refl)
goal_way ToBoot = (Boot, refl)
goal_way ToBdos = (SysReturn, refl)

jump_ends : {X : Type 0} (w : Surroundings) (ends : Way → Result X Reason) (on : List Stmt86 → Result X Reason) (l : Label) (way : Way) → way_to l ≡ Some way → jump_to w ends on l ≡ ends way
jump_ends w ends on l way e = ap (λ o. walk_jump ends (go_behind on (after_label w.text l)) o) e

module _ (p : Program) (w : Surroundings) (rest : List Stmt86) (t : Symbolic86) (g : w.goes_on ≡ is_start p w.after) (b : EndsBehind w rest) where
  met_end : met w rest ≡ EndsAt b.label
  met_end = ap (met w) b.begins ∙ ap (λ z. met_label z b.label (met w b.more)) b.stops

  -- the way past a condition ends there
  pub way_ends : (room : ℕ) → way_from w t room (met w rest) ≡ Ok b.way
  way_ends room = ap (way_from w t room) met_end ∙ ap (λ o. walk_jump Ok (Err Form) o) b.leads

  pub fall : (room : ℕ) (s : Symbolic80) → WalkEnds (walk_through w room (met w rest) t) t false (One (goto p w.after))
  fall room s = record {
    exit86 = One b.way;
    is = ap (λ m. walk_through w room m t) met_end ∙ ap (λ o. walk_jump (one_way t) (Err Form) o) b.leads;
    agrees = one_agrees (goto p w.after) b.way (next_agrees p w rest g b);
  }

  two_ends : (c : Cond) (s : Symbolic80) (room at : ℕ) (xs : List Stmt86) (way straight : Way) → way_from w t room (met w xs) ≡ Ok straight → after_label w.text (Skip at) ≡ Some rest → Meets (flag_term s.held c) (flag_of_jump t.held (unless c)) → way_agrees way straight ≡ true → WalkEnds (two_ways w room xs t (unless c) (Skip at)) t false (where_holds s c way (goto p w.after))
  two_ends c s room at xs way straight e skip m f = record {
    exit86 = Two (flag_of_jump t.held (unless c)) (jumps_at (unless c)) b.way straight;
    is =
        ap (λ z. try_then z (λ x. try_then (jump_to w Ok (λ ys. way_from w t room (met w ys)) (Skip at)) (λ y. Ok (outcome86 t false (Two (flag_of_jump t.held (unless c)) (jumps_at (unless c)) y x))))) e
        ∙ ap (λ z. try_then z (λ y. Ok (outcome86 t false (Two (flag_of_jump t.held (unless c)) (jumps_at (unless c)) y straight)))) (ap (λ o. go_behind (λ ys. way_from w t room (met w ys)) o) skip ∙ way_ends room);
    agrees = crossed c s t way (goto p w.after) straight b.way m f (next_agrees p w rest g b);
  }

module _ (p : Program) (w : Surroundings) (before : Parts) (at room : ℕ) (save : Bool) (rest : List Stmt86) (s : Symbolic80) (t : Symbolic86) (g : w.goes_on ≡ is_start p w.after) (b : EndsBehind w rest) (a : Agree (Among before) s t) where
  abbrev End_of : Instr80 → Type 0
  End_of i = WalkEnds (walk_through w (suc (suc room)) (met w (template i at save ++ rest)) t) t false (exit80 p w.after s i)

  jump_end : (goal : Goal) → End_of (Jmp goal)
  jump_end goal =
      let y = goal_way goal in
      record { exit86 = One y.0; is = jump_ends w (one_way t) (λ ys. walk_through w (suc room) (met w ys) t) (label_of_goal goal) y.0 y.1; agrees = one_agrees (jump p goal) y.0 (jumps_agree p goal y.0 y.1) }

  call_end : (goal : Goal) → End_of (CallTo goal)
  call_end (ToInstr c) = record { exit86 = One (Call (AtPlace c) (back_from_call w rest)); is = refl; agrees = one_agrees (call p w.after (ToInstr c)) (Call (AtPlace c) (back_from_call w rest)) (calls_agree p w rest g b c rest refl) }
  call_end ToBoot = record { exit86 = One Boot; is = refl; agrees = refl }
  call_end ToBdos = record { exit86 = One (Sys (back_from_system w rest)); is = refl; agrees = one_agrees (call p w.after ToBdos) (Sys (back_from_system w rest)) (asks_agree p w rest g b rest refl) }

  if_jump : (c : Cond) (goal : Goal) → SkipsTo w (Jif c goal) at rest → ((q : Part) → Among (uses80 (Jif c goal)) q → Among before q) → End_of (Jif c goal)
  if_jump c goal skip k =
      let y = goal_way goal in
      two_ends p w rest t g b c s (suc room) at (JmpTo (label_of_goal goal) ∷ (Mark (Skip at) ∷ rest)) (jump p goal) y.0 (jump_ends w Ok (λ ys. way_from w t room (met w ys)) (label_of_goal goal) y.0 y.1) skip
      (flags_meet_at before c s t (λ q h. k q (in_first (flag_of_condition c) (asked_of goal) q h)) a) (jumps_agree p goal y.0 y.1)

  if_call_of : (c : Cond) (goal : Goal) → SkipsTo w (Cif c goal) at rest → Meets (flag_term s.held c) (flag_of_jump t.held (unless c)) → End_of (Cif c goal)
  if_call_of c (ToInstr d) skip m =
      two_ends p w rest t g b c s (suc room) at (CallStmt (At d) ∷ (Mark (Skip at) ∷ rest)) (call p w.after (ToInstr d)) (Call (AtPlace d) (back_from_call w (Mark (Skip at) ∷ rest))) refl skip m
      (calls_agree p w rest g b d (Mark (Skip at) ∷ rest) refl)
  if_call_of c ToBoot skip m = two_ends p w rest t g b c s (suc room) at (JmpTo End ∷ (Mark (Skip at) ∷ rest)) Boot Boot refl skip m refl
  if_call_of c ToBdos skip m =
      two_ends p w rest t g b c s (suc room) at (CallStmt SysLabel ∷ (Mark (Skip at) ∷ rest)) (call p w.after ToBdos) (Sys (back_from_system w (Mark (Skip at) ∷ rest))) refl skip m
      (asks_agree p w rest g b (Mark (Skip at) ∷ rest) refl)

  if_call : (c : Cond) (goal : Goal) → SkipsTo w (Cif c goal) at rest → ((q : Part) → Among (uses80 (Cif c goal)) q → Among before q) → End_of (Cif c goal)
  if_call c goal skip k = if_call_of c goal skip (flags_meet_at before c s t (λ q h. k q (in_first (flag_of_condition c) (asked_of goal) q h)) a)

  end : (i : Instr80) → ends80 i ≡ true → SkipsTo w i at rest → ((q : Part) → Among (uses80 i) q → Among before q) → End_of i
  end Pchl e skip k = record { exit86 = One (bx_way t); is = refl; agrees = and_from (agrees s.held.h t.held.h) (agrees s.held.l t.held.l) (meets_agree _ _ (a.parts H (k H refl))) (meets_agree _ _ (a.parts L (k L refl))) }
  end (Jmp goal) e skip k = jump_end goal
  end (Jif c goal) e skip k = if_jump c goal skip k
  end (CallTo goal) e skip k = call_end goal
  end (Cif c goal) e skip k = if_call c goal skip k
  end Ret e skip k = record { exit86 = One (return_way t); is = refl; agrees = returns_agree s t a }
  end (Rif c) e skip k =
      two_ends p w rest t g b c s (suc room) at (Run Ret86 ∷ (Mark (Skip at) ∷ rest)) (return_by s) (return_way t) refl skip (flags_meet_at before c s t k a) (returns_agree s t a)
  end Rst0 e skip k = record { exit86 = One Boot; is = refl; agrees = refl }
  end (InFrom n) e skip k = record {
    exit86 = One (In n (AtPlace w.after));
    is = ap (λ z. cond z (one_way t (In n (AtPlace w.after))) (Err Form)) (may_follow p w rest g b);
    agrees = one_agrees (asking p w.after (In n)) (In n (AtPlace w.after)) (asking_agrees p w rest g b (In n) (and_from (n == n) (w.after == w.after) (same_here n) (same_here w.after)));
  }
  end (OutTo n) e skip k = record {
    exit86 = One (Out n (AtPlace w.after));
    is = ap (λ z. cond z (one_way t (Out n (AtPlace w.after))) (Err Form)) (may_follow p w rest g b);
    agrees = one_agrees (asking p w.after (Out n)) (Out n (AtPlace w.after)) (asking_agrees p w rest g b (Out n) (and_from (n == n) (w.after == w.after) (same_here n) (same_here w.after)));
  }
  end i e skip k = absurd (false≢true e)

pub ending : (p : Program) (w : Surroundings) (before : Parts) (i : Instr80) (at room : ℕ) (save : Bool) (rest : List Stmt86) (s : Symbolic80) (t : Symbolic86) → ends80 i ≡ true → w.goes_on ≡ is_start p w.after → EndsBehind w rest → SkipsTo w i at rest → ((q : Part) → Among (uses80 i) q → Among before q) → Agree (Among before) s t → WalkEnds (walk_through w (suc (suc room)) (met w (template i at save ++ rest)) t) t false (exit80 p w.after s i)
ending p w before i at room save rest s t e g b skip k a = end p w before at room save rest s t g b a i e skip k

pub falling : (p : Program) (w : Surroundings) (i : Instr80) (room : ℕ) (rest : List Stmt86) (s : Symbolic80) (t : Symbolic86) → ends80 i ≡ false → w.goes_on ≡ is_start p w.after → EndsBehind w rest → WalkEnds (walk_through w room (met w rest) t) t false (exit80 p w.after s i)
falling p w i room rest s t e g b = subst (λ x. WalkEnds (walk_through w room (met w rest) t) t false x) (sym (exit_falls p w.after s i e)) (fall p w rest t g b room s)

pub short : (p : Program) (w : Surroundings) (before : Parts) (c : Cond) (goal : Goal) (j : Jump) (room : ℕ) (rest : List Stmt86) (s : Symbolic80) (t : Symbolic86) → JumpsWhere c j → w.goes_on ≡ is_start p w.after → EndsBehind w rest → ((q : Part) → Among (flag_of_condition c) q → Among before q) → Agree (Among before) s t → WalkEnds (walk_through w (suc room) (met w (JccTo j (label_of_goal goal) ∷ rest)) t) t false (exit80 p w.after s (Jif c goal))
short p w before c goal j room rest s t where_so g b k a =
    record {
      exit86 = Two (flag_of_jump t.held j) (jumps_at j) y.0 b.way;
      is =
          ap (λ z. try_then z (λ x. try_then (jump_to w Ok on (label_of_goal goal)) (λ v. Ok (outcome86 t false (Two (flag_of_jump t.held j) (jumps_at j) v x))))) (way_ends p w rest t g b room)
          ∙ ap (λ z. try_then z (λ v. Ok (outcome86 t false (Two (flag_of_jump t.held j) (jumps_at j) v b.way)))) (jump_ends w Ok on (label_of_goal goal) y.0 y.1);
      agrees = straight_on c j s t (jump p goal) (goto p w.after) y.0 b.way where_so (flags_meet_at before c s t k a) (jumps_agree p goal y.0 y.1) (next_agrees p w rest g b);
    }
  where
    y : (way : Way) × (way_to (label_of_goal goal) ≡ Some way)
    y = goal_way goal

    on : List Stmt86 → Result Way Reason
    on ys = way_from w t room (met w ys)

-- the number of the function is in CL too
number_in_c : (u v : Term) → is_call u ≡ true → Meets u v → is_call v ≡ true
number_in_c u v e (lost f) = absurd (false≢true (sym (ap is_call f) ∙ e))
number_in_c u v e (same f k) = ap is_call f ∙ e

pub direct : (p : Program) (w : Surroundings) (before : Parts) (room : ℕ) (rest : List Stmt86) (s : Symbolic80) (t : Symbolic86) → is_call s.held.c ≡ true → Among before C → w.goes_on ≡ is_start p w.after → EndsBehind w rest → Agree (Among before) s t → WalkEnds (walk_through w (suc room) (met w (Run Int224 ∷ rest)) t) t true (exit80 p w.after s (CallTo ToBdos))
direct p w before room rest s t e k g b a = record {
  exit86 = One (Sys (back_from_system w rest));
  is = ap (λ z. cond z (Ok (outcome86 t true (One (Sys (back_from_system w rest))))) (Err Form)) (number_in_c s.held.c t.held.c e (a.parts C k));
  agrees = one_agrees (call p w.after ToBdos) (Sys (back_from_system w rest)) (asks_agree p w rest g b rest refl);
}
