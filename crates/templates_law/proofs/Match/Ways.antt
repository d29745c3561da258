-- The ways of templates agree with those of their instructions.
use Rattle.std.proofs.Common.{◌≡◌, ℕ, ◌==◌, ◌||◌, Bool, true, false, cond, List, Some, refl, sym, ap, ◌∙◌}
use Rattle.std.specs.Prelude.{not, ◌&&◌}
use Rattle.std.proofs.lemmas.Bool.{eq-eqb, or_right, and_from}
use Rattle.std.proofs.lemmas.Option.{same_Some}
use Rattle.cells.specs.declared.Part.{Part}
use Rattle.cells.specs.declared.Part.TheVariants.{S, Z, P, Cy}
use Rattle.cells.specs.declared.Cond.{Cond}
use Rattle.cells.specs.declared.Cond.TheVariants.{Nz, Z as Zero, Nc, C as Carry, Po, Pe, P as Plus, M as Minus}
use Rattle.cells.specs.declared.Place.{Place}
use Rattle.cells.specs.declared.Place.TheVariants.{At as AtPlace, Exit as EndPlace}
use Rattle.cells.specs.Parts.{Parts}
use Rattle.i80.specs.declared.Goal.{Goal}
use Rattle.i80.specs.declared.Goal.TheVariants.{At as ToInstr, Boot as ToBoot, Bdos as ToBdos}
use Rattle.i80.specs.Columns.{flag_of_condition}
use Rattle.i86.specs.declared.Jump.{Jump}
use Rattle.asm80_types.specs.Program.{Program, is_start}
use Rattle.asm86_line_types.specs.declared.line.Label.TheVariants.{At}
use Rattle.asm86_line_types.specs.declared.line.Stmt86.{Stmt86}
use Rattle.asm86_line_types.specs.Layout.{same_label}
use Rattle.templates.specs.Template.{label_of_goal, unless}
use Rattle.cells.specs.Places.{same_place}
use Rattle.sym_terms.specs.Term.{same_bool}
use Rattle.sym_terms.specs.Making.{high, low}
use Rattle.sym_block_def.specs.Outcome.{Way, Goto, Call, Sys, SysReturn, Boot, Leave, One, Two}
use Rattle.sym_block_def.specs.Block80.{Symbolic80, goto, jump, call, return_by, asking, flag_term, wanted, where_holds, next_word}
use Rattle.sym_block_def.specs.Symbolic86.{Symbolic86, next_word as next_word86}
use Rattle.sym_block_def.specs.Walk86.{Surroundings, way_to, follows, comes_next, back_from_call, back_from_system, return_way, flag_of_jump, jumps_at}
use Rattle.sym_block_def.specs.Agree.{agrees, way_agrees, ways_agree, exit_agrees}
use Rattle.templates_law.specs.Match.Meeting.{Meets, Among, Agree}
use Rattle.templates_law.proofs.Match.Terms.{or_first, meets_agree}
use Rattle.templates_law.proofs.Match.Words.{highs_meet, lows_meet}
use Rattle.templates_law.proofs.Match.Moves.{next_words_meet}
use Rattle.templates_law.specs.Match.Exits.{EndsBehind, JumpsWhere}

pub same_here : (a : ℕ) → (a == a) ≡ true
same_here a = eq-eqb a a refl

pub one_agrees : (x y : Way) → way_agrees x y ≡ true → exit_agrees (One x) (One y) ≡ true
one_agrees Leave y e = refl
one_agrees x y e = e

-- a way that is only where an instruction starts
if_start : (b : Bool) (x y : Way) → (b ≡ true → way_agrees x y ≡ true) → way_agrees (cond b x Leave) y ≡ true
if_start true x y f = f refl
if_start false x y f = refl

pub jumps_agree : (p : Program) (g : Goal) (way : Way) → way_to (label_of_goal g) ≡ Some way → way_agrees (jump p g) way ≡ true
jumps_agree p (ToInstr t) way e =
    let w : Goto (AtPlace t) ≡ way = same_Some _ _ e in
    if_start (is_start p t) (Goto (AtPlace t)) way (λ h. ap (λ v. way_agrees (Goto (AtPlace t)) v) (sym w) ∙ same_here t)
jumps_agree p ToBoot way e = ap (λ v. way_agrees Boot v) (sym (same_Some Boot way e))
jumps_agree p ToBdos way e = ap (λ v. way_agrees SysReturn v) (sym (same_Some SysReturn way e))

-- the place behind a block

module _ (p : Program) (w : Surroundings) (rest : List Stmt86) (g : w.goes_on ≡ is_start p w.after) (b : EndsBehind w rest) where
  label_next : is_start p w.after ≡ true → b.label ≡ At w.after
  label_next h = b.next (g ∙ h)

  pub next_agrees : way_agrees (goto p w.after) b.way ≡ true
  next_agrees = if_start (is_start p w.after) (Goto (AtPlace w.after)) b.way by_label
    where
      by_label : is_start p w.after ≡ true → way_agrees (Goto (AtPlace w.after)) b.way ≡ true
      by_label h =
          let e : way_to (At w.after) ≡ Some b.way = ap way_to (sym (label_next h)) ∙ b.leads in
          let is : Goto (AtPlace w.after) ≡ b.way = same_Some _ _ e in
          ap (λ v. way_agrees (Goto (AtPlace w.after)) v) (sym is) ∙ same_here w.after

  pub label_follows : is_start p w.after ≡ true → comes_next w rest ≡ true
  label_follows h =
      ap (λ xs. follows (At w.after) xs) b.begins
      ∙ or_first (same_label b.label (At w.after)) (follows (At w.after) b.more) (ap (λ l. same_label l (At w.after)) (label_next h) ∙ same_here w.after)

  -- where no instruction starts there, no label is asked for
  or_none : (z : Bool) → (w.goes_on ≡ true → z ≡ true) → (z || not w.goes_on) ≡ true
  or_none z f = by_going w.goes_on refl
    where
      by_going : (y : Bool) → w.goes_on ≡ y → (z || not w.goes_on) ≡ true
      by_going true e = or_first z (not w.goes_on) (f e)
      by_going false e = or_right z (not w.goes_on) (ap not e)

  pub may_follow : (comes_next w rest || not w.goes_on) ≡ true
  may_follow = or_none (comes_next w rest) (λ e. label_follows (sym g ∙ e))

  pub asking_agrees : (way : Place → Way) → way_agrees (way (AtPlace w.after)) (way (AtPlace w.after)) ≡ true → way_agrees (asking p w.after way) (way (AtPlace w.after)) ≡ true
  asking_agrees way e = if_start (is_start p w.after) (way (AtPlace w.after)) (way (AtPlace w.after)) (λ h. e)

  -- a call of an instruction or of the system, whatever labels of conditions stand behind it
  pub calls_agree : (t : ℕ) (ys : List Stmt86) → comes_next w ys ≡ comes_next w rest → way_agrees (call p w.after (ToInstr t)) (Call (AtPlace t) (back_from_call w ys)) ≡ true
  calls_agree t ys e = if_start (is_start p w.after) (Call (AtPlace t) (AtPlace w.after)) (Call (AtPlace t) (back_from_call w ys)) by_start
    where
      by_start : is_start p w.after ≡ true → way_agrees (Call (AtPlace t) (AtPlace w.after)) (Call (AtPlace t) (back_from_call w ys)) ≡ true
      by_start h =
          and_from _ _ (same_here t)
          (ap (λ z. same_place (AtPlace w.after) (cond z (AtPlace w.after) EndPlace)) (e ∙ label_follows h) ∙ same_here w.after)

  pub asks_agree : (ys : List Stmt86) → comes_next w ys ≡ comes_next w rest → way_agrees (call p w.after ToBdos) (Sys (back_from_system w ys)) ≡ true
  asks_agree ys e =
      ap (λ z. same_place (AtPlace w.after) (cond (z || not w.goes_on) (AtPlace w.after) EndPlace)) e
      ∙ ap (λ z. same_place (AtPlace w.after) (cond z (AtPlace w.after) EndPlace)) may_follow
      ∙ same_here w.after

pub returns_agree : {Kept : Part → Type 0} (s : Symbolic80) (t : Symbolic86) → Agree Kept s t → way_agrees (return_by s) (return_way t) ≡ true
returns_agree s t a =
    let m = next_words_meet s t a in
    and_from (agrees (high (next_word s)) (high (next_word86 t))) (agrees (low (next_word s)) (low (next_word86 t))) (meets_agree _ _ (highs_meet _ _ m)) (meets_agree _ _ (lows_meet _ _ m))

-- the flag of a condition
pub flags_meet_at : (before : Parts) (c : Cond) (s : Symbolic80) (t : Symbolic86) → ((q : Part) → Among (flag_of_condition c) q → Among before q) → Agree (Among before) s t → Meets (flag_term s.held c) (flag_of_jump t.held (unless c))
flags_meet_at before Nz s t k a = a.parts Z (k Z refl)
flags_meet_at before Zero s t k a = a.parts Z (k Z refl)
flags_meet_at before Nc s t k a = a.parts Cy (k Cy refl)
flags_meet_at before Carry s t k a = a.parts Cy (k Cy refl)
flags_meet_at before Po s t k a = a.parts P (k P refl)
flags_meet_at before Pe s t k a = a.parts P (k P refl)
flags_meet_at before Plus s t k a = a.parts S (k S refl)
flags_meet_at before Minus s t k a = a.parts S (k S refl)

-- The template jumps where the condition does not hold.
pub crossed : (c : Cond) (s : Symbolic80) (t : Symbolic86) (way otherwise straight jumped : Way) → Meets (flag_term s.held c) (flag_of_jump t.held (unless c)) → way_agrees way straight ≡ true → way_agrees otherwise jumped ≡ true → exit_agrees (where_holds s c way otherwise) (Two (flag_of_jump t.held (unless c)) (jumps_at (unless c)) jumped straight) ≡ true
crossed c s t way otherwise straight jumped m e f = by_cond c m
  where
    both : way_agrees way straight ≡ true → way_agrees otherwise jumped ≡ true → (way_agrees way straight && way_agrees otherwise jumped) ≡ true
    both = and_from (way_agrees way straight) (way_agrees otherwise jumped)

    by_cond : (c : Cond) → Meets (flag_term s.held c) (flag_of_jump t.held (unless c)) → exit_agrees (where_holds s c way otherwise) (Two (flag_of_jump t.held (unless c)) (jumps_at (unless c)) jumped straight) ≡ true
    by_cond Nz m = and_from _ _ (meets_agree _ _ m) (both e f)
    by_cond Zero m = and_from _ _ (meets_agree _ _ m) (both e f)
    by_cond Nc m = and_from _ _ (meets_agree _ _ m) (both e f)
    by_cond Carry m = and_from _ _ (meets_agree _ _ m) (both e f)
    by_cond Po m = and_from _ _ (meets_agree _ _ m) (both e f)
    by_cond Pe m = and_from _ _ (meets_agree _ _ m) (both e f)
    by_cond Plus m = and_from _ _ (meets_agree _ _ m) (both e f)
    by_cond Minus m = and_from _ _ (meets_agree _ _ m) (both e f)

-- or it jumps where the condition holds
pub straight_on : (c : Cond) (j : Jump) (s : Symbolic80) (t : Symbolic86) (way otherwise jumped straight : Way) → JumpsWhere c j → Meets (flag_term s.held c) (flag_of_jump t.held (unless c)) → way_agrees way jumped ≡ true → way_agrees otherwise straight ≡ true → exit_agrees (where_holds s c way otherwise) (Two (flag_of_jump t.held j) (jumps_at j) jumped straight) ≡ true
straight_on c j s t way otherwise jumped straight where_so m e f =
    ap (λ z. exit_agrees (where_holds s c way otherwise) (Two z (jumps_at j) jumped straight)) (where_so.flag t.held ∙ same_flag c)
    ∙ ap (λ z. exit_agrees (where_holds s c way otherwise) (Two (flag_of_jump t.held (unless c)) z jumped straight)) where_so.value
    ∙ and_from (agrees (flag_term s.held c) (flag_of_jump t.held (unless c))) _ (meets_agree _ _ m) (by_value (wanted c))
  where
    same_flag : (c : Cond) → flag_term t.held c ≡ flag_of_jump t.held (unless c)
    same_flag Nz = refl
    same_flag c = refl

    by_value : (v : Bool) → ways_agree (same_bool v v) way otherwise jumped straight ≡ true
    by_value true = and_from (way_agrees way jumped) (way_agrees otherwise straight) e f
    by_value false = and_from (way_agrees way jumped) (way_agrees otherwise straight) e f
