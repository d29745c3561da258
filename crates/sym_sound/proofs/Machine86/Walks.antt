-- The walk before a conditional jump.
use Rattle.std.proofs.Common.{◌≡◌, ◌≢◌, ℕ, zero, suc, ◌+◌, ◌*◌, ◌/◌, ◌%◌, ◌<◌, ◌≤◌, Bool, true, false, cond, not, List, ◌∷◌, length, Some, Result, Ok, refl, sym, ap, subst, ◌∙◌, arith, ⊎_elim}
use Rattle.std.specs.Prelude.{◌||◌, ◌==◌}
use Rattle.std.proofs.lemmas.Option.{same_Some}
use Rattle.cells.specs.declared.Place.{Place}
use Rattle.cells.specs.declared.Place.TheVariants.{At as AtPlace, Exit as EndPlace}
use Rattle.i86.specs.declared.Reg8.TheVariants.{Cl}
use Rattle.i86.specs.declared.Reg16.{Reg16}
use Rattle.i86.specs.declared.Jump.{Jump}
use Rattle.i86.specs.declared.Instr86.{Instr86}
use Rattle.i86.specs.declared.Instr86.TheVariants.{MovNum16, MovSsAx, Jcc, JmpNear, JmpShort, JmpBx, CallNear, Ret, Int224, InAl, OutAl}
use Rattle.i86.specs.Enc86.{enc86}
use Rattle.dialogue.specs.Tried.{try_then}
use Rattle.dialogue.specs.Run.{Ran, choice_at}
use Rattle.asm86_line_types.specs.declared.line.Label.{Label}
use Rattle.asm86_line_types.specs.declared.line.Label.TheVariants.{At, Skip, User, Sys, End}
use Rattle.asm86_line_types.specs.declared.line.Stmt86.{Stmt86}
use Rattle.asm86_line_types.specs.declared.line.Stmt86.TheVariants.{Run, MovOffset, Jmp, Jmps, Jcc as JccTo, Call as CallTo}
use Rattle.asm86_line_types.specs.Layout.{offset_of, place_of}
use Rattle.asm86_line_types.specs.Image.{statements}
use Rattle.cpu86.specs.State.{State86}
use Rattle.cpu86.specs.Flags.{jumps}
use Rattle.cpu86.specs.Effect.{effect}
use Rattle.cpu86.specs.Step.{step86, machine86}
use Rattle.sym_terms.specs.Term.{Term, Num, Code, is_word}
use Rattle.sym_terms.specs.Making.{low}
use Rattle.sym_terms.specs.Values86.{Env86, Load86, Number, Val86}
use Rattle.sym_terms.specs.Laws.{IsMadeAs}
use Rattle.sym_block_def.specs.declared.reason.Reason.{Reason}
use Rattle.sym_block_def.specs.declared.reason.Reason.TheVariants.{Length, Form}
use Rattle.sym_block_def.specs.Outcome.{Way, Sys as AskSystem, In, Out, Exit, One, Two, Outcome}
use Rattle.sym_block_def.specs.Symbolic86.{Symbolic86, with_reg16, code_word, offset_term, effect86}
use Rattle.sym_block_def.specs.Walk86.{after_label, way_to, Met, EndsAt, Instruction, Nothing, met, comes_next, back_from_system, call_way, return_way, bx_way, jump_to, way_from, flag_of_jump, jumps_at, outcome86, one_way, two_ways, is_call, run_by, walk_by, walk_through}
use Rattle.sym_block_def.specs.Sorts.{AreSorted86, StatementsAreCoded}
use Rattle.simulation_def.specs.Steps.{RunsOn}
use Rattle.simulation_def.specs.Runs86.{with_loads, Takes86, Leads86, Asks86, offsets_of}
use Rattle.sym_sound.proofs.Machine86.Denoting.{Denotes, stands}
use Rattle.sym_sound.proofs.Machine86.Words86.{sets_word}
use Rattle.sym_sound.proofs.Machine86.Rows86.{goes_on, row}
use Rattle.sym_sound.proofs.Machine86.Positions.{Position, position_next, offsets_are, behind_is, MetAt, met_at, coded_here}
use Rattle.sym_sound.proofs.Machine86.Stepping.{past, keeps_ip, steps_as, steps_on}
use Rattle.dialogue.proofs.Tried.{ok_is, err_is_not, then_is}
use Rattle.sym_sound.proofs.Machine86.Walking.{Walk, has_sorts, cond_is, jump_is, end_is, jumps_where, stack_is, names, lands_small, jump_steps, short_steps, condition_steps, call_steps, return_steps, bx_steps, label_leads, return_leads, bx_leads, goes_on_next, system_back, call_leads, WayRuns, way_runs}

-- a direct call has a function other than 0
call_is_some : (d : Env86) (c : Term) (n : ℕ) → is_call c ≡ true → Val86 d c (Number n) → n ≢ 0
call_is_some d (Num m) n h v z = let none : not (0 == 0) ≡ true = subst (λ k. not (k == 0) ≡ true) (sym v ∙ z) h in absurd (cc)
call_is_some d c n h v z = absurd (cc)

abbrev pub is_instruction : Met → ℕ
is_instruction (EndsAt l) = 0
is_instruction (Instruction x rest) = 1
is_instruction Nothing = 0

module _ (walk : Walk) where
  open walk use {keep, sorts, steps, p, lines, a, coded, fetch, reads, w, same_text, choices, e, offsets, s0}

  -- where a way leads, in at least so many steps; or what is asked in the step that follows
  pub data Leaves (direct : Bool) (least room count : ℕ) (d : Env86) (t : State86) (way : Way) (u : State86) : Type 0 where
    arrives : least ≤ count → count ≤ room → Leads86 p (offsets_of lines) d t way u → Leaves direct least room count d t way u
    asks : count + 1 ≤ room → Asks86 p fetch (offsets_of lines) direct t way u → Leaves direct least room count d t way u

  -- it is asked in the step that follows
  abbrev pub IsAsked : (direct : Bool) (least room count : ℕ) (d : Env86) (t : State86) (way : Way) (u : State86) → Leaves direct least room count d t way u → Type 0
  IsAsked direct least room count d t way u (arrives a b c) = ⊥
  IsAsked direct least room count d t way u (asks a b) = Unit {0}

  -- a walk with an outcome
  pub record WalkRuns (least room used : ℕ) (t : State86) (o : Outcome) : Type 0 where
    pub count : ℕ
    pub arrived : State86
    pub runs : RunsOn (machine86 fetch) choices count used t arrived
    pub loads : List Load86
    pub x : Symbolic86
    pub ended : State86
    pub denotes : Denotes e s0 loads x ended
    pub direct : Bool
    pub exit : Exit
    pub is : outcome86 x direct exit ≡ o
    pub way : Way
    pub takes : Takes86 (with_loads e loads) exit way
    pub one : direct ≡ true → exit ≡ One way
    pub leaves : Leaves direct least room count (with_loads e loads) ended way arrived
    pub is_asked : direct ≡ true → IsAsked direct least room count (with_loads e loads) ended way arrived leaves

  -- a step before
  later : (room used : ℕ) (t u : State86) (o : Outcome) → step86 fetch t (choice_at choices used) ≡ Ran u → WalkRuns 0 room (suc used) u o → WalkRuns 1 (suc room) used t o
  later room used t u o h r = record {
    count = suc r.count;
    arrived = r.arrived;
    runs = (u, h, r.runs);
    loads = r.loads;
    x = r.x;
    ended = r.ended;
    denotes = r.denotes;
    direct = r.direct;
    exit = r.exit;
    is = r.is;
    way = r.way;
    takes = r.takes;
    one = r.one;
    leaves = one_more r.leaves;
    is_asked = λ f. still_asked r.leaves (r.is_asked f);
  }
    where
      one_more : Leaves r.direct 0 room r.count (with_loads e r.loads) r.ended r.way r.arrived → Leaves r.direct 1 (suc room) (suc r.count) (with_loads e r.loads) r.ended r.way r.arrived
      one_more (arrives low few l) = arrives (omega arith) (omega (arith, few)) l
      one_more (asks few l) = asks (omega (arith, few)) l

      still_asked : (l : Leaves r.direct 0 room r.count (with_loads e r.loads) r.ended r.way r.arrived) → IsAsked r.direct 0 room r.count (with_loads e r.loads) r.ended r.way r.arrived l → IsAsked r.direct 1 (suc room) (suc r.count) (with_loads e r.loads) r.ended r.way r.arrived (one_more l)
      still_asked (arrives low few l) h = absurd h
      still_asked (asks few l) h = tt

  least_none : (least room used : ℕ) (t : State86) (o : Outcome) → WalkRuns least room used t o → WalkRuns 0 room used t o
  least_none least room used t o r = record {
    count = r.count;
    arrived = r.arrived;
    runs = r.runs;
    loads = r.loads;
    x = r.x;
    ended = r.ended;
    denotes = r.denotes;
    direct = r.direct;
    exit = r.exit;
    is = r.is;
    way = r.way;
    takes = r.takes;
    one = r.one;
    leaves = fewer r.leaves;
    is_asked = λ f. still_asked r.leaves (r.is_asked f);
  }
    where
      fewer : Leaves r.direct least room r.count (with_loads e r.loads) r.ended r.way r.arrived → Leaves r.direct 0 room r.count (with_loads e r.loads) r.ended r.way r.arrived
      fewer (arrives low few l) = arrives (omega arith) few l
      fewer (asks few l) = asks few l

      still_asked : (l : Leaves r.direct least room r.count (with_loads e r.loads) r.ended r.way r.arrived) → IsAsked r.direct least room r.count (with_loads e r.loads) r.ended r.way r.arrived l → IsAsked r.direct 0 room r.count (with_loads e r.loads) r.ended r.way r.arrived (fewer l)
      still_asked (arrives low few l) h = absurd h
      still_asked (asks few l) h = tt

  -- one way, with a last step
  one_step : (loads : List Load86) (x : Symbolic86) (room used : ℕ) (t u : State86) (way : Way) (o : Outcome) → Denotes e s0 loads x t → step86 fetch t (choice_at choices used) ≡ Ran u → Leads86 p (offsets_of lines) (with_loads e loads) t way u → one_way x way ≡ Ok o → WalkRuns 1 (suc room) used t o
  one_step loads x room used t u way o d h leads is = record {
    count = 1;
    arrived = u;
    runs = (u, h, refl);
    loads = loads;
    x = x;
    ended = t;
    denotes = d;
    direct = false;
    exit = One way;
    is = ok_is _ o is;
    way = way;
    takes = refl;
    one = λ f. absurd (cc);
    leaves = arrives (omega arith) (omega arith) leads;
    is_asked = λ f. absurd (cc);
  }

  -- one way, in which something is asked
  asked : (loads : List Load86) (x : Symbolic86) (room used : ℕ) (t : State86) (direct : Bool) (way : Way) (o : Outcome) → Denotes e s0 loads x t → Asks86 p fetch (offsets_of lines) direct t way t → outcome86 x direct (One way) ≡ o → WalkRuns 1 (suc room) used t o
  asked loads x room used t direct way o d asking is = record {
    count = 0;
    arrived = t;
    runs = refl;
    loads = loads;
    x = x;
    ended = t;
    denotes = d;
    direct = direct;
    exit = One way;
    is = is;
    way = way;
    takes = refl;
    one = λ f. refl;
    leaves = asks (omega arith) asking;
    is_asked = λ f. tt;
  }

  -- what goes on with the walk behind an instruction or a label
  abbrev Again : ℕ → ℕ → Outcome → Type 0
  Again room used o = (loads : List Load86) (y : Symbolic86) (u : State86) (xs : List Stmt86) → Denotes e s0 loads y u → AreSorted86 y → Position (statements lines) xs u.ip → walk_through w room (met w xs) y ≡ Ok o → WalkRuns 0 room used u o

  jumps_to : (loads : List Load86) (x : Symbolic86) (room used : ℕ) (t : State86) (l : Label) (o : Outcome) → Denotes e s0 loads x t → AreSorted86 x → step86 fetch t (choice_at choices used) ≡ Ran (record t { ip = place_of (statements lines) l }) → offset_of (statements lines) l ≡ Some (place_of (statements lines) l) → Again room (suc used) o → jump_to w (one_way x) (λ xs. walk_through w room (met w xs) x) l ≡ Ok o → WalkRuns 1 (suc room) used t o
  jumps_to loads x room used t l o d so h there again j =
      let n = place_of (statements lines) l in
      ⊎_elim
      (λ f. one_step loads x room used t (record t { ip = n }) f.0 o d h (label_leads walk (with_loads e loads) l f.0 t n f.1 there) f.2)
      (λ f.
      let b = behind_is (statements lines) f.0 l (ap (λ s. after_label s l) (sym same_text) ∙ f.1) in
      let same : b.0 ≡ n = same_Some b.0 n (sym b.1 ∙ there) in
      later room used t (record t { ip = n }) o h (again loads x (record t { ip = n }) f.0 (stands e s0 loads x t n d) so (subst (Position (statements lines) f.0) same b.2) f.2))
      (jump_is w (one_way x) (λ xs. walk_through w room (met w xs) x) l o j)

  -- an offset that is loaded
  code_value : (d : Env86) (q : Place) (n : ℕ) → n < 0x10000 → d.offset q ≡ Some n → Val86 d (code_word q) (Number n)
  code_value d q n lt o =
      let high_small : n / 256 < 256 = omega (arith, lt) in
      let low_small : n % 256 < 256 = omega arith in
      let whole : n ≡ 256 * (n / 256) + n % 256 = omega arith in
      (keep.on_8086 d).join (Code q true) (Code q false) (Number n) (tt, refl) (tt, refl) (n / 256, n % 256, high_small, low_small, (n, o, refl), (n, o, refl), whole)

  code_sorted : (q : Place) → IsMadeAs is_word (code_word q)
  code_sorted q = sorts.join (Code q true) (Code q false) (tt, refl) (tt, refl)

  offset_value : (loads : List Load86) (l : Label) (n : ℕ) → n < 0x10000 → offset_of (statements lines) l ≡ Some n → IsMadeAs is_word (offset_term l) × Val86 (with_loads e loads) (offset_term l) (Number n)
  offset_value loads (At b) n lt h = (code_sorted (AtPlace b), code_value (with_loads e loads) (AtPlace b) n lt (offsets (AtPlace b) ∙ offsets_are lines (At b) ∙ h))
  offset_value loads (Skip b) n lt h = ((tt, refl), tt)
  offset_value loads (User b) n lt h = ((tt, refl), tt)
  offset_value loads Sys n lt h = ((tt, refl), tt)
  offset_value loads End n lt h = (code_sorted EndPlace, code_value (with_loads e loads) EndPlace n lt (offsets EndPlace ∙ offsets_are lines End ∙ h))

  -- an instruction that goes on
  runs_instruction : (loads : List Load86) (x : Symbolic86) (room used : ℕ) (t : State86) (i : Instr86) (rest : List Stmt86) (o : Outcome) → goes_on i ≡ true → Denotes e s0 loads x t → AreSorted86 x → Position (statements lines) (Run i ∷ rest) t.ip → Again room (suc used) o → walk_through w room (met w rest) (effect86 x i) ≡ Ok o → WalkRuns 1 (suc room) used t o
  runs_instruction loads x room used t i rest o g d so q again h =
      let c = choice_at choices used in
      let code = coded_here q.before (Run i) rest (subst StatementsAreCoded q.is coded) in
      let size = length (enc86 i) in
      let u = effect i (past t size) c in
      let r = row keep sorts e s0 loads x (past t size) i c (stands e s0 loads x t (t.ip + size) d) (has_sorts x so) code g in
      let step = steps_on lines a fetch reads i rest t c q g (stack_is walk loads x t d) in
      let at = keeps_ip i (past t size) c g in
      later room used t u o step (again r.loads (effect86 x i) u rest r.denotes (steps.effect86 x i code so) (subst (Position (statements lines) rest) (sym at) (position_next (statements lines) (Run i) rest t.ip q)) h)

  runs_offset : (loads : List Load86) (x : Symbolic86) (room used : ℕ) (t : State86) (r : Reg16) (l : Label) (rest : List Stmt86) (o : Outcome) → Denotes e s0 loads x t → AreSorted86 x → Position (statements lines) (MovOffset r l ∷ rest) t.ip → Again room (suc used) o → walk_through w room (met w rest) (with_reg16 x r (offset_term l)) ≡ Ok o → WalkRuns 1 (suc room) used t o
  runs_offset loads x room used t r l rest o d so q again h =
      let c = choice_at choices used in
      let n = place_of (statements lines) l in
      let there = names walk (MovOffset r l) rest t.ip l refl q in
      let lt = lands_small walk l there in
      let v = offset_value loads l n lt there in
      let i = MovNum16 r n in
      let u = effect i (past t 3) c in
      let step = steps_as lines a fetch reads (MovOffset r l) rest t i c q refl refl (stack_is walk loads x t d) in
      let at = keeps_ip i (past t 3) c refl in
      later room used t u o step (again loads (with_reg16 x r (offset_term l)) u rest (sets_word keep sorts e s0 loads x (past t 3) r (offset_term l) n (stands e s0 loads x t (t.ip + 3) d) lt v.0 v.1) (steps.offset x r l so) (subst (Position (statements lines) rest) (sym at) (position_next (statements lines) (MovOffset r l) rest t.ip q)) h)

  -- what asks: the machine asks, whatever the choice gives
  asks_system : (loads : List Load86) (x : Symbolic86) (t : State86) (rest : List Stmt86) → Denotes e s0 loads x t → Position (statements lines) (Run Int224 ∷ rest) t.ip → is_call x.held.c ≡ true → Asks86 p fetch (offsets_of lines) true t (AskSystem (back_from_system w rest)) t
  asks_system loads x t rest d q called =
      let next = position_next (statements lines) (Run Int224) rest t.ip q in
      (t.ip + 2, refl, call_is_some (with_loads e loads) x.held.c t.regs.cl called (d.in_regs Cl), system_back walk rest (t.ip + 2) next, λ c. steps_as lines a fetch reads (Run Int224) rest t Int224 c q refl refl (stack_is walk loads x t d))

  asks_in : (loads : List Load86) (x : Symbolic86) (t : State86) (port : ℕ) (rest : List Stmt86) → Denotes e s0 loads x t → Position (statements lines) (Run (InAl port) ∷ rest) t.ip → (comes_next w rest || not w.goes_on) ≡ true → Asks86 p fetch (offsets_of lines) false t (In port (AtPlace w.after)) t
  asks_in loads x t port rest d q h =
      let next = position_next (statements lines) (Run (InAl port)) rest t.ip q in
      (t.ip + 2, goes_on_next walk rest (t.ip + 2) next h, λ c. steps_as lines a fetch reads (Run (InAl port)) rest t (InAl port) c q refl refl (stack_is walk loads x t d))

  asks_out : (loads : List Load86) (x : Symbolic86) (t : State86) (port : ℕ) (rest : List Stmt86) → Denotes e s0 loads x t → Position (statements lines) (Run (OutAl port) ∷ rest) t.ip → (comes_next w rest || not w.goes_on) ≡ true → Asks86 p fetch (offsets_of lines) false t (Out port (AtPlace w.after)) t
  asks_out loads x t port rest d q h =
      let next = position_next (statements lines) (Run (OutAl port)) rest t.ip q in
      (t.ip + 2, goes_on_next walk rest (t.ip + 2) next h, λ c. steps_as lines a fetch reads (Run (OutAl port)) rest t (OutAl port) c q refl refl (stack_is walk loads x t d))

  -- an instruction, by what it is
  runs_any : (loads : List Load86) (x : Symbolic86) (room used : ℕ) (t : State86) (i : Instr86) (rest : List Stmt86) (o : Outcome) → Denotes e s0 loads x t → AreSorted86 x → Position (statements lines) (Run i ∷ rest) t.ip → Again room (suc used) o → run_by w (λ y xs. walk_through w room (met w xs) y) rest x i ≡ Ok o → WalkRuns 1 (suc room) used t o
  runs_any loads x room used t Ret rest o d so q again h = one_step loads x room used t _ (return_way x) o d (return_steps walk rest t (choice_at choices used) q (stack_is walk loads x t d)) (return_leads walk loads x t d) h
  runs_any loads x room used t JmpBx rest o d so q again h = one_step loads x room used t _ (bx_way x) o d (bx_steps walk rest t (choice_at choices used) q (stack_is walk loads x t d)) (bx_leads walk loads x t d) h
  runs_any loads x room used t Int224 rest o d so q again h =
      let f = cond_is (is_call x.held.c) _ o h in
      asked loads x room used t true (AskSystem (back_from_system w rest)) o d (asks_system loads x t rest d q f.0) (ok_is _ o f.1)
  runs_any loads x room used t (InAl port) rest o d so q again h =
      let f = cond_is (comes_next w rest || not w.goes_on) _ o h in
      asked loads x room used t false (In port (AtPlace w.after)) o d (asks_in loads x t port rest d q f.0) (ok_is _ o f.1)
  runs_any loads x room used t (OutAl port) rest o d so q again h =
      let f = cond_is (comes_next w rest || not w.goes_on) _ o h in
      asked loads x room used t false (Out port (AtPlace w.after)) o d (asks_out loads x t port rest d q f.0) (ok_is _ o f.1)
  runs_any loads x room used t MovSsAx rest o d so q again h = absurd (err_is_not Form o h)
  runs_any loads x room used t (Jcc j k) rest o d so q again h = absurd (err_is_not Form o h)
  runs_any loads x room used t (JmpNear k) rest o d so q again h = absurd (err_is_not Form o h)
  runs_any loads x room used t (JmpShort k) rest o d so q again h = absurd (err_is_not Form o h)
  runs_any loads x room used t (CallNear k) rest o d so q again h = absurd (err_is_not Form o h)
  runs_any loads x room used t i rest o d so q again h = runs_instruction loads x room used t i rest o refl d so q again h

  -- a conditional jump, and the way that is taken
  two : (loads : List Load86) (x : Symbolic86) (room used : ℕ) (t : State86) (j : Jump) (l : Label) (rest : List Stmt86) (o : Outcome) → Denotes e s0 loads x t → Position (statements lines) (JccTo j l ∷ rest) t.ip → two_ways w room rest x j l ≡ Ok o → WalkRuns 1 (suc room) used t o
  two loads x room used t j l rest o d q h = by_flag (jumps j t.flags) refl
    where
      n : ℕ
      n = place_of (statements lines) l

      straight : (way : Way) × (way_from w x room (met w rest) ≡ Ok way) × (try_then (jump_to w Ok (λ xs. way_from w x room (met w xs)) l) (λ jumped. Ok (outcome86 x false (Two (flag_of_jump x.held j) (jumps_at j) jumped way))) ≡ Ok o)
      straight = then_is (way_from w x room (met w rest)) _ o h

      jumped : (way : Way) × (jump_to w Ok (λ xs. way_from w x room (met w xs)) l ≡ Ok way) × (◌≡◌ {A = Result Outcome Reason} (Ok (outcome86 x false (Two (flag_of_jump x.held j) (jumps_at j) way straight.0))) (Ok o))
      jumped = then_is (jump_to w Ok (λ xs. way_from w x room (met w xs)) l) _ o straight.2

      exit : Exit
      exit = Two (flag_of_jump x.held j) (jumps_at j) jumped.0 straight.0

      step : step86 fetch t (choice_at choices used) ≡ Ran (cond (jumps j t.flags) (record t { ip = n }) (past t 2))
      step = condition_steps walk j l rest t (choice_at choices used) q (stack_is walk loads x t d)

      there : offset_of (statements lines) l ≡ Some n
      there = names walk (JccTo j l) rest t.ip l refl q

      takes : (b : Bool) → jumps j t.flags ≡ b → (way : Way) → way ≡ cond b jumped.0 straight.0 → Takes86 (with_loads e loads) exit way
      takes b f way is =
          let k = jumps_where j t.flags in
          (k.0, k.1 (with_loads e loads) x.held d.in_flags, is ∙ ap (λ c. cond c jumped.0 straight.0) (sym f ∙ k.2))

      by_way : (u : State86) (way : Way) → step86 fetch t (choice_at choices used) ≡ Ran u → Takes86 (with_loads e loads) exit way → WayRuns walk loads x room (suc used) u way → WalkRuns 1 (suc room) used t o
      by_way u way s tk r =
          let few = r.few in
          record {
            count = suc r.count;
            arrived = r.arrived;
            runs = (u, s, r.runs);
            loads = loads;
            x = x;
            ended = r.ended;
            denotes = r.denotes;
            direct = false;
            exit = exit;
            is = ok_is _ o jumped.2;
            way = way;
            takes = tk;
            one = λ f. absurd (cc);
            leaves = arrives (omega arith) (omega (arith, few)) r.leads;
            is_asked = λ f. absurd (cc);
          }

      label_way : (f : (way : Way) × (way_to l ≡ Some way) × (◌≡◌ {A = Result Way Reason} (Ok way) (Ok jumped.0))) → WayRuns walk loads x room (suc used) (record t { ip = n }) jumped.0
      label_way f = record {
        count = 0;
        few = omega arith;
        arrived = record t { ip = n };
        runs = refl;
        ended = t;
        denotes = d;
        leads = subst (λ v. Leads86 p (offsets_of lines) (with_loads e loads) t v (record t { ip = n })) (ok_is f.0 jumped.0 f.2) (label_leads walk (with_loads e loads) l f.0 t n f.1 there);
      }

      behind_way : (f : (xs : List Stmt86) × (after_label w.text l ≡ Some xs) × (way_from w x room (met w xs) ≡ Ok jumped.0)) → WayRuns walk loads x room (suc used) (record t { ip = n }) jumped.0
      behind_way f =
          let b = behind_is (statements lines) f.0 l (ap (λ s. after_label s l) (sym same_text) ∙ f.1) in
          let same : b.0 ≡ n = same_Some b.0 n (sym b.1 ∙ there) in
          way_runs walk loads x room (suc used) (met w f.0) (record t { ip = n }) jumped.0 (stands e s0 loads x t n d) (met_at w (statements lines) f.0 n a.once (subst (Position (statements lines) f.0) same b.2)) f.2

      by_flag : (b : Bool) → jumps j t.flags ≡ b → WalkRuns 1 (suc room) used t o
      by_flag true f = by_way (record t { ip = n }) jumped.0 (step ∙ ap (λ c. Ran (cond c (record t { ip = n }) (past t 2))) f) (takes true f jumped.0 refl) (⊎_elim label_way behind_way (jump_is w Ok (λ xs. way_from w x room (met w xs)) l jumped.0 jumped.1))
      by_flag false f = by_way (past t 2) straight.0 (step ∙ ap (λ c. Ran (cond c (record t { ip = n }) (past t 2))) f) (takes false f straight.0 refl)
          (way_runs walk loads x room (suc used) (met w rest) (past t 2) straight.0 (stands e s0 loads x t (t.ip + 2) d) (met_at w (statements lines) rest (t.ip + 2) a.once (position_next (statements lines) (JccTo j l) rest t.ip q)) straight.1)

  -- a statement, by what it is
  runs_statement : (loads : List Load86) (x : Symbolic86) (room used : ℕ) (t : State86) (s : Stmt86) (rest : List Stmt86) (o : Outcome) → Denotes e s0 loads x t → AreSorted86 x → Position (statements lines) (s ∷ rest) t.ip → Again room (suc used) o → walk_by w room (λ y xs. walk_through w room (met w xs) y) rest x s ≡ Ok o → WalkRuns 1 (suc room) used t o
  runs_statement loads x room used t (Run i) rest o d so q again h = runs_any loads x room used t i rest o d so q again h
  runs_statement loads x room used t (MovOffset r l) rest o d so q again h = runs_offset loads x room used t r l rest o d so q again h
  runs_statement loads x room used t (Jmp l) rest o d so q again h = jumps_to loads x room used t l o d so (jump_steps walk l rest t (choice_at choices used) q (stack_is walk loads x t d)) (names walk (Jmp l) rest t.ip l refl q) again h
  runs_statement loads x room used t (Jmps l) rest o d so q again h = jumps_to loads x room used t l o d so (short_steps walk l rest t (choice_at choices used) q (stack_is walk loads x t d)) (names walk (Jmps l) rest t.ip l refl q) again h
  runs_statement loads x room used t (JccTo j l) rest o d so q again h = two loads x room used t j l rest o d q h
  runs_statement loads x room used t (CallTo l) rest o d so q again h =
      let f = then_is (call_way w rest l) (one_way x) o h in
      one_step loads x room used t _ f.0 o d (call_steps walk l rest t (choice_at choices used) q (stack_is walk loads x t d)) (call_leads walk (with_loads e loads) rest l f.0 t q f.1) f.2
  runs_statement loads x room used t s rest o d so q again h = absurd (err_is_not Form o h)

  pub walk_runs : (loads : List Load86) (x : Symbolic86) (room used : ℕ) (m : Met) (t : State86) (o : Outcome) → Denotes e s0 loads x t → AreSorted86 x → MetAt (statements lines) t.ip m → walk_through w room m x ≡ Ok o → WalkRuns (is_instruction m) room used t o
  walk_runs loads x room used (EndsAt l) t o d so q h =
      let f = end_is (one_way x) l o h in
      record {
        count = 0;
        arrived = t;
        runs = refl;
        loads = loads;
        x = x;
        ended = t;
        denotes = d;
        direct = false;
        exit = One f.0;
        is = ok_is _ o f.2;
        way = f.0;
        takes = refl;
        one = λ g. refl;
        leaves = arrives (omega arith) (omega arith) (label_leads walk (with_loads e loads) l f.0 t t.ip f.1 q);
        is_asked = λ g. absurd (cc);
      }
  walk_runs loads x room used Nothing t o d so q h = absurd (err_is_not Form o h)
  walk_runs loads x zero used (Instruction s rest) t o d so q h = absurd (err_is_not Length o h)
  walk_runs loads x (suc room) used (Instruction s rest) t o d so q h =
      runs_statement loads x room used t s rest o d so q
      (λ ls y u xs du su qu hu. least_none (is_instruction (met w xs)) room (suc used) u o (walk_runs ls y room (suc used) (met w xs) u o du su (met_at w (statements lines) xs u.ip a.once qu) hu)) h
