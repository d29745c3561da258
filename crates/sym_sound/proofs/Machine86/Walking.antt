-- The walk: each of its instructions is one step of the machine, up to where the taken way leads.
use Rattle.std.proofs.Common.{◌≡◌, ℕ, zero, suc, ◌+◌, ◌<◌, ◌≤◌, Bool, true, false, cond, not, List, [], ◌∷◌, Option, Some, None, Result, Ok, Err, refl, sym, ap, subst, ◌∙◌, arith, ◌⊎◌, inl, inr, ⊎_elim}
use Rattle.std.specs.Prelude.{◌||◌}
use Rattle.std.proofs.lemmas.Option.{same_Some}
use Rattle.cells.specs.declared.Place.{Place}
use Rattle.cells.specs.declared.Place.TheVariants.{At as AtPlace, Exit as EndPlace}
use Rattle.i86.specs.declared.Reg8.TheVariants.{Bh, Bl}
use Rattle.i86.specs.declared.Jump.{Jump}
use Rattle.i86.specs.declared.Jump.TheVariants.{Jb, Jnb, Jz, Jnz, Js, Jns, Jp, Jnp}
use Rattle.i86.specs.declared.Instr86.{Instr86}
use Rattle.i86.specs.declared.Instr86.TheVariants.{Jcc, JmpNear, JmpShort, JmpBx, CallNear, Ret}
use Rattle.i86.specs.Code.{ReadsCode}
use Rattle.dialogue.proofs.Tried.{ok_is, err_is_not}
use Rattle.base.specs.Arithmetic.{as_bit}
use Rattle.dialogue.specs.Run.{Ran, choice_at}
use Rattle.dialogue.specs.Words.{word, wrap}
use Rattle.dialogue.specs.ByteMemory.{word_at}
use Rattle.asm86_line_types.specs.declared.line.Label.{Label}
use Rattle.asm86_line_types.specs.declared.line.Label.TheVariants.{At, Skip, User, Sys, End}
use Rattle.asm86_line_types.specs.declared.line.Stmt86.{Stmt86}
use Rattle.asm86_line_types.specs.declared.line.Stmt86.TheVariants.{Run, Jmp, Jmps, Jcc as JccTo, Call as CallTo}
use Rattle.asm86_line_types.specs.declared.line.Line86.{Line86}
use Rattle.asm86_line_types.specs.Layout.{offset_of, place_of, distance16, distance8}
use Rattle.asm86_line_types.specs.Image.{Assembles, image_of, statements, AllDefined, used_in}
use Rattle.asm80_types.specs.Program.{Program, is_start}
use Rattle.cpu86.specs.State.{State86, Flags86, push}
use Rattle.cpu86.specs.Flags.{jumps}
use Rattle.cpu86.specs.Step.{step86, machine86}
use Rattle.sym_terms.specs.Term.{High, Low, Loaded16, same_bool}
use Rattle.sym_terms.specs.Values86.{Env86, Load86, Number, Val86}
use Rattle.sym_terms.specs.Laws.{MadeTermsKeepValues, MadeTermsHaveSorts}
use Rattle.sym_block_def.specs.declared.reason.Reason.{Reason}
use Rattle.sym_block_def.specs.declared.reason.Reason.TheVariants.{Length, Form}
use Rattle.sym_block_def.specs.Outcome.{Way, Held}
use Rattle.sym_block_def.specs.Symbolic86.{Symbolic86}
use Rattle.sym_block_def.specs.Walk86.{Surroundings, after_label, way_to, Met, EndsAt, Instruction, Nothing, met, comes_next, back_from_call, back_from_system, call_way, return_way, bx_way, go_behind, walk_jump, jump_to, end_at, way_by, way_from, flag_of_jump, jumps_at}
use Rattle.sym_block_def.specs.Sorts.{AreSorted86, StatementsAreCoded, StepsKeepSorts}
use Rattle.sym_block_def.specs.Stands.{label_of}
use Rattle.simulation_def.specs.Steps.{RunsOn}
use Rattle.simulation_def.specs.Runs86.{with_loads, FlagsHold86, ComesBackTo, GoesOnAt, Leads86, offsets_of}
use Rattle.sym_sound.proofs.Machine86.Words.{jump_lands}
use Rattle.sym_sound.proofs.Machine86.Denoting.{Denotes, word_loaded, stands}
use Rattle.sym_sound.proofs.Machine86.Words86.{HasSorts}
use Rattle.sym_sound.proofs.Machine86.Positions.{Position, position_next, offsets_are, behind_is, follows_is, MetAt, met_at, ends_within, defined_here, reaches_here, place_is, offset_within}
use Rattle.sym_sound.proofs.Machine86.Stepping.{past, short_lands, steps_as}

pub has_sorts : (x : Symbolic86) → AreSorted86 x → HasSorts x
has_sorts x o = record { held = o.held; ah = o.ah; si = o.si; sp = o.sp }

pub cond_is : {A : Type 0} → (b : Bool) (x : Result A Reason) (y : A) → cond b x (Err Form) ≡ Ok y → (b ≡ true) × (x ≡ Ok y)
cond_is true x y e = (refl, e)
cond_is false x y e = absurd (err_is_not Form y e)

-- a jump to a label ends its way, or goes on behind the label
pub jump_is : {A : Type 0} → (w : Surroundings) (ends : Way → Result A Reason) (on : List Stmt86 → Result A Reason) (l : Label) (y : A) → jump_to w ends on l ≡ Ok y → ((way : Way) × (way_to l ≡ Some way) × (ends way ≡ Ok y)) ⊎ ((xs : List Stmt86) × (after_label w.text l ≡ Some xs) × (on xs ≡ Ok y))
jump_is {A} w ends on l y e = by_way (way_to l) refl e
  where
    by_behind : (o : Option (List Stmt86)) → after_label w.text l ≡ o → go_behind on o ≡ Ok y → (xs : List Stmt86) × (after_label w.text l ≡ Some xs) × (on xs ≡ Ok y)
    by_behind None h f = absurd (err_is_not Form y f)
    by_behind (Some xs) h f = (xs, h, f)

    by_way : (o : Option Way) → way_to l ≡ o → walk_jump ends (go_behind on (after_label w.text l)) o ≡ Ok y → ((way : Way) × (way_to l ≡ Some way) × (ends way ≡ Ok y)) ⊎ ((xs : List Stmt86) × (after_label w.text l ≡ Some xs) × (on xs ≡ Ok y))
    by_way (Some way) h f = inl (way, h, f)
    by_way None h f = inr (by_behind (after_label w.text l) refl f)

pub end_is : {A : Type 0} → (ends : Way → Result A Reason) (l : Label) (y : A) → end_at ends l ≡ Ok y → (way : Way) × (way_to l ≡ Some way) × (ends way ≡ Ok y)
end_is {A} ends l y e = by_way (way_to l) refl e
  where
    by_way : (o : Option Way) → way_to l ≡ o → walk_jump ends (Err Form) o ≡ Ok y → (way : Way) × (way_to l ≡ Some way) × (ends way ≡ Ok y)
    by_way (Some way) h f = (way, h, f)
    by_way None h f = absurd (err_is_not Form y f)

same_as : (b : Bool) → b ≡ same_bool b true
same_as true = refl
same_as false = refl

not_as : (b : Bool) → not b ≡ same_bool b false
not_as true = refl
not_as false = refl

-- a jump is taken where its flag has its value
pub jumps_where : (j : Jump) (f : Flags86) → (b : Bool) × (flag : (e : Env86) (x : Held) → FlagsHold86 e x f → Val86 e (flag_of_jump x j) (Number (as_bit b))) × (jumps j f ≡ same_bool b (jumps_at j))
jumps_where Jb f = (f.cf, λ e x h. h.4, same_as f.cf)
jumps_where Jnb f = (f.cf, λ e x h. h.4, not_as f.cf)
jumps_where Jz f = (f.zf, λ e x h. h.1, same_as f.zf)
jumps_where Jnz f = (f.zf, λ e x h. h.1, not_as f.zf)
jumps_where Js f = (f.sf, λ e x h. h.0, same_as f.sf)
jumps_where Jns f = (f.sf, λ e x h. h.0, not_as f.sf)
jumps_where Jp f = (f.pf, λ e x h. h.3, same_as f.pf)
jumps_where Jnp f = (f.pf, λ e x h. h.3, not_as f.pf)

-- A walk of a text and the machine that runs it: the laws of terms, the text with what reads it, the surroundings of the walk, the
-- choices, and the state in which the machine begins.
pub record Walk : Type 0 where
  pub keep : MadeTermsKeepValues
  pub sorts : MadeTermsHaveSorts
  pub steps : StepsKeepSorts
  pub p : Program
  pub lines : List Line86
  pub a : Assembles lines
  pub coded : StatementsAreCoded (statements lines)
  pub fetch : ℕ → Option Instr86
  pub reads : ReadsCode (image_of lines).code fetch
  pub w : Surroundings
  pub same_text : w.text ≡ statements lines
  pub same_start : w.goes_on ≡ is_start p w.after
  pub choices : List ℕ
  pub e : Env86
  pub offsets : (q : Place) → e.offset q ≡ offsets_of lines (label_of q)
  pub s0 : State86
  pub segments : s0.ss ≡ s0.ds

module _ (walk : Walk) where
  open walk use {steps, p, lines, a, fetch, reads, w, same_text, same_start, choices, e, s0, segments}

  -- a label at its offset
  at_offset : (l : Label) (n : ℕ) → offset_of (statements lines) l ≡ Some n → offsets_of lines l ≡ Some n
  at_offset l n h = offsets_are lines l ∙ h

  pub stack_is : (loads : List Load86) (x : Symbolic86) (t : State86) → Denotes e s0 loads x t → t.ss ≡ t.ds
  stack_is loads x t d = d.ss ∙ segments ∙ sym d.ds

  -- the label that a statement at a position names
  pub names : (x : Stmt86) (rest : List Stmt86) (at : ℕ) (l : Label) → used_in x ≡ l ∷ [] → Position (statements lines) (x ∷ rest) at → offset_of (statements lines) l ≡ Some (place_of (statements lines) l)
  names x rest at l is q =
      let all = defined_here (statements lines) q.before x rest (subst (Rattle.asm86_line_types.specs.Image.UsesDefined (statements lines)) q.is a.defined) in
      let one = subst (AllDefined (statements lines)) is all in
      place_is (statements lines) l one.0

  pub lands_small : (l : Label) → offset_of (statements lines) l ≡ Some (place_of (statements lines) l) → place_of (statements lines) l < 0x10000
  lands_small l h = offset_within (statements lines) l (place_of (statements lines) l) a.small h

  -- steps that go elsewhere

  pub jump_steps : (l : Label) (rest : List Stmt86) (t : State86) (choice : ℕ) → Position (statements lines) (Jmp l ∷ rest) t.ip → t.ss ≡ t.ds → step86 fetch t choice ≡ Ran (record t { ip = place_of (statements lines) l })
  jump_steps l rest t choice q seg =
      let to = place_of (statements lines) l in
      let small = lands_small l (names (Jmp l) rest t.ip l refl q) in
      let within = ends_within (statements lines) (Jmp l) rest t.ip q a.small in
      steps_as lines a fetch reads (Jmp l) rest t (JmpNear (distance16 (t.ip + 3) to)) choice q refl refl seg ∙ ap (λ n. Ran (record t { ip = n })) (jump_lands (t.ip + 3) to within small)

  pub short_steps : (l : Label) (rest : List Stmt86) (t : State86) (choice : ℕ) → Position (statements lines) (Jmps l ∷ rest) t.ip → t.ss ≡ t.ds → step86 fetch t choice ≡ Ran (record t { ip = place_of (statements lines) l })
  short_steps l rest t choice q seg =
      let to = place_of (statements lines) l in
      let small = lands_small l (names (Jmps l) rest t.ip l refl q) in
      let within = ends_within (statements lines) (Jmps l) rest t.ip q a.small in
      let same : 0 + Rattle.asm86_line_types.specs.Layout.sizes_of q.before ≡ t.ip = let is = q.at_is in omega (arith, is) in
      let reach = subst (λ n. Rattle.asm86_line_types.specs.Image.short_reaches (place_of (statements lines)) n (Jmps l) ≡ true) same (reaches_here (place_of (statements lines)) 0 q.before (Jmps l) rest (subst (Rattle.asm86_line_types.specs.Image.AllReach (place_of (statements lines)) 0) q.is a.short)) in
      steps_as lines a fetch reads (Jmps l) rest t (JmpShort (distance8 (t.ip + 2) to)) choice q refl refl seg ∙ ap (λ n. Ran (record t { ip = n })) (short_lands (t.ip + 2) to within small reach)

  pub condition_steps : (j : Jump) (l : Label) (rest : List Stmt86) (t : State86) (choice : ℕ) → Position (statements lines) (JccTo j l ∷ rest) t.ip → t.ss ≡ t.ds → step86 fetch t choice ≡ Ran (cond (jumps j t.flags) (record t { ip = place_of (statements lines) l }) (past t 2))
  condition_steps j l rest t choice q seg =
      let to = place_of (statements lines) l in
      let small = lands_small l (names (JccTo j l) rest t.ip l refl q) in
      let within = ends_within (statements lines) (JccTo j l) rest t.ip q a.small in
      let same : 0 + Rattle.asm86_line_types.specs.Layout.sizes_of q.before ≡ t.ip = let is = q.at_is in omega (arith, is) in
      let reach = subst (λ n. Rattle.asm86_line_types.specs.Image.short_reaches (place_of (statements lines)) n (JccTo j l) ≡ true) same (reaches_here (place_of (statements lines)) 0 q.before (JccTo j l) rest (subst (Rattle.asm86_line_types.specs.Image.AllReach (place_of (statements lines)) 0) q.is a.short)) in
      steps_as lines a fetch reads (JccTo j l) rest t (Jcc j (distance8 (t.ip + 2) to)) choice q refl refl seg ∙ ap (λ n. Ran (cond (jumps j t.flags) (record t { ip = n }) (past t 2))) (short_lands (t.ip + 2) to within small reach)

  pub call_steps : (l : Label) (rest : List Stmt86) (t : State86) (choice : ℕ) → Position (statements lines) (CallTo l ∷ rest) t.ip → t.ss ≡ t.ds → step86 fetch t choice ≡ Ran (record (push t (t.ip + 3)) { ip = place_of (statements lines) l })
  call_steps l rest t choice q seg =
      let to = place_of (statements lines) l in
      let small = lands_small l (names (CallTo l) rest t.ip l refl q) in
      let within = ends_within (statements lines) (CallTo l) rest t.ip q a.small in
      steps_as lines a fetch reads (CallTo l) rest t (CallNear (distance16 (t.ip + 3) to)) choice q refl refl seg ∙ ap (λ n. Ran (record (push t (t.ip + 3)) { ip = n })) (jump_lands (t.ip + 3) to within small)

  pub return_steps : (rest : List Stmt86) (t : State86) (choice : ℕ) → Position (statements lines) (Run Ret ∷ rest) t.ip → t.ss ≡ t.ds → step86 fetch t choice ≡ Ran (record t { ip = word_at t.mem t.sp; sp = wrap (t.sp + 2) })
  return_steps rest t choice q seg = steps_as lines a fetch reads (Run Ret) rest t Ret choice q refl refl seg

  pub bx_steps : (rest : List Stmt86) (t : State86) (choice : ℕ) → Position (statements lines) (Run JmpBx ∷ rest) t.ip → t.ss ≡ t.ds → step86 fetch t choice ≡ Ran (record t { ip = word t.regs.bh t.regs.bl })
  bx_steps rest t choice q seg = steps_as lines a fetch reads (Run JmpBx) rest t JmpBx choice q refl refl seg

  -- where ways lead

  pub label_leads : (d : Env86) (l : Label) (way : Way) (t : State86) (n : ℕ) → way_to l ≡ Some way → offset_of (statements lines) l ≡ Some n → Leads86 p (offsets_of lines) d t way (record t { ip = n })
  label_leads d (At b) way t n h o = subst (λ v. Leads86 p (offsets_of lines) d t v (record t { ip = n })) (same_Some _ _ h) (n, at_offset (At b) n o, refl)
  label_leads d Sys way t n h o = subst (λ v. Leads86 p (offsets_of lines) d t v (record t { ip = n })) (same_Some _ _ h) (n, at_offset Sys n o, refl)
  label_leads d End way t n h o = subst (λ v. Leads86 p (offsets_of lines) d t v (record t { ip = n })) (same_Some _ _ h) (n, at_offset End n o, refl)
  label_leads d (Skip b) way t n h o = absurd (cc)
  label_leads d (User b) way t n h o = absurd (cc)

  pub return_leads : (loads : List Load86) (x : Symbolic86) (t : State86) → Denotes e s0 loads x t → Leads86 p (offsets_of lines) (with_loads e loads) t (return_way x) (record t { ip = word_at t.mem t.sp; sp = wrap (t.sp + 2) })
  return_leads loads x t d =
      let n = word_at t.mem t.sp in
      let loaded = word_loaded e s0 loads x t n d in
      inr (record { word = n; popped = refl; is_high = ap (λ k. High (Loaded16 k)) (sym d.count); is_low = ap (λ k. Low (Loaded16 k)) (sym d.count); high = (n, loaded, refl); low = (n, loaded, refl); leads = refl })

  pub bx_leads : (loads : List Load86) (x : Symbolic86) (t : State86) → Denotes e s0 loads x t → Leads86 p (offsets_of lines) (with_loads e loads) t (bx_way x) (record t { ip = word t.regs.bh t.regs.bl })
  bx_leads loads x t d = inl (record { high_byte = t.regs.bh; low_byte = t.regs.bl; high_fits = d.is_state.regs Bh; low_fits = d.is_state.regs Bl; high = d.in_regs Bh; low = d.in_regs Bl; leads = refl })

  -- the place after the block comes next
  next_is : (rest : List Stmt86) (at : ℕ) → Position (statements lines) rest at → comes_next w rest ≡ true → offsets_of lines (At w.after) ≡ Some at
  next_is rest at q h = at_offset (At w.after) at (follows_is (statements lines) rest (At w.after) at a.once q h)

  call_back : (rest : List Stmt86) (at : ℕ) → Position (statements lines) rest at → ComesBackTo (offsets_of lines) (back_from_call w rest) at
  call_back rest at q = by_next (comes_next w rest) refl
    where
      by_next : (b : Bool) → comes_next w rest ≡ b → ComesBackTo (offsets_of lines) (cond b (AtPlace w.after) EndPlace) at
      by_next true h = next_is rest at q h
      by_next false h = tt

  pub goes_on_next : (rest : List Stmt86) (at : ℕ) → Position (statements lines) rest at → (comes_next w rest || not w.goes_on) ≡ true → GoesOnAt p (offsets_of lines) (AtPlace w.after) at
  goes_on_next rest at q h start = by_next (comes_next w rest) refl (subst (λ b. (comes_next w rest || not b) ≡ true) (same_start ∙ start) h)
    where
      by_next : (b : Bool) → comes_next w rest ≡ b → (b || false) ≡ true → offsets_of lines (At w.after) ≡ Some at
      by_next true f g = next_is rest at q f
      by_next false f g = absurd (cc)

  pub system_back : (rest : List Stmt86) (at : ℕ) → Position (statements lines) rest at → GoesOnAt p (offsets_of lines) (back_from_system w rest) at
  system_back rest at q = by_next (comes_next w rest || not w.goes_on) refl
    where
      by_next : (b : Bool) → (comes_next w rest || not w.goes_on) ≡ b → GoesOnAt p (offsets_of lines) (cond b (AtPlace w.after) EndPlace) at
      by_next true h = goes_on_next rest at q h
      by_next false h = tt

  pub call_leads : (d : Env86) (rest : List Stmt86) (l : Label) (way : Way) (t : State86) → Position (statements lines) (CallTo l ∷ rest) t.ip → call_way w rest l ≡ Ok way → Leads86 p (offsets_of lines) d t way (record (push t (t.ip + 3)) { ip = place_of (statements lines) l })
  call_leads d rest (At b) way t q h =
      let o = names (CallTo (At b)) rest t.ip (At b) refl q in
      let within = ends_within (statements lines) (CallTo (At b)) rest t.ip q a.small in
      let next = position_next (statements lines) (CallTo (At b)) rest t.ip q in
      subst (λ v. Leads86 p (offsets_of lines) d t v (record (push t (t.ip + 3)) { ip = place_of (statements lines) (At b) })) (ok_is _ way h) (t.ip + 3, within, call_back rest (t.ip + 3) next, (place_of (statements lines) (At b), at_offset (At b) _ o, refl))
  call_leads d rest Sys way t q h =
      let o = names (CallTo Sys) rest t.ip Sys refl q in
      let within = ends_within (statements lines) (CallTo Sys) rest t.ip q a.small in
      let next = position_next (statements lines) (CallTo Sys) rest t.ip q in
      subst (λ v. Leads86 p (offsets_of lines) d t v (record (push t (t.ip + 3)) { ip = place_of (statements lines) Sys })) (ok_is _ way h) (t.ip + 3, within, system_back rest (t.ip + 3) next, (place_of (statements lines) Sys, at_offset Sys _ o, refl))
  call_leads d rest End way t q h = absurd (err_is_not Form way h)
  call_leads d rest (Skip b) way t q h = absurd (err_is_not Form way h)
  call_leads d rest (User b) way t q h = absurd (err_is_not Form way h)

  -- a way behind a conditional jump
  pub record WayRuns (loads : List Load86) (x : Symbolic86) (room used : ℕ) (t : State86) (way : Way) : Type 0 where
    pub count : ℕ
    pub few : count ≤ room
    pub arrived : State86
    pub runs : RunsOn (machine86 fetch) choices count used t arrived
    pub ended : State86
    pub denotes : Denotes e s0 loads x ended
    pub leads : Leads86 p (offsets_of lines) (with_loads e loads) ended way arrived

  way_ends : (loads : List Load86) (x : Symbolic86) (room used : ℕ) (t u : State86) (way : Way) → Denotes e s0 loads x t → step86 fetch t (choice_at choices used) ≡ Ran u → Leads86 p (offsets_of lines) (with_loads e loads) t way u → WayRuns loads x (suc room) used t way
  way_ends loads x room used t u way d h leads = record { count = 1; few = omega arith; arrived = u; runs = (u, h, refl); ended = t; denotes = d; leads = leads }

  way_goes_on : (loads : List Load86) (x : Symbolic86) (room used : ℕ) (t u : State86) (way : Way) → step86 fetch t (choice_at choices used) ≡ Ran u → WayRuns loads x room (suc used) u way → WayRuns loads x (suc room) used t way
  way_goes_on loads x room used t u way h r = let few = r.few in record { count = suc r.count; few = omega (arith, few); arrived = r.arrived; runs = (u, h, r.runs); ended = r.ended; denotes = r.denotes; leads = r.leads }

  -- behind a label's offset
  pub lands : (loads : List Load86) (x : Symbolic86) (t : State86) (n : ℕ) → Denotes e s0 loads x t → Denotes e s0 loads x (record t { ip = n })
  lands loads x t n d = stands e s0 loads x t n d

  way_jumps : (loads : List Load86) (x : Symbolic86) (room used : ℕ) (t : State86) (l : Label) (way : Way) → Denotes e s0 loads x t → step86 fetch t (choice_at choices used) ≡ Ran (record t { ip = place_of (statements lines) l }) → offset_of (statements lines) l ≡ Some (place_of (statements lines) l) → ((xs : List Stmt86) (u : State86) → Denotes e s0 loads x u → Position (statements lines) xs u.ip → way_from w x room (met w xs) ≡ Ok way → WayRuns loads x room (suc used) u way) → jump_to w Ok (λ xs. way_from w x room (met w xs)) l ≡ Ok way → WayRuns loads x (suc room) used t way
  way_jumps loads x room used t l way d h o again j =
      let n = place_of (statements lines) l in
      ⊎_elim
      (λ f. way_ends loads x room used t (record t { ip = n }) way d h (subst (λ v. Leads86 p (offsets_of lines) (with_loads e loads) t v (record t { ip = n })) (ok_is f.0 way f.2) (label_leads (with_loads e loads) l f.0 t n f.1 o)))
      (λ f.
      let b = behind_is (statements lines) f.0 l (ap (λ s. after_label s l) (sym same_text) ∙ f.1) in
      let same : b.0 ≡ n = same_Some b.0 n (sym b.1 ∙ o) in
      way_goes_on loads x room used t (record t { ip = n }) way h (again f.0 (record t { ip = n }) (lands loads x t n d) (subst (Position (statements lines) f.0) same b.2) f.2))
      (jump_is w Ok (λ xs. way_from w x room (met w xs)) l way j)

  way_at : (loads : List Load86) (x : Symbolic86) (room used : ℕ) (t : State86) (s : Stmt86) (rest : List Stmt86) (way : Way) → Denotes e s0 loads x t → Position (statements lines) (s ∷ rest) t.ip → ((xs : List Stmt86) (u : State86) → Denotes e s0 loads x u → Position (statements lines) xs u.ip → way_from w x room (met w xs) ≡ Ok way → WayRuns loads x room (suc used) u way) → way_by w x (λ xs. way_from w x room (met w xs)) rest s ≡ Ok way → WayRuns loads x (suc room) used t way
  way_at loads x room used t (Jmp l) rest way d q again h = way_jumps loads x room used t l way d (jump_steps l rest t (choice_at choices used) q (stack_is loads x t d)) (names (Jmp l) rest t.ip l refl q) again h
  way_at loads x room used t (Jmps l) rest way d q again h = way_jumps loads x room used t l way d (short_steps l rest t (choice_at choices used) q (stack_is loads x t d)) (names (Jmps l) rest t.ip l refl q) again h
  way_at loads x room used t (CallTo l) rest way d q again h = way_ends loads x room used t _ way d (call_steps l rest t (choice_at choices used) q (stack_is loads x t d)) (call_leads (with_loads e loads) rest l way t q h)
  way_at loads x room used t (Run Ret) rest way d q again h = way_ends loads x room used t _ way d (return_steps rest t (choice_at choices used) q (stack_is loads x t d)) (subst (λ v. Leads86 p (offsets_of lines) (with_loads e loads) t v (record t { ip = word_at t.mem t.sp; sp = wrap (t.sp + 2) })) (ok_is _ way h) (return_leads loads x t d))
  way_at loads x room used t (Run JmpBx) rest way d q again h = way_ends loads x room used t _ way d (bx_steps rest t (choice_at choices used) q (stack_is loads x t d)) (subst (λ v. Leads86 p (offsets_of lines) (with_loads e loads) t v (record t { ip = word t.regs.bh t.regs.bl })) (ok_is _ way h) (bx_leads loads x t d))
  way_at loads x room used t s rest way d q again h = absurd (err_is_not Form way h)

  pub way_runs : (loads : List Load86) (x : Symbolic86) (room used : ℕ) (m : Met) (t : State86) (way : Way) → Denotes e s0 loads x t → MetAt (statements lines) t.ip m → way_from w x room m ≡ Ok way → WayRuns loads x room used t way
  way_runs loads x room used (EndsAt l) t way d q h =
      let f = end_is Ok l way h in
      record { count = 0; few = omega arith; arrived = t; runs = refl; ended = t; denotes = d; leads = subst (λ v. Leads86 p (offsets_of lines) (with_loads e loads) t v t) (ok_is f.0 way f.2) (label_leads (with_loads e loads) l f.0 t t.ip f.1 q) }
  way_runs loads x room used Nothing t way d q h = absurd (err_is_not Form way h)
  way_runs loads x zero used (Instruction s rest) t way d q h = absurd (err_is_not Length way h)
  way_runs loads x (suc room) used (Instruction s rest) t way d q h =
      way_at loads x room used t s rest way d q (λ xs u du qu hu. way_runs loads x room (suc used) (met w xs) u way du (met_at w (statements lines) xs u.ip a.once qu) hu) h
