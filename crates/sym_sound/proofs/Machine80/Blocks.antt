-- Blocks: instructions one after the other, and the last one.
use Rattle.std.proofs.Common.{◌≡◌, ℕ, zero, suc, ◌+◌, ◌-◌, ◌≤◌, true, false, cond, List, [], ◌∷◌, length, Option, Some, None, Result, Ok, Err, refl, sym, ap, subst, ◌∙◌, arith, ◌⊎◌, inl, inr, ⊎_elim}
use Rattle.cells.specs.declared.Place.{Place}
use Rattle.cells.specs.declared.Place.TheVariants.{At}
use Rattle.cells.specs.declared.Rule.{Rule}
use Rattle.cells.specs.declared.Rule.TheVariants.{P1}
use Rattle.i80.specs.declared.Reg.{Reg}
use Rattle.i80.specs.declared.Reg.TheVariants.{A, B, C, D, E, H, L}
use Rattle.i80.specs.declared.Instr80.{Instr80}
use Rattle.i80.specs.declared.Instr80.TheVariants.{Pchl, Jmp, Jif, Call, Cif, Ret, Rif, Rst0, In, Out}
use Rattle.i80.specs.Columns.{length80, ends80}
use Rattle.dialogue.specs.Run.{Answer, Ran, Stops}
use Rattle.asm80_types.specs.Program.{Program, IsProgram, instr_at, is_start}
use Rattle.cpu80_tagged.specs.State.{State80, reg80}
use Rattle.cpu80_tagged.specs.Effect.{effect}
use Rattle.cpu80_tagged.specs.Call.{popped_return}
use Rattle.cpu80_tagged.specs.Step.{go_to, go_on, go_back, jump as jump80, call as call80, act, act_at, step80, return_of, return_at, machine80}
use Rattle.sym_terms.specs.Values80.{Load80, Byte, word_of, Val80}
use Rattle.sym_terms.specs.Laws.{MadeTermsKeepValues, MadeTermsHaveSorts}
use Rattle.sym_block_def.specs.Outcome.{Way, Exit, One, Outcome, held_at_start}
use Rattle.sym_block_def.specs.Block80.{Symbolic80, reg_term, start80, goto, jump, call, return_by, effect80, exit80, outcome80, outcome_from, before_more, instrs_from, OnlyLastEnds}
use Rattle.sym_block_def.specs.Sorts.{AreSorted80, StepsKeepSorts}
use Rattle.simulation_def.specs.Steps.{RunsOn}
use Rattle.simulation_def.specs.States.{IsState80}
use Rattle.simulation_def.specs.Runs80.{env80, Holds80, Replays80, Takes80, Answers80, BlockRuns80, BlockLeaves80, BlocksRun80}
use Rattle.sym_sound.proofs.Machine80.Denoting.{Denotes}
use Rattle.sym_sound.proofs.Machine80.Moves.{Denoted}
use Rattle.sym_sound.proofs.Machine80.Rows.{row}
use Rattle.sym_sound.proofs.Machine80.Leaving.{AnswersBy, AnsweredBy, goto_answered, pair_answered, return_answered, jump_answered, call_answered, in_answered, out_answered, one_answered, two_answered}
use Rattle.asm80_types.proofs.Standing.{IsPlaced, is_placed}
use Rattle.asm80_types.proofs.Lookup.{start_is}
use Rattle.sym_sound.proofs.Machine80.Standing.{loads_held, call_taken, cif_taken}

-- the step at an instruction
pub step_is : (p : Program) (s : State80) (at : ℕ) (i : Instr80) → s.place ≡ At at → instr_at p at ≡ Some i → step80 p s ≡ act p s (at + length80 i) i
step_is p s at i place here = ap (at_place) place ∙ ap (λ o. act_at p s at o) here
  where
    at_place : Place → Answer State80 Rule
    at_place q = Rattle.cpu80_tagged.specs.Step.step_at p s q

return_is : (p : Program) (s : State80) (at : ℕ) (i : Instr80) → s.place ≡ At at → instr_at p at ≡ Some i → return_at p s s.place ≡ return_of p s at (Some i)
return_is p s at i place here = ap (return_at p s) place ∙ ap (λ o. return_of p s at o) here

-- a place changes nothing that is held
pub placed : (p : Program) (s0 : State80) (loads : List Load80) (x : Symbolic80) (s : State80) (q : Place) → Denotes p s0 loads x s → Denotes p s0 loads x (record s { place = q })
placed p s0 loads x s q d = record {
  is_state = record { regs = d.is_state.regs; mem = d.is_state.mem; sp = d.is_state.sp };
  holds = d.holds;
  sp = d.sp;
  count = d.count;
  memory = d.memory;
  dma = d.dma;
}

-- what the last step of a block comes to: the state holds what the terms say, and the step answers by the exit
record LastStep (p : Program) (s0 : State80) (x : Symbolic80) (exit : Exit) (a : Answer State80 Rule) : Type 0 where
  loads : List Load80
  ended : State80
  denotes : Denotes p s0 loads x ended
  answers : AnswersBy p (env80 s0 loads) ended exit a

abbrev LastAnswer : Program → State80 → Symbolic80 → Exit → Answer State80 Rule → Type 0
LastAnswer p s0 x exit a = ((r : Rule) × (a ≡ Stops r)) ⊎ LastStep p s0 x exit a

as_last : (p : Program) (s0 : State80) (loads : List Load80) (x : Symbolic80) (t : State80) (exit : Exit) (a : Answer State80 Rule) → Denotes p s0 loads x t → AnsweredBy p (env80 s0 loads) t exit a → LastAnswer p s0 x exit a
as_last p s0 loads x t exit a d (inl r) = inl r
as_last p s0 loads x t exit a d (inr h) = inr (record { loads = loads; ended = t; denotes = d; answers = h })

-- one instruction that ends no block: its effect, and the next place
effect_last : (p : Program) (s0 : State80) (y : Symbolic80) (a : ℕ) (q : Result State80 Rule) → ((t : State80) → q ≡ Ok t → Denoted p s0 y t) → LastAnswer p s0 y (One (goto p a)) (go_on p a q)
effect_last p s0 y a (Err r) f = inl (r, refl)
effect_last p s0 y a (Ok t) f =
    let d = f t refl in
    as_last p s0 d.loads y t (One (goto p a)) (go_to p t a) d.denotes (one_answered p (env80 s0 d.loads) t (goto p a) (go_to p t a) (goto_answered p s0 d.loads y t d.denotes (env80 s0 d.loads) t a))

module _ (keep : MadeTermsKeepValues) (sorts : MadeTermsHaveSorts) (p : Program) (g : IsProgram p) (s0 : State80) where
  -- the last instruction, by what it is; `act` is what the step at it answers
  last_is : (loads : List Load80) (x : Symbolic80) (s : State80) (at : ℕ) (i : Instr80) → Denotes p s0 loads x s → AreSorted80 x → s.place ≡ At at → instr_at p at ≡ Some i → IsPlaced p at i → LastAnswer p s0 (effect80 x i) (exit80 p (at + length80 i) (effect80 x i) i) (act p s (at + length80 i) i)
  last_is loads x s at Pchl d o place here h = as_last p s0 loads x s _ _ d (one_answered p _ s _ _ (pair_answered p s0 loads x s d))
  last_is loads x s at (Jmp t) d o place here h = as_last p s0 loads x s _ _ d (one_answered p _ s _ _ (jump_answered p s0 loads x s d t (return_is p s at (Jmp t) place here)))
  last_is loads x s at (Jif c t) d o place here h = as_last p s0 loads x s _ _ d (two_answered p (env80 s0 loads) x s c (at + 3) (jump p t) (jump80 p s t) d.holds.in_flags (jump_answered p s0 loads x s d t (return_is p s at (Jif c t) place here)) (goto_answered p s0 loads x s d (env80 s0 loads) s (at + 3)))
  last_is loads x s at (Call t) d o place here h = as_last p s0 loads x s _ _ d (one_answered p _ s _ _ (call_answered p s0 loads x s d (at + 3) t (return_is p s at (Call t) place here) (call_taken p at t h)))
  last_is loads x s at (Cif c t) d o place here h = as_last p s0 loads x s _ _ d (two_answered p (env80 s0 loads) x s c (at + 3) (call p (at + 3) t) (call80 p s (at + 3) t) d.holds.in_flags (call_answered p s0 loads x s d (at + 3) t (return_is p s at (Cif c t) place here) (cif_taken p at c t h)) (goto_answered p s0 loads x s d (env80 s0 loads) s (at + 3)))
  last_is loads x s at Ret d o place here h = as_last p s0 loads x s _ _ d (one_answered p _ s _ _ (return_answered p s0 loads x s d))
  last_is loads x s at (Rif c) d o place here h = as_last p s0 loads x s _ _ d (two_answered p (env80 s0 loads) x s c (at + 1) (return_by x) (go_back s (popped_return p s)) d.holds.in_flags (return_answered p s0 loads x s d) (goto_answered p s0 loads x s d (env80 s0 loads) s (at + 1)))
  last_is loads x s at Rst0 d o place here h = as_last p s0 loads x s _ _ d (one_answered p _ s _ _ (inr refl))
  last_is loads x s at (In port) d o place here h = as_last p s0 loads x s _ _ d (one_answered p _ s _ _ (in_answered p s0 loads x s d (at + 2) port (return_is p s at (In port) place here)))
  last_is loads x s at (Out port) d o place here h = as_last p s0 loads x s _ _ d (one_answered p _ s _ _ (out_answered p s0 loads x s d (at + 2) port (return_is p s at (Out port) place here)))
  last_is loads x s at i d o place here h = effect_last p s0 (effect80 x i) (at + length80 i) (effect p s i) (λ t e. row keep sorts p s0 loads x s t i d o h.coded h.well_formed (loads_held p at i h) e)

  -- an instruction that ends no block is followed by its next one
  runs_on : (loads : List Load80) (x : Symbolic80) (s : State80) (at : ℕ) (i : Instr80) → Denotes p s0 loads x s → AreSorted80 x → s.place ≡ At at → instr_at p at ≡ Some i → IsPlaced p at i → ends80 i ≡ false → is_start p (at + length80 i) ≡ true → ((r : Rule) × (step80 p s ≡ Stops r)) ⊎ ((u : State80) × (step80 p s ≡ Ran u) × (u.place ≡ At (at + length80 i)) × Denoted p s0 (effect80 x i) u)
  runs_on loads x s at i d o place here h no_end next = by_effect (effect p s i) refl
    where
      acts : (i : Instr80) → ends80 i ≡ false → act p s (at + length80 i) i ≡ go_on p (at + length80 i) (effect p s i)
      acts Pchl e = absurd (cc)
      acts (Jmp t) e = absurd (cc)
      acts (Jif c t) e = absurd (cc)
      acts (Call t) e = absurd (cc)
      acts (Cif c t) e = absurd (cc)
      acts Ret e = absurd (cc)
      acts (Rif c) e = absurd (cc)
      acts Rst0 e = absurd (cc)
      acts (In port) e = absurd (cc)
      acts (Out port) e = absurd (cc)
      acts i e = refl

      step : step80 p s ≡ go_on p (at + length80 i) (effect p s i)
      step = step_is p s at i place here ∙ acts i no_end

      by_effect : (q : Result State80 Rule) → effect p s i ≡ q → ((r : Rule) × (step80 p s ≡ Stops r)) ⊎ ((u : State80) × (step80 p s ≡ Ran u) × (u.place ≡ At (at + length80 i)) × Denoted p s0 (effect80 x i) u)
      by_effect (Err r) e = inl (r, step ∙ ap (go_on p (at + length80 i)) e)
      by_effect (Ok t) e =
          let y = row keep sorts p s0 loads x s t i d o h.coded h.well_formed (loads_held p at i h) e in
          let went : go_to p t (at + length80 i) ≡ Ran (record t { place = At (at + length80 i) }) = ap (λ b. cond b (Ran (record t { place = At (at + length80 i) })) (Stops P1)) next in
          inr (record t { place = At (at + length80 i) }, step ∙ ap (go_on p (at + length80 i)) e ∙ went, refl, record { loads = y.loads; denotes = placed p s0 y.loads (effect80 x i) t (At (at + length80 i)) y.denotes })

-- these instructions stand one after the other from an address on
abbrev StandFrom : Program → ℕ → List Instr80 → Type 0
StandFrom p at [] = Unit {0}
StandFrom p at (i ∷ is) = (instr_at p at ≡ Some i) × StandFrom p (at + length80 i) is

stand_by : (p : Program) (at n : ℕ) (o : Option Instr80) → instr_at p at ≡ o → ((i : Instr80) → StandFrom p (at + length80 i) (instrs_from p (at + length80 i) n)) → StandFrom p at (before_more o (λ i. i ∷ instrs_from p (at + length80 i) n))
stand_by p at n None e f = tt
stand_by p at n (Some i) e f = (e, f i)

stand_from : (p : Program) (at n : ℕ) → StandFrom p at (instrs_from p at n)
stand_from p at zero = tt
stand_from p at (suc n) = stand_by p at n (instr_at p at) refl (λ i. stand_from p (at + length80 i) n)

-- so many steps run on and the next one is the last of a block with this outcome, whose terms speak of the state `s0`
record RunsTo (p : Program) (s0 s : State80) (used steps : ℕ) (o : Outcome) : Type 0 where
  last : State80
  runs : RunsOn (machine80 p) [] steps used s last
  loads : List Load80
  ended : State80
  is_state : IsState80 p ended
  holds : Holds80 (env80 s0 loads) o.held ended.regs ended.flags
  sp : Val80 (env80 s0 loads) o.sp (word_of ended.sp)
  memory : Replays80 p (env80 s0 []) s0.mem o.actions loads ended.mem
  dma : ended.dma ≡ s0.dma
  way : Way
  takes : Takes80 (env80 s0 loads) o.exit way
  answers : Answers80 p (env80 s0 loads) ended way (step80 p last)

-- one of the steps up to the last leaves the profile
record LeavesIn (p : Program) (s : State80) (used steps : ℕ) : Type 0 where
  before : ℕ
  within : before ≤ steps
  last : State80
  runs : RunsOn (machine80 p) [] before used s last
  rule : Rule
  stops : step80 p last ≡ Stops rule

leaves_later : (p : Program) (s u : State80) (used steps : ℕ) → step80 p s ≡ Ran u → LeavesIn p u (suc used) steps → LeavesIn p s used (suc steps)
leaves_later p s u used steps e l =
    let within = l.within in
    record { before = suc l.before; within = omega (arith, within); last = l.last; runs = (u, e, l.runs); rule = l.rule; stops = l.stops }

runs_later : (p : Program) (s0 s u : State80) (used steps : ℕ) (o : Outcome) → step80 p s ≡ Ran u → RunsTo p s0 u (suc used) steps o → RunsTo p s0 s used (suc steps) o
runs_later p s0 s u used steps o e r = record {
  last = r.last;
  runs = (u, e, r.runs);
  loads = r.loads;
  ended = r.ended;
  is_state = r.is_state;
  holds = r.holds;
  sp = r.sp;
  memory = r.memory;
  dma = r.dma;
  way = r.way;
  takes = r.takes;
  answers = r.answers;
}

-- the one step of a last instruction
one_step : (p : Program) (s0 s : State80) (used : ℕ) (x : Symbolic80) (exit : Exit) (a : Answer State80 Rule) → step80 p s ≡ a → LastAnswer p s0 x exit a → LeavesIn p s used 0 ⊎ RunsTo p s0 s used 0 (outcome80 x exit)
one_step p s0 s used x exit a e (inl r) = inl (record { before = 0; within = omega arith; last = s; runs = refl; rule = r.0; stops = e ∙ r.1 })
one_step p s0 s used x exit a e (inr l) =
    let d = l.denotes in
    inr (record {
      last = s;
      runs = refl;
      loads = l.loads;
      ended = l.ended;
      is_state = d.is_state;
      holds = d.holds;
      sp = d.sp;
      memory = d.memory;
      dma = d.dma;
      way = l.answers.way;
      takes = l.answers.takes;
      answers = subst (λ b. Answers80 p (env80 s0 l.loads) l.ended l.answers.way b) (sym e) l.answers.answers;
    })

module _ (keep : MadeTermsKeepValues) (sorts : MadeTermsHaveSorts) (steps : StepsKeepSorts) (p : Program) (g : IsProgram p) (s0 : State80) where
  instrs_run : (is : List Instr80) (i : Instr80) (loads : List Load80) (x : Symbolic80) (s : State80) (at used : ℕ) → Denotes p s0 loads x s → AreSorted80 x → s.place ≡ At at → StandFrom p at (i ∷ is) → OnlyLastEnds (i ∷ is) → LeavesIn p s used (length is) ⊎ RunsTo p s0 s used (length is) (outcome_from p at (i ∷ is) x)
  instrs_run [] i loads x s at used d o place stand ends =
      let h = is_placed p at i g stand.0 in
      one_step p s0 s used (effect80 x i) (exit80 p (at + length80 i) (effect80 x i) i) (act p s (at + length80 i) i) (step_is p s at i place stand.0) (last_is keep sorts p g s0 loads x s at i d o place stand.0 h)
  instrs_run (j ∷ is) i loads x s at used d o place stand ends =
      let h = is_placed p at i g stand.0 in
      ⊎_elim
      (λ l. inl (record { before = 0; within = omega arith; last = s; runs = refl; rule = l.0; stops = l.1 }))
      (λ r.
      ⊎_elim (λ l. inl (leaves_later p s r.0 used (length is) r.1 l)) (λ k. inr (runs_later p s0 s r.0 used (length is) _ r.1 k))
      (instrs_run is j r.3.loads (effect80 x i) r.0 (at + length80 i) (suc used) r.3.denotes (steps.effect80 x i h.coded o) r.2 stand.1 ends.1))
      (runs_on keep sorts p g s0 loads x s at i d o place stand.0 h ends.0 (start_is p (at + length80 i) j stand.1.0))

-- the start of a block
at_start : (p : Program) (s : State80) → IsState80 p s → Denotes p s [] start80 s
at_start p s is = record {
  is_state = is;
  holds = record { in_regs = held; in_flags = (refl, refl, refl, refl, refl) };
  sp = (refl, refl);
  count = refl;
  memory = refl;
  dma = refl;
}
  where
    held : (r : Reg) → Val80 (env80 s []) (reg_term held_at_start r) (Byte (reg80 s.regs r))
    held A = refl
    held B = refl
    held C = refl
    held D = refl
    held E = refl
    held H = refl
    held L = refl

as_block : (p : Program) (s : State80) (steps count : ℕ) (o : Outcome) → steps + 1 ≡ count → LeavesIn p s 0 steps ⊎ RunsTo p s s 0 steps o → BlockLeaves80 p count s ⊎ BlockRuns80 p count o s
as_block p s steps count o e (inl l) =
    let within = l.within in
    inl (record { before = l.before; within = omega (arith, within, e); last = l.last; runs = l.runs; rule = l.rule; stops = l.stops })
as_block p s steps count o e (inr r) =
    let same : steps ≡ count - 1 = omega (arith, e) in
    inr (record {
      last = r.last;
      runs = subst (λ n. RunsOn (machine80 p) [] n 0 s r.last) same r.runs;
      loads = r.loads;
      ended = r.ended;
      is_state = r.is_state;
      holds = r.holds;
      sp = r.sp;
      memory = r.memory;
      dma = r.dma;
      way = r.way;
      takes = r.takes;
      answers = r.answers;
    })

pub blocks_run : MadeTermsKeepValues → MadeTermsHaveSorts → StepsKeepSorts → BlocksRun80
blocks_run keep sorts steps p first count s g b is place = by_instrs (instrs_from p first count) refl
  where
    by_instrs : (xs : List Instr80) → instrs_from p first count ≡ xs → BlockLeaves80 p count s ⊎ BlockRuns80 p count (outcome_from p first (instrs_from p first count) start80) s
    by_instrs [] e = let some = b.some in let whole = b.whole in let none : length (instrs_from p first count) ≡ 0 = ap length e in absurd (omega (arith, some, whole, none))
    by_instrs (i ∷ xs) e =
        let stand = subst (StandFrom p first) e (stand_from p first count) in
        let ends = subst OnlyLastEnds e b.ends in
        let whole : length (i ∷ xs) ≡ count = ap length (sym e) ∙ b.whole in
        let size : length xs + 1 ≡ count = omega (arith, whole) in
        subst (λ l. BlockLeaves80 p count s ⊎ BlockRuns80 p count (outcome_from p first l start80) s) (sym e)
        (as_block p s (length xs) count (outcome_from p first (i ∷ xs) start80) size (instrs_run keep sorts steps p g s xs i [] start80 s first 0 (at_start p s is) steps.start80 place stand ends))
