-- Walks, from each state at a block's label.
use Rattle.std.proofs.Common.{◌≡◌, ℕ, ◌*◌, Bool, true, false, cond, List, [], Option, Some, None, Ok, refl, sym, subst, ◌∙◌, ◌⊎◌, inl, inr}
use Rattle.std.proofs.lemmas.Option.{same_Some}
use Rattle.cells.specs.declared.Part.{Part}
use Rattle.cells.specs.declared.Part.TheVariants.{A, B, C, D, E, H, L, S, Z, Ac, P, Cy}
use Rattle.cells.specs.Parts.{Parts, has}
use Rattle.i80.specs.declared.Reg.{Reg}
use Rattle.i80.specs.declared.Reg.TheVariants.{A as RegA, B as RegB, C as RegC, D as RegD, E as RegE, H as RegH, L as RegL}
use Rattle.i86.specs.declared.Reg8.{Reg8}
use Rattle.i86.specs.declared.Reg8.TheVariants.{Al, Cl, Dl, Bl, Ah, Ch, Dh, Bh}
use Rattle.asm86_line_types.specs.declared.line.Label.TheVariants.{At}
use Rattle.asm86_line_types.specs.declared.line.Stmt86.{Stmt86}
use Rattle.asm86_line_types.specs.Image.{statements}
use Rattle.cpu86.specs.State.{State86, reg8}
use Rattle.templates.specs.Template.{reg_of}
use Rattle.sym_terms.specs.Term.{Start, Unknown}
use Rattle.sym_terms.specs.Values86.{Env86, Number, Val86, start86 as started}
use Rattle.sym_terms.specs.Laws.{MadeTermsKeepValues, MadeTermsHaveSorts}
use Rattle.sym_block_def.specs.declared.reason.Reason.TheVariants.{Missing, Length}
use Rattle.sym_block_def.specs.Outcome.{Outcome}
use Rattle.sym_block_def.specs.Block80.{reg_term, instrs_from}
use Rattle.sym_block_def.specs.Symbolic86.{Symbolic86, reg8_term, start_if, start86}
use Rattle.sym_block_def.specs.Walk86.{Surroundings, after_label, Met, EndsAt, Instruction, Nothing, met, walk_some, walk_behind, surroundings}
use Rattle.sym_block_def.specs.Sorts.{StepsKeepSorts}
use Rattle.simulation_def.specs.States.{IsState86}
use Rattle.simulation_def.specs.Runs86.{part86, IsEnv86, with_loads, Leaves86, LeavesAsking86, WalkRuns86, offsets_of, WalksRun86}
use Rattle.sym_sound.proofs.Machine86.Denoting.{Denotes}
use Rattle.sym_sound.proofs.Machine86.Positions.{Position, offsets_are, behind_is, MetAt, met_at}
use Rattle.dialogue.proofs.Tried.{err_is_not}
use Rattle.sym_sound.proofs.Machine86.Walking.{Walk}
use Rattle.sym_sound.proofs.Machine86.Walks.{Leaves, arrives, asks, IsAsked, WalkRuns, walk_runs}

-- the start of a walk
start_value : (keep : Parts) (e : Env86) (q : Part) (n : ℕ) → (has keep q ≡ true → n ≡ started e q) → Val86 e (start_if keep q) (Number n)
start_value keep e q n f = by_kept (has keep q) refl
  where
    by_kept : (b : Bool) → has keep q ≡ b → Val86 e (cond b (Start q) Unknown) (Number n)
    by_kept true h = f h
    by_kept false h = tt

same_start : (e : Env86) (q : Part) → started e q ≡ started (with_loads e []) q
same_start e A = refl
same_start e B = refl
same_start e C = refl
same_start e D = refl
same_start e E = refl
same_start e H = refl
same_start e L = refl
same_start e S = refl
same_start e Z = refl
same_start e Ac = refl
same_start e P = refl
same_start e Cy = refl

at_start : (keep : Parts) (offset : Rattle.asm86_line_types.specs.declared.line.Label.Label → Option ℕ) (s : State86) (e : Env86) → IsState86 s → IsEnv86 keep offset s e → Denotes e s [] (start86 keep) s
at_start keep offset s e is env = record {
  is_state = is;
  in_regs = held;
  in_flags = (kept S, kept Z, kept Ac, kept P, kept Cy);
  si = tt;
  sp = sym env.sp;
  count = refl;
  memory = refl;
  dma = refl;
  ds = refl;
  ss = refl;
}
  where
    kept : (q : Part) → Val86 (with_loads e []) (start_if keep q) (Number (part86 s q))
    kept q = start_value keep (with_loads e []) q (part86 s q) (λ h. sym (env.starts q h) ∙ same_start e q)

    held : (r : Reg8) → Val86 (with_loads e []) (reg8_term (start86 keep) r) (Number (reg8 s.regs r))
    held Al = kept A
    held Cl = kept C
    held Dl = kept E
    held Bl = kept L
    held Ah = tt
    held Ch = kept B
    held Dh = kept D
    held Bh = kept H

-- the registers of the 8080
regs_held : (e : Env86) (x : Symbolic86) (s : State86) → ((r : Reg8) → Val86 e (reg8_term x r) (Number (reg8 s.regs r))) → (r : Reg) → Val86 e (reg_term x.held r) (Number (reg8 s.regs (reg_of r)))
regs_held e x s h RegA = h Al
regs_held e x s h RegB = h Ch
regs_held e x s h RegC = h Cl
regs_held e x s h RegD = h Dh
regs_held e x s h RegE = h Dl
regs_held e x s h RegH = h Bh
regs_held e x s h RegL = h Bl

module _ (walk : Walk) where
  open walk use {steps, p, lines, fetch, w, choices, e, s0 as s}

  as_outcome : (used count : ℕ) (o : Outcome) → WalkRuns walk 1 (10 * count) used s o → WalkRuns86 p fetch (offsets_of lines) choices used count o s e
  as_outcome used count o r = subst (λ (q : Outcome). WalkRuns86 p fetch (offsets_of lines) choices used count q s e) r.is (record {
    steps = r.count;
    arrived = r.arrived;
    runs = r.runs;
    loads = r.loads;
    ended = r.ended;
    is_state = r.denotes.is_state;
    holds = record { in_regs = regs_held (with_loads e r.loads) r.x r.ended r.denotes.in_regs; in_flags = r.denotes.in_flags };
    sp = r.denotes.sp;
    memory = r.denotes.memory;
    dma = r.denotes.dma;
    data_segment = r.denotes.ds;
    stack_segment = r.denotes.ss;
    way = r.way;
    takes = r.takes;
    one = r.one;
    leaves = leaves r.leaves;
    direct = λ h. asking r.leaves (r.is_asked h);
  })
    where
      leaves : Leaves walk r.direct 1 (10 * count) r.count (with_loads e r.loads) r.ended r.way r.arrived → Leaves86 p fetch (offsets_of lines) count (with_loads e r.loads) r.ended r.way r.count r.arrived ⊎ LeavesAsking86 p fetch (offsets_of lines) count r.direct r.ended r.way r.count r.arrived
      leaves (arrives low few l) = inl (record { some = low; few = few; leads = l })
      leaves (asks few l) = inr (record { few = few; asks = l })

      asking : (l : Leaves walk r.direct 1 (10 * count) r.count (with_loads e r.loads) r.ended r.way r.arrived) → IsAsked walk r.direct 1 (10 * count) r.count (with_loads e r.loads) r.ended r.way r.arrived l → LeavesAsking86 p fetch (offsets_of lines) count r.direct r.ended r.way r.count r.arrived
      asking (arrives low few l) h = absurd h
      asking (asks few l) h = record { few = few; asks = l }

  runs_some : (kept : Parts) (used count : ℕ) (m : Met) (o : Outcome) → Denotes e s [] (start86 kept) s → MetAt (statements lines) s.ip m → walk_some w (10 * count) m (start86 kept) ≡ Ok o → WalkRuns86 p fetch (offsets_of lines) choices used count o s e
  runs_some kept used count (EndsAt l) o d q h = absurd (err_is_not Length o h)
  runs_some kept used count (Instruction x rest) o d q h = as_outcome used count o (walk_runs walk [] (start86 kept) (10 * count) used (Instruction x rest) s o d (steps.start86 kept) q h)
  runs_some kept used count Nothing o d q h = absurd (err_is_not Rattle.sym_block_def.specs.declared.reason.Reason.TheVariants.Form o h)

pub walks_run : MadeTermsKeepValues → MadeTermsHaveSorts → StepsKeepSorts → WalksRun86
walks_run keep sorts steps p lines fetch kept first count o choices used s e a coded reads block h is segments here env =
    by_behind (after_label (statements lines) (At first)) refl h
  where
    w : Surroundings
    w = surroundings p (statements lines) first (instrs_from p first count)

    by_behind : (q : Option (List Stmt86)) → after_label (statements lines) (At first) ≡ q → walk_behind (surroundings p (statements lines) first (instrs_from p first count)) (10 * count) (start86 kept) q ≡ Ok o → WalkRuns86 p fetch (offsets_of lines) choices used count o s e
    by_behind None f g = absurd (err_is_not Missing o g)
    by_behind (Some xs) f g =
        let b = behind_is (statements lines) xs (At first) f in
        let same : b.0 ≡ s.ip = same_Some b.0 s.ip (sym b.1 ∙ sym (offsets_are lines (At first)) ∙ here) in
        let around = surroundings p (statements lines) first (instrs_from p first count) in
        let walk : Walk = record {
          keep = keep;
          sorts = sorts;
          steps = steps;
          p = p;
          lines = lines;
          a = a;
          coded = coded;
          fetch = fetch;
          reads = reads;
          w = around;
          same_text = refl;
          same_start = refl;
          choices = choices;
          e = e;
          offsets = env.offsets;
          s0 = s;
          segments = segments;
        } in
        runs_some walk kept used count (met around xs) o (at_start kept (offsets_of lines) s e is env) (met_at around (statements lines) xs s.ip a.once (subst (Position (statements lines) xs) same b.2)) g
