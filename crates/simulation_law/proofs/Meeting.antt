-- Linked runs at a block that the text matches: both machines by their laws, and what their terms stand for.
use Rattle.std.proofs.Common.{◌≡◌, ℕ, ◌/◌, ◌%◌, Bool, true, false, ◌||◌, List, [], Option, Some, sym, ◌∙◌, subst, ◌⊎◌, inl, inr}
use Rattle.std.specs.Prelude.{Ok, IfOk}
use Rattle.cells.specs.declared.Cell.TheVariants.{Num}
use Rattle.cells.specs.declared.Part.{Part}
use Rattle.cells.specs.declared.Part.TheVariants.{A, B, C, D, E, H, L, S, Z, Ac, P, Cy}
use Rattle.cells.specs.Parts.{has}
use Rattle.i80.specs.declared.Reg.TheVariants.{A as RegA, B as RegB, C as RegC, D as RegD, E as RegE, H as RegH, L as RegL}
use Rattle.i86.specs.declared.Reg8.TheVariants.{Al, Cl, Ch, Dl, Dh, Bl, Bh}
use Rattle.i86.specs.declared.Instr86.{Instr86}
use Rattle.asm86_line_types.specs.declared.line.Line86.{Line86}
use Rattle.asm86_line_types.specs.Image.{statements}
use Rattle.asm80_types.specs.Program.{Program}
use Rattle.cpu80_tagged.specs.State.{State80}
use Rattle.cpu86.specs.State.{State86}
use Rattle.sym_terms.specs.Values80.{Env80}
use Rattle.sym_terms.specs.Values86.{Env86}
use Rattle.sym_block_def.specs.Outcome.{Outcome, term_in}
use Rattle.sym_block_def.specs.Block80.{block80}
use Rattle.sym_block_def.specs.Walk86.{walk86}
use Rattle.sym_block_def.specs.Agree.{agrees}
use Rattle.sym_block_def.specs.BlockMatch.{Keeps, kept_at, kept_after_way, is_last, is_boot_alone}
use Rattle.sym_block_def.specs.Sorts.{OutcomeIsSorted, StepsKeepSorts}
use Rattle.simulation_def.specs.Runs80.{env80, BlockRuns80, BlockLeaves80, BlocksRun80}
use Rattle.simulation_def.specs.Runs86.{with_loads, offsets_of, WalkRuns86, WalksRun86}
use Rattle.simulation_def.specs.Linked.{StandsIn, places}
use Rattle.simulation_law.specs.Linked.{WordStands, EnvsStand, AgreeingTermsStand}
use Rattle.simulation_law.specs.Replayed.{ReplayedStand, AgreeingActionsStand}
use Rattle.simulation_law.specs.Environments.{HasEnvs, LinkedRunsHaveEnvs}
use Rattle.simulation_law.proofs.Same.{word_is}
use Rattle.simulation_law.specs.Matching.{BlocksStand, MatchingBlocksStand}
use Rattle.simulation_law.proofs.Reasons.{Matches, walk_matches, kept_agrees, none_lost}
use Rattle.simulation_law.proofs.WaysAgree.{ways_meet, way_sorted, kept_way, goes_on}

or_false : (a b : Bool) → a ≡ false → (a || b) ≡ true → b ≡ true
or_false a b e h = subst (λ z. (z || b) ≡ true) e h

module _ (sorts : StepsKeepSorts) (law80 : BlocksRun80) (law86 : WalksRun86) (terms : AgreeingTermsStand) (replayed : AgreeingActionsStand) (have_envs : LinkedRunsHaveEnvs) where
  module _ (p : Program) (lines : List Line86) (fetch : ℕ → Option Instr86) (choices : List ℕ) (used : ℕ) (keeps : Keeps) (first count : ℕ) (s : State80) (t : State86) (o : Outcome) (m : Matches keeps (block80 p first count) o) (sorted : OutcomeIsSorted o) (h : HasEnvs p (offsets_of lines) (keeps.at first) s t) (r : BlockRuns80 p count (block80 p first count) s) (w : WalkRuns86 p fetch (offsets_of lines) choices used count o t h.env) where
    abbrev x : Outcome
    x = block80 p first count

    abbrev e : Env80
    e = env80 s r.loads

    abbrev d : Env86
    d = with_loads h.env w.loads

    abbrev Meet : Part → Type 0
    Meet q = StandsIn (places (offsets_of lines)) r.ended w.ended q

    after : ReplayedStand p (places (offsets_of lines)) (env80 s []) (with_loads h.env []) r.loads w.loads r.ended.mem w.ended.mem
    after = replayed p (places (offsets_of lines)) (env80 s []) (with_loads h.env []) x.actions o.actions r.loads w.loads s.mem r.ended.mem t.mem w.ended.mem (subst (λ ls. EnvsStand (places (offsets_of lines)) (env80 s []) (record (h.env) { loads = ls })) h.unloaded h.envs) h.memory sorted.actions m.actions r.memory w.memory

    envs : EnvsStand (places (offsets_of lines)) e d
    envs = after.envs

    -- each part that agrees stands for the other
    part_stands : (q : Part) → agrees (term_in x.held q) (term_in o.held q) ≡ true → Meet q
    part_stands A g = terms.byte (places (offsets_of lines)) e d x.held.a o.held.a r.ended.regs.a w.ended.regs.al envs sorted.held.a g (r.holds.in_regs RegA) (w.holds.in_regs RegA) (w.is_state.regs Al)
    part_stands B g = terms.byte (places (offsets_of lines)) e d x.held.b o.held.b r.ended.regs.b w.ended.regs.ch envs sorted.held.b g (r.holds.in_regs RegB) (w.holds.in_regs RegB) (w.is_state.regs Ch)
    part_stands C g = terms.byte (places (offsets_of lines)) e d x.held.c o.held.c r.ended.regs.c w.ended.regs.cl envs sorted.held.c g (r.holds.in_regs RegC) (w.holds.in_regs RegC) (w.is_state.regs Cl)
    part_stands D g = terms.byte (places (offsets_of lines)) e d x.held.d o.held.d r.ended.regs.d w.ended.regs.dh envs sorted.held.d g (r.holds.in_regs RegD) (w.holds.in_regs RegD) (w.is_state.regs Dh)
    part_stands E g = terms.byte (places (offsets_of lines)) e d x.held.e o.held.e r.ended.regs.e w.ended.regs.dl envs sorted.held.e g (r.holds.in_regs RegE) (w.holds.in_regs RegE) (w.is_state.regs Dl)
    part_stands H g = terms.byte (places (offsets_of lines)) e d x.held.h o.held.h r.ended.regs.h w.ended.regs.bh envs sorted.held.h g (r.holds.in_regs RegH) (w.holds.in_regs RegH) (w.is_state.regs Bh)
    part_stands L g = terms.byte (places (offsets_of lines)) e d x.held.l o.held.l r.ended.regs.l w.ended.regs.bl envs sorted.held.l g (r.holds.in_regs RegL) (w.holds.in_regs RegL) (w.is_state.regs Bl)
    part_stands S g = terms.flag (places (offsets_of lines)) e d x.held.s o.held.s r.ended.flags.s w.ended.flags.sf envs g r.holds.in_flags.0 w.holds.in_flags.0
    part_stands Z g = terms.flag (places (offsets_of lines)) e d x.held.z o.held.z r.ended.flags.z w.ended.flags.zf envs g r.holds.in_flags.1 w.holds.in_flags.1
    part_stands Ac g = terms.flag (places (offsets_of lines)) e d x.held.ac o.held.ac r.ended.flags.ac w.ended.flags.af envs g r.holds.in_flags.2 w.holds.in_flags.2
    part_stands P g = terms.flag (places (offsets_of lines)) e d x.held.p o.held.p r.ended.flags.p w.ended.flags.pf envs g r.holds.in_flags.3 w.holds.in_flags.3
    part_stands Cy g = terms.flag (places (offsets_of lines)) e d x.held.cy o.held.cy r.ended.flags.cy w.ended.flags.cf envs g r.holds.in_flags.4 w.holds.in_flags.4

    kept_stands : (q : Part) → has (kept_after_way keeps r.way) q ≡ true → Meet q
    kept_stands q g = part_stands q (kept_agrees keeps x o q (m.none_bad q) (kept_way keeps e x.exit r.way q r.takes g))

    -- SP
    sp_same : is_last r.way ≡ false → w.ended.sp ≡ r.ended.sp
    sp_same g =
        let a = or_false (is_boot_alone x.exit) (agrees x.sp o.sp) (goes_on e x.exit r.way r.takes g) m.sp in
        let z : WordStands (places (offsets_of lines)) (Num (r.ended.sp / 256)) (Num (r.ended.sp % 256)) w.ended.sp =
        terms.word (places (offsets_of lines)) e d x.sp o.sp (Num (r.ended.sp / 256)) (Num (r.ended.sp % 256)) w.ended.sp envs sorted.sp a r.sp w.sp w.is_state.sp in
        word_is r.ended.sp w.ended.sp z.0 z.1

    pub stand : walk86 p (statements lines) (keeps.at first) first count ≡ Ok o → t.ss ≡ t.ds → t.dma ≡ s.dma → BlocksStand p lines fetch choices used keeps first count s t
    stand walked segments dma = record {
      outcome = o;
      walked = walked;
      env = h.env;
      run80 = r;
      run86 = w;
      envs = envs;
      memory = after.memory;
      dma = w.dma ∙ dma ∙ sym r.dma;
      segments = w.stack_segment ∙ segments ∙ sym w.data_segment;
      exits = m.exit;
      ways = ways_meet terms (places (offsets_of lines)) e d envs x.exit o.exit r.way w.way m.exit r.takes w.takes;
      way_is_sorted = way_sorted d o.exit w.way sorted.exit w.takes;
      parts = kept_stands;
      sp = sp_same;
      not_lost = λ q direct. none_lost keeps x o q (m.none_bad q) direct;
    }

  pub blocks_stand : MatchingBlocksStand
  blocks_stand p lines fetch choices cut keeps first count x y is assembled coded reads block matches labels l at =
      by_run (law80 p first count x.state is block l.state80 at)
    where
      walked : (o : Outcome) × (walk86 p (statements lines) (keeps.at first) first count ≡ Ok o) × Matches keeps (block80 p first count) o
      walked = walk_matches keeps (block80 p first count) (walk86 p (statements lines) (keeps.at first) first count) matches

      envs : HasEnvs p (offsets_of lines) (keeps.at first) x.state y.state
      envs = subst (λ q. HasEnvs p (offsets_of lines) (kept_at keeps q) x.state y.state) at (have_envs p (offsets_of lines) cut keeps x y labels l)

      run86 : WalkRuns86 p fetch (offsets_of lines) choices y.used count walked.0 y.state envs.env
      run86 =
          law86 p lines fetch (keeps.at first) first count walked.0 choices y.used y.state envs.env assembled coded reads block walked.1 l.state86 l.segments
          (subst (λ q. places (offsets_of lines) q ≡ Some y.state.ip) at l.at_label) envs.is_env

      sorted : OutcomeIsSorted walked.0
      sorted = subst (λ r. IfOk r OutcomeIsSorted) walked.1 (sorts.walk86 p (statements lines) (keeps.at first) first count coded)

      by_run : BlockLeaves80 p count x.state ⊎ BlockRuns80 p count (block80 p first count) x.state → BlockLeaves80 p count x.state ⊎ BlocksStand p lines fetch choices y.used keeps first count x.state y.state
      by_run (inl left) = inl left
      by_run (inr r) = inr (stand p lines fetch choices y.used keeps first count x.state y.state walked.0 walked.2 sorted envs r run86 walked.1 l.segments l.dma)
