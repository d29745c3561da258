-- One block is linked, by the way that both machines take.
use Rattle.std.proofs.Common.{◌≡◌, ℕ, ◌+◌, ◌*◌, ◌-◌, ◌≤◌, ◌<◌, Bool, true, false, List, [], ◌∷◌, ◌++◌, Option, Some, None, Ok, refl, sym, ap, subst, ◌∙◌, arith, append_assoc, ◌⊎◌, inl, inr}
use Rattle.std.proofs.lemmas.Bool.{and_parts, eqb-true}
use Rattle.cells.specs.declared.Place.{Place}
use Rattle.cells.specs.declared.Place.TheVariants.{At, Exit as EndPlace}
use Rattle.cells.specs.declared.Rule.{Rule}
use Rattle.cells.specs.declared.Part.{Part}
use Rattle.cells.specs.declared.Part.TheVariants.{B, C, D, E, L}
use Rattle.cells.specs.Parts.{has}
use Rattle.i86.specs.declared.Instr86.{Instr86}
use Rattle.i86.specs.declared.Instr86.TheVariants.{OrClCl}
use Rattle.i86.specs.declared.Jump.TheVariants.{Jz}
use Rattle.i86.specs.Code.{ReadsCode}
use Rattle.dialogue.specs.Run.{Answer, Ends, Machine, Run, settle, turns, IsNotStopped}
use Rattle.dialogue.proofs.Turns.{turns_add}
use Rattle.asm86_line_types.specs.declared.line.Label.{Label}
use Rattle.asm86_line_types.specs.declared.line.Label.TheVariants.{At as AtLabel, Sys as SysLabel, End as EndLabel}
use Rattle.asm86_line_types.specs.declared.line.Stmt86.{Stmt86}
use Rattle.asm86_line_types.specs.declared.line.Stmt86.TheVariants.{Mark, Run as Runs, Jcc}
use Rattle.asm86_line_types.specs.declared.line.Line86.{Line86}
use Rattle.asm86_line_types.specs.Layout.{offset_of, place_of}
use Rattle.asm86_line_types.specs.Image.{image_of, statements, UsesDefined}
use Rattle.asm80_types.specs.Program.{Program}
use Rattle.cpu80_tagged.specs.State.{State80}
use Rattle.cpu80_tagged.specs.Call.{popped_return}
use Rattle.cpu80_tagged.specs.Step.{step80, step_at, machine80}
use Rattle.cpu86.specs.State.{State86}
use Rattle.cpu86.specs.Call.{Stop}
use Rattle.cpu86.specs.Step.{machine86}
use Rattle.sym_terms.specs.Values80.{Env80}
use Rattle.sym_terms.specs.Values86.{Env86}
use Rattle.sym_block_def.specs.declared.reason.Reason.TheVariants.{Missing}
use Rattle.sym_block_def.specs.Outcome.{Way, Goto, ByTerms, Call, Sys, SysReturn, Boot, Leave, In, Out, Exit, One, Two, Outcome}
use Rattle.sym_block_def.specs.Block80.{block80, instrs_from}
use Rattle.sym_block_def.specs.Walk86.{after_label, walk86, walk_behind, surroundings}
use Rattle.sym_block_def.specs.Symbolic86.{start86}
use Rattle.sym_block_def.specs.Agree.{agrees, way_agrees, exit_agrees}
use Rattle.sym_block_def.specs.BlockMatch.{Keeps, kept_after_way, lost_by, is_last}
use Rattle.sym_block_def.specs.Sorts.{WayIsSorted}
use Rattle.sym_block_def.specs.Stands.{label_of}
use Rattle.simulation_def.specs.Steps.{RunsOn}
use Rattle.simulation_def.specs.Runs80.{env80, Answers80, Takes80, BlockLeaves80, going_on}
use Rattle.simulation_def.specs.Runs86.{with_loads, offsets_of, Leaves86, LeavesAsking86}
use Rattle.simulation_def.specs.Runtime.{RuntimesRun86}
use Rattle.simulation_def.specs.Linked.{HasBlock, HasBlockAt, StandsIn, places, Linked, Paired}
use Rattle.dialogue.specs.Sight.{WhoSeesMoreAsksTheSame}
use Rattle.simulation_law.specs.Linked.{EnvsStand, AgreeingTermsStand}
use Rattle.simulation_law.specs.Environments.{HasLabels}
use Rattle.sym_sound.proofs.Machine86.Positions.{behind_is, offsets_are, offset_within, defined_here, place_is}
use Rattle.dialogue.proofs.Tried.{err_is_not}
use Rattle.simulation_law.specs.Matching.{BlocksStand, MatchingBlocksStand}
use Rattle.simulation_law.proofs.Reasons.{walk_matches}
use Rattle.simulation_law.specs.Linking.{WriteBytes, BlocksMatch, BlockLinks, BlocksAreLinked}
use Rattle.simulation_law.proofs.Exits.{IsWayOf, way_in}
use Rattle.simulation_law.proofs.Running.{moved, turn_is, run_turns, run_quiet, runs_any, leaves_quiet, leaves_stopped}
use Rattle.simulation_law.proofs.Going.{Follows, ends_follow}
use Rattle.simulation_law.proofs.System.{AtSystem, called, jumped}
use Rattle.cells.specs.Places.{same_place}
use Rattle.cells.proofs.SamePlace.{same_place_is}
use Rattle.simulation_law.proofs.Ways.{Matched, Ended, one_stack, goto, boot, by_terms, call, asks_in, asks_out, through_runtime, directly}

-- the places that are held have labels

module _ (p : Program) (lines : List Line86) (cut : List (ℕ × ℕ)) (keeps : Keeps) (set : BlocksMatch p lines cut keeps) where
  at_offset : (l : Label) (n : ℕ) → offset_of (statements lines) l ≡ Some n → (k : ℕ) × (offsets_of lines l ≡ Some k) × (k < 0x10000)
  at_offset l n h = (n, offsets_are lines l ∙ h, offset_within (statements lines) l n set.assembles.small h)

  walked_label : (first count : ℕ) (o : Outcome) → walk86 p (statements lines) (keeps.at first) first count ≡ Ok o → (k : ℕ) × (offsets_of lines (AtLabel first) ≡ Some k) × (k < 0x10000)
  walked_label first count o h = by_behind (after_label (statements lines) (AtLabel first)) refl h
    where
      by_behind : (q : Option (List Stmt86)) → after_label (statements lines) (AtLabel first) ≡ q → walk_behind (surroundings p (statements lines) first (instrs_from p first count)) (10 * count) (start86 (keeps.at first)) q ≡ Ok o → (k : ℕ) × (offsets_of lines (AtLabel first) ≡ Some k) × (k < 0x10000)
      by_behind None e g = absurd (err_is_not Missing o g)
      by_behind (Some xs) e g = let b = behind_is (statements lines) xs (AtLabel first) e in at_offset (AtLabel first) b.0 b.1

  block_label : (first count : ℕ) → HasBlock cut first count → (k : ℕ) × (offsets_of lines (AtLabel first) ≡ Some k) × (k < 0x10000)
  block_label first count has =
      let w = walk_matches keeps (block80 p first count) (walk86 p (statements lines) (keeps.at first) first count) (set.match first count has) in
      walked_label first count w.0 w.1

  pub end_label : (k : ℕ) × (offsets_of lines EndLabel ≡ Some k) × (k < 0x10000)
  end_label =
      let before = set.runtime.before ++ (Mark SysLabel ∷ (Runs OrClCl ∷ [])) in
      let is : statements lines ≡ before ++ (Jcc Jz EndLabel ∷ _) = set.runtime.is ∙ sym (append_assoc set.runtime.before (Mark SysLabel ∷ (Runs OrClCl ∷ [])) _) in
      let d = defined_here (statements lines) before (Jcc Jz EndLabel) _ (subst (λ xs. UsesDefined (statements lines) xs) is set.assembles.defined) in
      at_offset EndLabel (place_of (statements lines) EndLabel) (place_is (statements lines) EndLabel d.0)

  held_labels : HasLabels p (offsets_of lines)
  held_labels (At a) h = let f = set.is_cut.taken a h.0 h.1 in block_label a f.0 f.1
  held_labels EndPlace h = end_label

-- of two exits that agree, where the second is one way, so is the first, unless it leaves the profile

one_taken : (e : Env80) (x : Exit) (taken c : Way) → exit_agrees x (One c) ≡ true → Takes80 e x taken → x ≡ One taken
one_taken e (One w) taken c h t = ap One (sym t)
one_taken e (Two f v a b) taken c h t = absurd (cc)

module _ (matched : Matched) where
  open matched use {beside, set, count}
  open matched.beside use {p, lines, cut, keeps, fetch}

  abbrev offset : Label → Option ℕ
  offset = offsets_of lines

  abbrev M80 : Machine State80 Rule
  M80 = machine80 p

  module _ (n : Ended matched) (e : Env80) (d : Env86) (envs : EnvsStand (places offset) e d) (direct : Bool) where
    open n use {x, y, t, u, w, steps}

    abbrev Then : Answer State80 Rule → Type 0
    Then a = Follows beside (16 * count) (settle M80 [] x a) y

    abbrev Left : Way → Type 0
    Left c = Leaves86 p fetch offset count d u c steps w ⊎ LeavesAsking86 p fetch offset count direct u c steps w

    -- what is so of the way that is taken
    record Taken (a : Way) : Type 0 where
      in_cut : IsWayOf p cut a
      parts : (q : Part) → has (kept_after_way keeps a) q ≡ true → StandsIn (places offset) t u q
      sp : is_last a ≡ false → u.sp ≡ t.sp
      not_lost : direct ≡ true → (q : Part) → has (lost_by keeps (One a)) q ≡ false

    follows : (a c : Way) (ans : Answer State80 Rule) → Taken a → way_agrees a c ≡ true → WayIsSorted c → Answers80 p e t a ans → Left c → Then ans
    follows Leave c ans k h s ans80 lv = absurd ans80
    follows (Goto q) (Goto r) ans k h s ans80 (inl lv) =
        let is = same_place_is q r h in
        subst Then (sym ans80.1)
        (goto matched n q k.in_cut (subst (λ z. Rattle.simulation_def.specs.Runs86.StandsAtLabel offset (label_of z) u w) (sym is) lv.leads) (k.sp refl) k.parts lv.some)
    follows (Goto q) (Goto r) ans k h s ans80 (inr lv) = absurd lv.asks
    follows (ByTerms i j) (ByTerms v z) ans k h s ans80 (inl lv) =
        let both = and_parts (agrees i v) (agrees j z) h in
        by_terms matched n e d envs (k.sp refl) k.parts lv.some i j v z s both.0 both.1 ans ans80 lv.leads
    follows (ByTerms i j) (ByTerms v z) ans k h s ans80 (inr lv) = absurd lv.asks
    follows (Call q (At c)) (Call r back) ans k h s ans80 (inl lv) =
        let both = and_parts (same_place q r) (same_place (At c) back) h in
        let same_target = same_place_is q r both.0 in
        let same_back = same_place_is (At c) back both.1 in
        subst Then (sym ans80.4)
        (call matched n q c k.in_cut.0 ans80.2 ans80.0 ans80.3
        (subst (λ z. Rattle.simulation_def.specs.Runs86.Called offset (Rattle.simulation_def.specs.Runs86.ComesBackTo offset z) (label_of q) u w) (sym same_back) (subst (λ z. Rattle.simulation_def.specs.Runs86.Called offset (Rattle.simulation_def.specs.Runs86.ComesBackTo offset back) (label_of z) u w) (sym same_target) lv.leads))
        (k.sp refl) k.parts lv.some)
    follows (Call q (At c)) (Call r back) ans k h s ans80 (inr lv) = absurd lv.asks
    follows (Call q EndPlace) c ans k h s ans80 lv = absurd k.in_cut.1
    follows (Sys (At c)) (Sys back) ans k h s ans80 (inl lv) =
        let is = same_place_is (At c) back h in
        let at = subst (λ z. Rattle.simulation_def.specs.Runs86.Called offset (Rattle.simulation_def.specs.Runs86.GoesOnAt p offset z) SysLabel u w) (sym is) lv.leads in
        let sp = k.sp refl in
        let s86 : AtSystem (one_stack matched n sp) (going_on p t (At c)) w = subst (λ (z : State86). AtSystem (one_stack matched n sp) (going_on p t (At c)) z) (sym at.3.2) (called (one_stack matched n sp) c at.0 at.3.0 k.in_cut at.1 at.2 at.3.1) in
        through_runtime matched n sp (k.parts C refl) (k.parts D refl) (k.parts E refl) (going_on p t (At c)) ans80.0 s86 ans ans80.1
    follows (Sys (At c)) (Sys back) ans k h s ans80 (inr lv) =
        let is = same_place_is (At c) back h in
        let goes = subst (λ z. Rattle.simulation_def.specs.Runs86.GoesOnAt p offset z lv.asks.0) (sym is) lv.asks.3 in
        let sp = k.sp refl in
        directly matched n sp (k.parts C refl) (k.parts D refl) (k.parts E refl) (going_on p t (At c)) ans80.0 c lv.asks.0 refl k.in_cut goes lv.asks.2 lv.asks.4 lv.few (k.not_lost lv.asks.1 B) (k.not_lost lv.asks.1 L) ans ans80.1
    follows (Sys EndPlace) c ans k h s ans80 lv = absurd k.in_cut
    follows SysReturn SysReturn ans k h s ans80 (inl lv) =
        let at = lv.leads in
        let sp = k.sp refl in
        let s86 : AtSystem (one_stack matched n sp) (popped_return p t) w = subst (λ (z : State86). AtSystem (one_stack matched n sp) (popped_return p t) z) (sym at.2) (jumped (one_stack matched n sp) at.0 at.1) in
        through_runtime matched n sp (k.parts C refl) (k.parts D refl) (k.parts E refl) (popped_return p t) ans80.0 s86 ans ans80.1
    follows SysReturn SysReturn ans k h s ans80 (inr lv) = absurd lv.asks
    follows Boot Boot ans k h s ans80 (inl lv) =
        subst Then (sym ans80) (boot matched n lv.leads)
    follows Boot Boot ans k h s ans80 (inr lv) = absurd lv.asks
    follows (In port (At c)) (In port' next) ans k h s ans80 (inr lv) =
        let both = and_parts (Rattle.std.specs.Prelude.◌==◌ port port') (same_place (At c) next) h in
        let same_port : port ≡ port' = eqb-true port port' both.0 in
        let is = same_place_is (At c) next both.1 in
        subst Then (sym ans80.2)
        (asks_in matched n port c k.in_cut ans80.0 ans80.1 lv.asks.0
        (subst (λ z. Rattle.simulation_def.specs.Runs86.GoesOnAt p offset z lv.asks.0) (sym is) lv.asks.1)
        (λ choice. lv.asks.2 choice ∙ ap (λ z. Rattle.dialogue.specs.Run.Asks (Rattle.dialogue.specs.declared.request.Event.TheVariants.In z) (record u { ip = lv.asks.0 })) (sym same_port))
        lv.few (k.sp refl) k.parts)
    follows (In port EndPlace) c ans k h s ans80 lv = absurd k.in_cut
    follows (In port (At c)) (In port' next) ans k h s ans80 (inl lv) = absurd lv.leads
    follows (Out port (At c)) (Out port' next) ans k h s ans80 (inr lv) =
        let both = and_parts (Rattle.std.specs.Prelude.◌==◌ port port') (same_place (At c) next) h in
        let same_port : port ≡ port' = eqb-true port port' both.0 in
        let is = same_place_is (At c) next both.1 in
        subst Then (sym ans80.4)
        (asks_out matched n port ans80.0 c ans80.1 k.in_cut ans80.2 ans80.3 lv.asks.0
        (subst (λ z. Rattle.simulation_def.specs.Runs86.GoesOnAt p offset z lv.asks.0) (sym is) lv.asks.1)
        (λ choice. lv.asks.2 choice ∙ ap (λ z. Rattle.dialogue.specs.Run.Asks (Rattle.dialogue.specs.declared.request.Event.TheVariants.Out z u.regs.al) (record u { ip = lv.asks.0 })) (sym same_port))
        lv.few (k.sp refl) k.parts)
    follows (Out port EndPlace) c ans k h s ans80 lv = absurd k.in_cut
    follows (Out port (At c)) (Out port' next) ans k h s ans80 (inl lv) = absurd lv.leads
    follows a c ans k h s ans80 lv = absurd (cc)

module _ (terms : AgreeingTermsStand) (same : WhoSeesMoreAsksTheSame) (runtimes : RuntimesRun86) (match : MatchingBlocksStand) where
  module _ (p : Program) (lines : List Line86) (cut : List (ℕ × ℕ)) (keeps : Keeps) (fetch : ℕ → Option Instr86) (choices : List ℕ) (first count : ℕ) (x : Run State80 Rule) (y : Run State86 Stop) (set : BlocksMatch p lines cut keeps) (reads : ReadsCode (image_of lines).code fetch) (in_cut : HasBlock cut first count) (l : Linked p (offsets_of lines) cut keeps x y) (bytes : WriteBytes x.replies) (some_count : 1 ≤ count) where
    abbrev N80 : Machine State80 Rule
    N80 = machine80 p

    abbrev Links : Type 0
    Links = BlockLinks p (offsets_of lines) cut keeps fetch choices count x y

    abbrev matched : Matched
    matched = record {
      beside = record { p = p; lines = lines; cut = cut; keeps = keeps; fetch = fetch; choices = choices };
      terms = terms;
      same = same;
      runtimes = runtimes;
      reads = reads;
      set = set;
      count = count;
      some_count = some_count;
    }

    left : BlockLeaves80 p count x.state → Links
    left b = record {
      turns86 = 1;
      some = omega arith;
      few = omega (arith, some_count);
      quiet = leaves_quiet p count x l.going80 b;
      paired = λ h. absurd (leaves_stopped p count x l.going80 b h);
    }

    module _ (b : BlocksStand p lines fetch choices y.used keeps first count x.state y.state) where
      runs : RunsOn N80 [] (count - 1) x.used x.state b.run80.last
      runs = runs_any p (count - 1) 0 x.used x.state b.run80.last b.run80.runs

      before : (k : ℕ) × (turns N80 [] (count - 1) x ≡ moved N80 [] x b.run80.last k)
      before = run_turns N80 [] (count - 1) x b.run80.last l.going80 runs

      last_turn : turns N80 [] count x ≡ settle N80 [] (moved N80 [] x b.run80.last before.0) (step80 p b.run80.last)
      last_turn =
          let e : count - 1 + 1 ≡ count = omega (arith, some_count) in
          ap (λ n. turns N80 [] n x) (sym e) ∙ turns_add N80 [] (count - 1) 1 x ∙ ap (turns N80 [] 1) before.1 ∙ turn_is N80 [] (moved N80 [] x b.run80.last before.0) l.going80

      steps_few : Leaves86 p fetch (offsets_of lines) count (with_loads b.env b.run86.loads) b.run86.ended b.run86.way b.run86.steps b.run86.arrived ⊎ LeavesAsking86 p fetch (offsets_of lines) count b.outcome.direct b.run86.ended b.run86.way b.run86.steps b.run86.arrived → b.run86.steps ≤ 10 * count
      steps_few (inl v) = v.few
      steps_few (inr v) = let f = v.few in omega (arith, f)

      exit_one : b.outcome.direct ≡ true → (block80 p first count).exit ≡ One b.run80.way
      exit_one h =
          one_taken (env80 x.state b.run80.loads) (block80 p first count).exit b.run80.way b.run86.way
          (subst (λ z. exit_agrees (block80 p first count).exit z ≡ true) (b.run86.one h) b.exits) b.run80.takes

      follow : Follows matched.beside (16 * count) (settle N80 [] (moved N80 [] x b.run80.last before.0) (step80 p b.run80.last)) y
      follow =
          follows matched
          (record {
            x = moved N80 [] x b.run80.last before.0;
            y = y;
            t = b.run80.ended;
            u = b.run86.ended;
            w = b.run86.arrived;
            steps = b.run86.steps;
            few = steps_few b.run86.leaves;
            going80 = l.going80;
            going86 = l.going86;
            dialogue = l.dialogue;
            replies = l.replies;
            bytes = bytes;
            runs = b.run86.runs;
            is80 = b.run80.is_state;
            is86 = b.run86.is_state;
            memory = b.memory;
            segments = b.segments;
            dma = b.dma;
          })
          (env80 x.state b.run80.loads) (with_loads b.env b.run86.loads) b.envs b.outcome.direct b.run80.way b.run86.way (step80 p b.run80.last)
          (record {
            in_cut = way_in p cut set.is_cut first count (env80 x.state b.run80.loads) b.run80.way in_cut b.run80.takes;
            parts = b.parts;
            sp = b.sp;
            not_lost = λ h q. subst (λ z. has (lost_by keeps z) q ≡ false) (exit_one h) (b.not_lost q h);
          })
          b.ways b.way_is_sorted b.run80.answers b.run86.leaves

      stood : Links
      stood =
          let f = follow in
          record {
            turns86 = f.count;
            some = f.some;
            few = f.few;
            quiet = λ i lt. run_quiet N80 [] (count - 1) i x b.run80.last l.going80 runs (omega (arith, lt));
            paired = λ h. subst (λ z. Paired p (offsets_of lines) cut keeps z (turns (machine86 fetch) choices f.count y)) (sym last_turn) (f.paired (subst (λ (z : Run State80 Rule). IsNotStopped z.status) last_turn h));
          }

    by_stand : BlockLeaves80 p count x.state ⊎ BlocksStand p lines fetch choices y.used keeps first count x.state y.state → Links
    by_stand (inl b) = left b
    by_stand (inr b) = stood b

  -- EXIT is a block of one instruction: the 8080 ends in one turn, and the 8086 by the runtime
  at_exit : (p : Program) (lines : List Line86) (cut : List (ℕ × ℕ)) (keeps : Keeps) (fetch : ℕ → Option Instr86) (choices : List ℕ) (x : Run State80 Rule) (y : Run State86 Stop) → BlocksMatch p lines cut keeps → ReadsCode (image_of lines).code fetch → Linked p (offsets_of lines) cut keeps x y → x.state.place ≡ EndPlace → BlockLinks p (offsets_of lines) cut keeps fetch choices 1 x y
  at_exit p lines cut keeps fetch choices x y set reads l at =
      let e = (runtimes lines fetch choices _ y.state set.assembles reads set.runtime l.state86 l.segments).ends (subst (λ q. places (offsets_of lines) q ≡ Some y.state.ip) at l.at_label) in
      let f = ends_follow (record { p = p; lines = lines; cut = cut; keeps = keeps; fetch = fetch; choices = choices }) 16 x y l.going80 l.going86 l.dialogue l.replies 0 y.state refl 2 e (omega arith) in
      let ends : turns (machine80 p) [] 1 x ≡ settle (machine80 p) [] x Ends = turn_is (machine80 p) [] x l.going80 ∙ ap (λ q. settle (machine80 p) [] x (step_at p x.state q)) at in
      record {
        turns86 = f.count;
        some = f.some;
        few = f.few;
        quiet = λ i lt. let e : i ≡ 0 = omega (arith, lt) in ap (λ n. (turns (machine80 p) [] n x).dialogue) e;
        paired = λ h. subst (λ z. Paired p (offsets_of lines) cut keeps z (turns (machine86 fetch) choices f.count y)) (sym ends) (f.paired tt);
      }

  pub blocks_linked : BlocksAreLinked
  blocks_linked p lines cut keeps fetch choices count x y set reads has l bytes = by_place x.state.place refl has
    where
      by_place : (q : Place) → x.state.place ≡ q → HasBlockAt cut q count → BlockLinks p (offsets_of lines) cut keeps fetch choices count x y
      by_place (At first) at in_cut =
          let block = set.is_cut.blocks first count in_cut in
          by_stand p lines cut keeps fetch choices first count x y set reads in_cut l bytes block.some
          (match p lines fetch choices cut keeps first count x y set.program set.assembles set.coded reads block (set.match first count in_cut) (held_labels p lines cut keeps set) l at)
      by_place EndPlace at one =
          subst (λ n. BlockLinks p (offsets_of lines) cut keeps fetch choices n x y) (sym one) (at_exit p lines cut keeps fetch choices x y set reads l at)
