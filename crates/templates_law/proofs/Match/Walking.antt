-- The walk through the statements of a block beside the block: from its first instruction to its exit.
use Rattle.std.proofs.Common.{◌≡◌, ℕ, suc, ◌-◌, ◌*◌, ◌≤◌, Bool, true, false, List, [], ◌∷◌, ◌++◌, length, None, refl, sym, ap, ◌∙◌, subst, arith, append_assoc}
use Rattle.std.specs.Prelude.{◌&&◌, ◌||◌, Result, Ok}
use Rattle.std.proofs.lemmas.Bool.{and_parts, cond_both, not-true, true≢false, false≢true}
use Rattle.cells.specs.declared.Part.{Part}
use Rattle.cells.specs.declared.Part.TheVariants.{B, C, L}
use Rattle.cells.specs.declared.Cond.{Cond}
use Rattle.cells.specs.declared.Cond.TheVariants.{Nz, Z, Nc, C as Carry, Po, Pe, P as Plus, M as Minus}
use Rattle.cells.specs.Parts.{has}
use Rattle.i80.specs.declared.Goal.{Goal}
use Rattle.i80.specs.declared.Goal.TheVariants.{Bdos as ToBdos}
use Rattle.i80.specs.declared.Instr80.{Instr80}
use Rattle.i80.specs.declared.Instr80.TheVariants.{Jif, Call, Cif, Rif}
use Rattle.i80.specs.Columns.{ends80, uses80, flag_of_condition, asked_of}
use Rattle.i86.specs.declared.Instr86.TheVariants.{Int224}
use Rattle.asm86_line_types.specs.declared.line.Label.TheVariants.{At}
use Rattle.asm86_line_types.specs.declared.line.Stmt86.{Stmt86}
use Rattle.asm86_line_types.specs.declared.line.Stmt86.TheVariants.{Mark, Run, Jcc}
use Rattle.asm80_types.specs.declared.program.Placed.{Placed}
use Rattle.asm80_types.specs.Program.{Program, is_start}
use Rattle.templates.specs.Template.{template, label_of_goal}
use Rattle.flow.specs.Blocks.{end_of}
use Rattle.flow.specs.Need.{NeedsAreClosed}
use Rattle.flow.specs.Solving.{Needs, AreAllNeeds}
use Rattle.templates.specs.Style.{Style, ends_by_sahf, begins_by_lahf, is_pair, knows_function, jump_if, without_first_if, without_last_if, written_as, label_within, block_from}
use Rattle.sym_block_def.specs.Outcome.{Exit, Outcome}
use Rattle.sym_block_def.specs.declared.reason.Reason.{Reason}
use Rattle.sym_block_def.specs.Block80.{Symbolic80, effect80, exit80, outcome80, outcome_from}
use Rattle.sym_block_def.specs.Symbolic86.{Symbolic86}
use Rattle.sym_block_def.specs.Walk86.{Surroundings, after_label, met, met_label, is_call, outcome86, walk_through}
use Rattle.sym_block_def.specs.Sorts.{AreSorted80, AreSorted86, StepsKeepSorts}
use Rattle.sym_block_def.proofs.Exits.{exit_falls}
use Rattle.sym_block_def.specs.BlockMatch.{kept_by_exit, lost_by, walked_reason}
use Rattle.simulation_def.specs.Needed.{needed_by}
use Rattle.templates_law.specs.Match.Meeting.{Among, Agree}
use Rattle.templates_law.specs.Match.Rows.{all_passed, RowsAgree, RowsKeepSorts, PairsMayGo}
use Rattle.templates_law.proofs.Match.Row.{in_first}
use Rattle.templates_law.specs.Match.Exits.{StatementsArePassed, TemplatesAreWalked, EndsBehind, SkipsTo, WalkEnds, JumpsWhere, ExitsAgree}
use Rattle.templates_law.proofs.Match.PlainMatching.{end_keeps}
use Rattle.templates_law.proofs.Match.PlainReasons.{no_reason}
use Rattle.templates_law.specs.Match.Own.{Respects}
use Rattle.templates_law.proofs.Match.Runs.{IsOf, AreOf, IsRun, AllPassed, end_from, instrs_of}
use Rattle.templates_law.proofs.Match.Standing.{Skips, LastSkips}
use Rattle.templates_law.proofs.Match.Needing.{used, goto_kept, kept_needed, none_lost}
use Rattle.templates_law.proofs.Match.Knowing.{number_known}
use Rattle.templates_law.proofs.Match.Leaving.{left_fewer}
use Rattle.templates_law.proofs.Match.Written.{straight_as, written_on, end_begins, ahead}
use Rattle.templates_law.proofs.Match.Steps.{agree_behind, sorted_behind80, sorted_behind86, Passes, passes}

-- the one short jump is that of the condition
jumps_where : (c : Cond) → JumpsWhere c (jump_if c)
jumps_where Nz = record { flag = λ x. refl; value = refl }
jumps_where Z = record { flag = λ x. refl; value = refl }
jumps_where Nc = record { flag = λ x. refl; value = refl }
jumps_where Carry = record { flag = λ x. refl; value = refl }
jumps_where Po = record { flag = λ x. refl; value = refl }
jumps_where Pe = record { flag = λ x. refl; value = refl }
jumps_where Plus = record { flag = λ x. refl; value = refl }
jumps_where Minus = record { flag = λ x. refl; value = refl }

-- where the walk ends by a template, or by what is written in its place
record Ended (s : Style) (x : Placed) (i : Instr80) (walked : Result Outcome Reason) (t : Symbolic86) (exit : Exit) : Type 0 where
  direct : Bool
  ends : WalkEnds walked t direct exit
  calls : direct ≡ true → (i ≡ Call ToBdos) × (s.directs x ≡ true)

module _ (p : Program) (n : Needs) (s : Style) (closed : NeedsAreClosed p) (are : AreAllNeeds p n) (respects : Respects p n s) (sorts : StepsKeepSorts) (rows : RowsAgree) (keep : RowsKeepSorts) (pairs : PairsMayGo) (passed : StatementsArePassed) (walks : TemplatesAreWalked) (exits : ExitsAgree) (w : Surroundings) (rest : List Stmt86) (g : w.goes_on ≡ is_start p w.after) (b : EndsBehind w rest) where
  -- the last instruction, where it ends the block

  module _ (x : Placed) (st : Symbolic80) (t : Symbolic86) (room : ℕ) (agree : Agree (Among (n.at x.at)) st t) where
    abbrev EndedBy : Instr80 → List Stmt86 → Type 0
    EndedBy i xs = Ended s x i (walk_through w (suc (suc room)) (met w (xs ++ rest)) t) t (exit80 p w.after st i)

    by_template : (i : Instr80) → ends80 i ≡ true → ((q : Part) → Among (uses80 i) q → Among (n.at x.at) q) → SkipsTo w i x.at rest → EndedBy i (template i x.at (s.saves x))
    by_template i e u skip = record { direct = false; ends = exits.ending p w (n.at x.at) i x.at room (s.saves x) rest st t e g b skip u agree; calls = λ f. absurd (false≢true f) }

    by_short : (on : Cond) (goal : Goal) → ((q : Part) → Among (uses80 (Jif on goal)) q → Among (n.at x.at) q) → EndedBy (Jif on goal) (Jcc (jump_if on) (label_of_goal goal) ∷ [])
    by_short on goal u = record {
      direct = false;
      ends = exits.short p w (n.at x.at) on goal (jump_if on) (suc room) rest st t (jumps_where on) g b (λ q h. u q (in_first (flag_of_condition on) (asked_of goal) q h)) agree;
      calls = λ f. absurd (false≢true f);
    }

    by_call : (c : Bool) → (c ≡ true → is_call st.held.c ≡ true) → ((q : Part) → Among (uses80 (Call ToBdos)) q → Among (n.at x.at) q) → (c && s.directs x) ≡ true → EndedBy (Call ToBdos) (Run Int224 ∷ [])
    by_call c known u e =
        let both = and_parts c (s.directs x) e in
        record { direct = true; ends = exits.direct p w (n.at x.at) (suc room) rest st t (known both.0) (u C refl) g b agree; calls = λ f. (refl, both.1) }

    ended : (c : Bool) → (c ≡ true → is_call st.held.c ≡ true) → (i : Instr80) → ends80 i ≡ true → ((q : Part) → Among (uses80 i) q → Among (n.at x.at) q) → Skips s (after_label w.text) x rest i → EndedBy i (written_as s false false c x i)
    ended c known (Jif on goal) e u skip =
        cond_both (s.shortens x) (Jcc (jump_if on) (label_of_goal goal) ∷ []) (template (Jif on goal) x.at (s.saves x)) (EndedBy (Jif on goal)) (λ q. by_short on goal u) (λ q. by_template (Jif on goal) refl u (skip q))
    ended c known (Call ToBdos) e u skip =
        cond_both (c && s.directs x) (Run Int224 ∷ []) (template (Call ToBdos) x.at (s.saves x)) (EndedBy (Call ToBdos)) (λ q. by_call c known u q) (λ q. by_template (Call ToBdos) refl u tt)
    ended c known (Cif on goal) e u skip = by_template (Cif on goal) refl u skip
    ended c known (Rif on) e u skip = by_template (Rif on) refl u skip
    ended c known i e u skip = by_template i e u tt

  abbrev Leaves : List Placed → Placed → Symbolic80 → Symbolic86 → Bool → Bool → ℕ → Type 0
  Leaves xs x st t first c room =
      walked_reason (needed_by p n) (outcome_from p x.at (x.instr ∷ instrs_of xs) st) (walk_through w room (met w (block_from s first c (x ∷ xs) ++ rest)) t) ≡ None

  module _ (x : Placed) (is : IsOf p x) (after : w.after ≡ end_of x) (skip : Skips s (after_label w.text) x rest x.instr) (st : Symbolic80) (t : Symbolic86) (room : ℕ) (enough : 10 ≤ room) where
    -- nothing that is needed is lost
    lost_none : (walked : Result Outcome Reason) (y : Ended s x x.instr walked t (exit80 p (end_of x) st x.instr)) (q : Part) → (y.direct && has (lost_by (needed_by p n) (exit80 p (end_of x) st x.instr)) q) ≡ false
    lost_none walked y q = by_direct y.direct y.calls
      where
        by_direct : (d : Bool) → (d ≡ true → (x.instr ≡ Call ToBdos) × (s.directs x ≡ true)) → (d && has (lost_by (needed_by p n) (exit80 p (end_of x) st x.instr)) q) ≡ false
        by_direct false h = refl
        by_direct true h =
            let calls = h refl in
            ap (λ i. has (lost_by (needed_by p n) (exit80 p (end_of x) st i)) q) calls.0
            ∙ none_lost p n closed are (end_of x) (not-true (has (n.at (end_of x)) B || has (n.at (end_of x)) L) (respects.directs x is.found calls.1)) q

    last_ends : (c : Bool) → (c ≡ true → is_call st.held.c ≡ true) → ends80 x.instr ≡ true → Agree (Among (n.at x.at)) st t → Leaves [] x st t false c room
    last_ends c known e agree =
        ap (λ zs. walked_reason (needed_by p n) outcome (walk_through w room (met w zs) t)) (append_assoc written [] rest)
        ∙ ap (λ m. walked_reason (needed_by p n) outcome (walk_through w m (met w (written ++ rest)) t)) two
        ∙ ap (walked_reason (needed_by p n) outcome) y.ends.is
        ∙ ap (λ u. walked_reason (needed_by p n) (outcome80 u (exit80 p (end_of x) u x.instr)) (Ok (outcome86 t y.direct y.ends.exit86))) (end_keeps st x.instr e)
        ∙ no_reason (n.at x.at) (needed_by p n) st t y.direct (exit80 p (end_of x) st x.instr) y.ends.exit86 agree y.ends.agrees (kept_needed p n closed are x is e st) (lost_none (walk_through w (suc (suc (room - 2))) (met w (written ++ rest)) t) y)
      where
        written : List Stmt86
        written = written_as s false false c x x.instr

        outcome : Outcome
        outcome = outcome80 (effect80 st x.instr) (exit80 p (end_of x) (effect80 st x.instr) x.instr)

        two : room ≡ suc (suc (room - 2))
        two = omega (arith, enough)

        y : Ended s x x.instr (walk_through w (suc (suc (room - 2))) (met w (written ++ rest)) t) t (exit80 p (end_of x) st x.instr)
        y = subst (λ a. Ended s x x.instr (walk_through w (suc (suc (room - 2))) (met w (written ++ rest)) t) t (exit80 p a st x.instr)) after (ended x st t (room - 2) agree c known x.instr e (used p n closed are x is) skip)

    last_falls : (first c : Bool) → (first ≡ true → begins_by_lahf (s.saves x) x.instr ≡ true) → AreSorted80 st → AreSorted86 t → ends80 x.instr ≡ false → Agree (Among (n.at x.at)) st (ahead first t) → Leaves [] x st t first c room
    last_falls first c starts sorted80 sorted86 e agree =
        ap (λ zs. walked_reason (needed_by p n) outcome (walk_through w room (met w zs) t)) (append_assoc (written_as s first false c x x.instr) [] rest)
        ∙ ap (λ zs. walked_reason (needed_by p n) outcome (walk_through w room (met w (zs ++ rest)) t)) (written_on s first false c x x.instr e)
        ∙ ap (walked_reason (needed_by p n) outcome) (y.is ∙ z.is)
        ∙ no_reason (n.at (end_of x)) (needed_by p n) (effect80 st x.instr) (all_passed t xs) false (exit80 p (end_of x) (effect80 st x.instr) x.instr) z.exit86 (agree_behind p n s closed are respects sorts rows keep pairs x is e st t sorted80 sorted86 first starts agree false (λ f. absurd (cc))) z.agrees kept (λ q. refl)
      where
        xs : List Stmt86
        xs = without_first_if first (without_last_if false (template x.instr x.at (s.saves x)))

        outcome : Outcome
        outcome = outcome80 (effect80 st x.instr) (exit80 p (end_of x) (effect80 st x.instr) x.instr)

        y : Passes w xs rest room 0 t
        y =
            let few = walks.few x.instr x.at (s.saves x) in
            let less = left_fewer first false (template x.instr x.at (s.saves x)) in
            passes passed w xs rest room 0 t (straight_as first false (template x.instr x.at (s.saves x)) (walks.straight x.instr x.at (s.saves x) e)) (omega (arith, few, less)) (omega (arith, enough))

        z : WalkEnds (walk_through w y.left (met w rest) (all_passed t xs)) (all_passed t xs) false (exit80 p (end_of x) (effect80 st x.instr) x.instr)
        z = subst (λ a. WalkEnds (walk_through w y.left (met w rest) (all_passed t xs)) (all_passed t xs) false (exit80 p a (effect80 st x.instr) x.instr)) after (exits.falling p w x.instr y.left rest (effect80 st x.instr) (all_passed t xs) e g b)

        kept : (q : Part) → Among (kept_by_exit (needed_by p n) (exit80 p (end_of x) (effect80 st x.instr) x.instr)) q → Among (n.at (end_of x)) q
        kept q c = goto_kept p n closed are (end_of x) q (subst (λ (v : Exit). Among (kept_by_exit (needed_by p n) v) q) (exit_falls p (end_of x) (effect80 st x.instr) x.instr e) c)

    last_one : (first c : Bool) → (first ≡ true → begins_by_lahf (s.saves x) x.instr ≡ true) → (c ≡ true → is_call st.held.c ≡ true) → AreSorted80 st → AreSorted86 t → Agree (Among (n.at x.at)) st (ahead first t) → Leaves [] x st t first c room
    last_one first c starts known sorted80 sorted86 agree = by_end (ends80 x.instr) refl
      where
        alone : ends80 x.instr ≡ true → (f : Bool) → first ≡ f → f ≡ false → Leaves [] x st t first c room
        alone e true q r = absurd (true≢false r)
        alone e false q r =
            subst (λ f. Leaves [] x st t f c room) (sym q) (last_ends c known e (subst (λ f. Agree (Among (n.at x.at)) st (ahead f t)) q agree))

        by_end : (z : Bool) → ends80 x.instr ≡ z → Leaves [] x st t first c room
        by_end true e = alone e first refl (end_begins first (s.saves x) x.instr starts e)
        by_end false e = last_falls first c starts sorted80 sorted86 e agree

  -- a label of the block is passed
  label_passed : (xs : List Placed) (more : List Stmt86) → AllPassed w xs → met w ((label_within s xs ++ more) ++ rest) ≡ met w (more ++ rest)
  label_passed [] more h = refl
  label_passed (x ∷ xs) more h =
      cond_both s.all_labels (Mark (At x.at) ∷ []) [] (λ ys. met w ((ys ++ more) ++ rest) ≡ met w (more ++ rest)) (λ q. ap (λ z. met_label z (At x.at) (met w (more ++ rest))) h.0) (λ q. refl)

  pub walked : (x : Placed) (xs : List Placed) (first c : Bool) (room : ℕ) (st : Symbolic80) (t : Symbolic86) → AreOf p (x ∷ xs) → IsRun (x ∷ xs) → AllPassed w xs → w.after ≡ end_from (end_of x) xs → LastSkips s (after_label w.text) rest (x ∷ xs) → (first ≡ true → begins_by_lahf (s.saves x) x.instr ≡ true) → (c ≡ true → is_call st.held.c ≡ true) → 10 * suc (length xs) ≤ room → AreSorted80 st → AreSorted86 t → Agree (Among (n.at x.at)) st (ahead first t) → Leaves xs x st t first c room
  walked x [] first c room st t of run labels after skip starts known enough sorted80 sorted86 agree =
      last_one x of.0 after skip st t room (omega (arith, enough)) first c starts known sorted80 sorted86 agree
  walked x (y ∷ ys) first c room st t of run labels after skip starts known enough sorted80 sorted86 agree =
      ap (λ zs. walked_reason (needed_by p n) outcome (walk_through w room (met w zs) t)) (append_assoc (written_as s first last c x x.instr) (label_within s (y ∷ ys) ++ more) rest)
      ∙ ap (λ zs. walked_reason (needed_by p n) outcome (walk_through w room (met w (zs ++ ((label_within s (y ∷ ys) ++ more) ++ rest))) t)) (written_on s first last c x x.instr run.0)
      ∙ ap (walked_reason (needed_by p n) outcome) (z.is ∙ ap (λ m. walk_through w z.left m (all_passed t xs)) (label_passed (y ∷ ys) more labels))
      ∙ ap (λ a. walked_reason (needed_by p n) (outcome_from p a (y.instr ∷ instrs_of ys) (effect80 st x.instr)) (walk_through w z.left (met w (more ++ rest)) (all_passed t xs))) run.1
      ∙ walked y ys last (knows_function c x.instr) z.left (effect80 st x.instr) (all_passed t xs) of.1 run.2 labels.1 after skip
      (λ e. (and_parts (ends_by_sahf (s.saves x) x.instr) (begins_by_lahf (s.saves y) y.instr) (and_parts s.pairs _ e).1).1)
      (number_known c st x.instr known) (z.enough)
      (sorted_behind80 p n s closed are respects sorts rows keep pairs x of.0 run.0 st t sorted80 sorted86 first starts agree)
      (sorted_behind86 p n s closed are respects sorts rows keep pairs x of.0 run.0 st t sorted80 sorted86 first starts agree last)
      (subst (λ a. Agree (Among (n.at a)) (effect80 st x.instr) (ahead last (all_passed t xs))) run.1
      (agree_behind p n s closed are respects sorts rows keep pairs x of.0 run.0 st t sorted80 sorted86 first starts agree last
      (λ e. (and_parts (ends_by_sahf (s.saves x) x.instr) (begins_by_lahf (s.saves y) y.instr) (and_parts s.pairs _ e).1).0)))
    where
      last : Bool
      last = is_pair s x (y ∷ ys)

      xs : List Stmt86
      xs = without_first_if first (without_last_if last (template x.instr x.at (s.saves x)))

      more : List Stmt86
      more = block_from s last (knows_function c x.instr) (y ∷ ys)

      outcome : Outcome
      outcome = outcome_from p x.at (x.instr ∷ instrs_of (y ∷ ys)) st

      z : Passes w xs ((label_within s (y ∷ ys) ++ more) ++ rest) room (10 * suc (length ys)) t
      z =
          let few = walks.few x.instr x.at (s.saves x) in
          let less = left_fewer first last (template x.instr x.at (s.saves x)) in
          passes passed w xs ((label_within s (y ∷ ys) ++ more) ++ rest) room (10 * suc (length ys)) t (straight_as first last (template x.instr x.at (s.saves x)) (walks.straight x.instr x.at (s.saves x) run.0)) (omega (arith, few, less)) (omega (arith, enough))
