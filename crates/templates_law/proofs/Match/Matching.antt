-- A text in a style that respects what is needed matches each block.
use Rattle.std.proofs.Common.{◌≡◌, ℕ, suc, ◌-◌, ◌*◌, ◌≤◌, ◌==◌, true, false, cond, List, [], ◌∷◌, ◌++◌, drop, length, Option, Some, None, refl, sym, ap, ◌∙◌, subst, arith, append_assoc}
use Rattle.std.specs.Prelude.{is_some}
use Rattle.std.specs.List.{list_any}
use Rattle.std.proofs.lemmas.Bool.{and_parts}
use Rattle.cells.specs.Parts.{nothing}
use Rattle.asm86_line_types.specs.declared.line.Label.TheVariants.{At, Sys}
use Rattle.asm86_line_types.specs.declared.line.Stmt86.{Stmt86}
use Rattle.asm86_line_types.specs.declared.line.Stmt86.TheVariants.{Mark}
use Rattle.asm80_types.specs.declared.program.Placed.{Placed}
use Rattle.asm80_types.specs.Program.{Program, IsProgram, AreLaid, placed_in, is_start}
use Rattle.asm80_types.proofs.Lookup.{length80-positive}
use Rattle.flow.specs.Blocks.{block_at, end_of, BlocksCut}
use Rattle.flow.specs.Need.{NeedsAreClosed}
use Rattle.flow.specs.Solving.{Needs, AreAllNeeds}
use Rattle.flow.proofs.Cuts.{flat}
use Rattle.templates.specs.Style.{Style, ends_by_sahf, begins_by_lahf, is_pair, knows_function, written_as, label_within, block_from, blocks_of, styled_statements}
use Rattle.sym_block_def.specs.Block80.{start80, outcome_from}
use Rattle.sym_block_def.specs.Symbolic86.{Symbolic86, start86}
use Rattle.sym_block_def.specs.Walk86.{Surroundings, surroundings, after_label, is_passed, met, walk_through, walk_some, walk_behind}
use Rattle.sym_block_def.specs.Sorts.{StepsKeepSorts}
use Rattle.sym_block_def.specs.BlockMatch.{walked_reason, block_reason}
use Rattle.simulation_def.specs.Needed.{needed_by}
use Rattle.templates_law.specs.Match.Rows.{RowsAgree, RowsKeepSorts, PairsMayGo}
use Rattle.templates_law.specs.Match.Exits.{StatementsArePassed, TemplatesAreWalked, EndsBehind, ExitsAgree}
use Rattle.templates_law.proofs.Match.PlainStanding.{first_label, first_way, first_is}
use Rattle.templates_law.proofs.Match.PlainMatching.{tail_of}
use Rattle.templates_law.proofs.Match.PlainReasons.{starts_agree}
use Rattle.templates_law.specs.Match.Own.{Respects, OwnBlocksMatch}
use Rattle.templates_law.proofs.Match.Runs.{AreOf, end_from, laid_rest, laid_front, laid_up, placed_past, IsRun, instrs_of, places_of, run_instrs, run_places, run_end, AllPassed, all_passed_by, none_behind, BlockAt, block_is, instrs_are, block_are}
use Rattle.templates_law.proofs.Match.Standing.{LastSkips, rest_of, begins_so, stands_at, stands_last}
use Rattle.templates_law.proofs.Match.Written.{some_written}
use Rattle.templates_law.proofs.Match.Walking.{walked}

module _ (p : Program) (s : Style) (before : List (List Placed)) (x : Placed) (xs : List Placed) (after : List (List Placed)) (run : IsRun (x ∷ xs)) (limit : ℕ) (instrs : p.instrs ≡ flat before ++ ((x ∷ xs) ++ flat after)) (laid : AreLaid 0x100 limit (flat before ++ ((x ∷ xs) ++ flat after))) where
  abbrev around : Surroundings
  around = surroundings p (styled_statements s p) x.at (x.instr ∷ instrs_of xs)

  -- where the block ends
  abbrev end : ℕ
  end = end_from (end_of x) xs

  later_are : around.later ≡ places_of xs
  later_are = ap (drop 1) (run_places x xs run)

  from_block : AreLaid (end_from 0x100 (flat before)) limit ((x ∷ xs) ++ flat after)
  from_block = laid_rest (flat before) ((x ∷ xs) ++ flat after) 0x100 limit laid

  inner_laid : AreLaid (end_of x) limit xs
  inner_laid = laid_front xs (flat after) (end_of x) limit from_block.3

  after_laid : AreLaid end limit (flat after)
  after_laid = laid_rest xs (flat after) (end_of x) limit from_block.3

  labels : AllPassed around xs
  labels = all_passed_by around xs (λ a h. subst (λ (as' : List ℕ). list_any (λ b. b == a) as' ≡ true) (sym later_are) h)

  stops : (zs : List Placed) → AreLaid end limit zs → is_passed around (first_label zs) ≡ false
  stops [] h = refl
  stops (z ∷ zs) h = ap (λ (as' : List ℕ). list_any (λ b. b == z.at) as') later_are ∙ none_behind xs (end_of x) limit z.at inner_laid h.0

  found_behind : is_start p end ≡ true → is_some (placed_in (flat after) end) ≡ true
  found_behind e =
      sym (ap is_some (ap (λ ys. placed_in ys end) instrs ∙ placed_past (flat before) ((x ∷ xs) ++ flat after) 0x100 limit end laid up ∙ placed_past (x ∷ xs) (flat after) (end_from 0x100 (flat before)) limit end from_block le))
      ∙ e
    where
      le : end ≤ end
      le = omega arith

      up : end_from 0x100 (flat before) ≤ end
      up = let first = from_block.0 in let some = length80-positive x.instr in let rise = laid_up xs (end_of x) limit inner_laid in omega (arith, first, some, rise)

  ends_behind : EndsBehind around (rest_of s before x xs after (tail_of p) limit laid)
  ends_behind =
      let b = begins_so s after (tail_of p) in
      let way = first_way (flat after) in
      record {
        label = first_label (flat after);
        more = b.0;
        way = way.0;
        begins = b.1;
        stops = stops (flat after) after_laid;
        leads = way.1;
        next = λ e. first_is (flat after) end limit after_laid (found_behind (subst (λ a. is_start p a ≡ true) (run_end x xs run) e)) ∙ ap At (sym (run_end x xs run));
      }

module _ (closed : (p : Program) → NeedsAreClosed p) (cuts : (p : Program) → IsProgram p → BlocksCut p) (sorts : StepsKeepSorts) (rows : RowsAgree) (keep : RowsKeepSorts) (pairs : PairsMayGo) (passed : StatementsArePassed) (walks : TemplatesAreWalked) (exits : ExitsAgree) where
  matches_one : (p : Program) (n : Needs) (s : Style) → IsProgram p → AreAllNeeds p n → Respects p n s → (a count : ℕ) → (b : BlockAt p a count) → block_at p b.first.at ≡ Some (suc (length b.inner)) → block_reason p (styled_statements s p) (needed_by p n) b.first.at (suc (length b.inner)) ≡ None
  matches_one p n s good are respects a count b found =
      ap (λ is. walked_reason (needed_by p n) (outcome_from p x.at is start80) (walk_behind (surroundings p text x.at is) room (start86 ((needed_by p n).at x.at)) (after_label text (At x.at)))) (run_instrs p x xs b.run of_program)
      ∙ ap (λ keep. walked_reason (needed_by p n) (outcome_from p x.at (x.instr ∷ instrs_of xs) start80) (walk_behind w room (start86 keep) (after_label text (At x.at)))) kept
      ∙ ap (λ o. walked_reason (needed_by p n) (outcome_from p x.at (x.instr ∷ instrs_of xs) start80) (walk_behind w room t o)) stands
      ∙ ap (walked_reason (needed_by p n) (outcome_from p x.at (x.instr ∷ instrs_of xs) start80)) some
      ∙ walked p n s (closed p) are respects sorts rows keep pairs passed walks exits w rest refl (ends_behind p s b.before x xs b.after b.run limit instrs laid) x xs false false room start80 t of_program b.run
      (labels p s b.before x xs b.after b.run limit instrs laid) (run_end x xs b.run) skip (λ e. absurd (cc)) (λ e. absurd (cc)) (omega arith) sorts.start80 (sorts.start86 (n.at x.at)) (starts_agree (n.at x.at))
    where
      text : List Stmt86
      text = styled_statements s p

      x : Placed
      x = b.first

      xs : List Placed
      xs = b.inner

      room : ℕ
      room = 10 * suc (length xs)

      limit : ℕ
      limit = p.top - 2

      w : Surroundings
      w = surroundings p text x.at (x.instr ∷ instrs_of xs)

      t : Symbolic86
      t = start86 (n.at x.at)

      instrs : p.instrs ≡ flat b.before ++ ((x ∷ xs) ++ flat b.after)
      instrs = instrs_are p a count b

      laid : AreLaid 0x100 limit (flat b.before ++ ((x ∷ xs) ++ flat b.after))
      laid = subst (AreLaid 0x100 limit) instrs good.instrs

      of_program : AreOf p (x ∷ xs)
      of_program = block_are p a count b good

      rest : List Stmt86
      rest = rest_of s b.before x xs b.after (tail_of p) limit laid

      kept : (needed_by p n).at x.at ≡ n.at x.at
      kept = ap (λ (o : Option ℕ). cond (is_some o) (n.at x.at) nothing) found

      stands : after_label text (At x.at) ≡ Some (block_from s false false (x ∷ xs) ++ rest)
      stands = ap (λ bs. after_label (blocks_of s bs ++ Mark Sys ∷ tail_of p) (At x.at)) b.cut ∙ stands_at s b.before x xs b.after (tail_of p) limit laid

      skip : LastSkips s (after_label text) rest (x ∷ xs)
      skip = subst (λ bs. LastSkips s (after_label (blocks_of s bs ++ Mark Sys ∷ tail_of p)) rest (x ∷ xs)) (sym b.cut) (stands_last s b.before x xs b.after (tail_of p) limit laid)

      -- the first instruction is walked as one
      ends_so : (ys : List Placed) → is_pair s x ys ≡ true → ends_by_sahf (s.saves x) x.instr ≡ true
      ends_so [] e = absurd (cc)
      ends_so (y ∷ ys) e = (and_parts (ends_by_sahf (s.saves x) x.instr) (begins_by_lahf (s.saves y) y.instr) (and_parts s.pairs _ e).1).0

      more : List Stmt86
      more = label_within s xs ++ block_from s (is_pair s x xs) (knows_function false x.instr) xs

      some : walk_some w room (met w (block_from s false false (x ∷ xs) ++ rest)) t ≡ walk_through w room (met w (block_from s false false (x ∷ xs) ++ rest)) t
      some =
          ap (λ zs. walk_some w room (met w zs) t) (append_assoc (written_as s false (is_pair s x xs) false x x.instr) more rest)
          ∙ some_written walks s x w room (more ++ rest) t (is_pair s x xs) false x.instr of_program.0.form (ends_so xs)
          ∙ sym (ap (λ zs. walk_through w room (met w zs) t) (append_assoc (written_as s false (is_pair s x xs) false x x.instr) more rest))

  pub matches : OwnBlocksMatch
  matches p n s good are respects a count h =
      let b = block_is p a count h in
      let found : block_at p b.first.at ≡ Some (suc (length b.inner)) = ap (block_at p) b.at ∙ (cuts p good).found a count h ∙ ap Some (sym b.size) in
      subst (λ m. block_reason p (styled_statements s p) (needed_by p n) a m ≡ None) b.size
      (subst (λ a. block_reason p (styled_statements s p) (needed_by p n) a (suc (length b.inner)) ≡ None) b.at (matches_one p n s good are respects a count b found))
