-- The plain text matches each instruction.
use Rattle.std.proofs.Common.{◌≡◌, ℕ, ◌+◌, ◌-◌, List, [], ◌∷◌, ◌++◌, length, Some, None, inl, refl, sym, ap, ◌∙◌, subst, arith, Bool, true, false}
use Rattle.std.specs.Prelude.{is_some}
use Rattle.std.proofs.lemmas.Bool.{false≢true}
use Rattle.cells.specs.declared.Part.{Part}
use Rattle.cells.specs.Parts.{Parts, has, everything}
use Rattle.i80.specs.declared.Instr80.{Instr80}
use Rattle.i80.specs.declared.Instr80.TheVariants.{Inx, Dcx, Dad, Pchl, Jmp, Jif, Call, Cif, Ret, Rif, Rst0, In, Out}
use Rattle.i80.specs.Columns.{is_well_formed, ends80}
use Rattle.asm86_line_types.specs.declared.line.Label.{Label}
use Rattle.asm86_line_types.specs.declared.line.Label.TheVariants.{At, Skip, User, Sys, End}
use Rattle.asm86_line_types.specs.declared.line.Stmt86.{Stmt86}
use Rattle.asm86_line_types.specs.declared.line.Stmt86.TheVariants.{Dseg, Mark}
use Rattle.asm80_types.specs.declared.program.Placed.{Placed}
use Rattle.asm80_types.specs.Program.{Program, IsProgram, placed_in, is_start, instr_of_placed}
use Rattle.asm80_types.proofs.Standing.{start_has}
use Rattle.templates.specs.Template.{template}
use Rattle.templates.specs.Plain.{call_code, end_code, data_from, ending, body, plain_statements}
use Rattle.sym_block_def.specs.Outcome.{Way, Outcome}
use Rattle.sym_block_def.specs.Block80.{Symbolic80, start80, effect80, exit80, outcome80, outcome_from, instrs_from, before_more}
use Rattle.sym_block_def.specs.Symbolic86.{Symbolic86, start86}
use Rattle.sym_block_def.specs.Walk86.{Surroundings, surroundings, after_label, way_to, is_passed, met, walk_through, walk_behind}
use Rattle.sym_block_def.specs.Sorts.{StepsKeepSorts}
use Rattle.sym_block_def.specs.BlockMatch.{Keeps, walked_reason, block_reason}
use Rattle.templates_law.specs.Match.Meeting.{Among, Agree}
use Rattle.templates_law.specs.Match.Rows.{all_passed, loses, RowsAgree}
use Rattle.templates_law.proofs.Match.Moves.{has_nothing, agree_on}
use Rattle.templates_law.specs.Match.Exits.{room_for, StatementsArePassed, TemplatesAreWalked, EndsBehind, SkipsTo, WalkEnds, ExitsAgree}
use Rattle.templates_law.specs.Match.Plain.{PlainBlocksMatch}
use Rattle.templates_law.proofs.Match.PlainLaid.{found_at, laid_good}
use Rattle.templates_law.proofs.Match.PlainStanding.{SkipIs, Stands, each_stands}
use Rattle.templates_law.proofs.Match.PlainReasons.{in_everything, no_reason, starts_agree}

-- one instruction

pub nothing_lost : (i : Instr80) (q : Part) → has (loses i true) q ≡ false
nothing_lost (Inx p) q = has_nothing q
nothing_lost (Dcx p) q = has_nothing q
nothing_lost (Dad p) q = has_nothing q
nothing_lost i q = has_nothing q

-- what ends a block has no effect beside its exit
pub end_keeps : (s : Symbolic80) (i : Instr80) → ends80 i ≡ true → effect80 s i ≡ s
end_keeps s Pchl e = refl
end_keeps s (Jmp g) e = refl
end_keeps s (Jif c g) e = refl
end_keeps s (Call g) e = refl
end_keeps s (Cif c g) e = refl
end_keeps s Ret e = refl
end_keeps s (Rif c) e = refl
end_keeps s Rst0 e = refl
end_keeps s (In n) e = refl
end_keeps s (Out n) e = refl
end_keeps s i e = absurd (false≢true e)

-- of so many statements as there is room for
pub room_is : (xs : List Stmt86) (room : ℕ) → room_for xs room ≡ length xs + room
room_is [] room = omega arith
room_is (x ∷ xs) room = let e = room_is xs room in omega (arith, e)

-- a label that ends a way is none of the block's, where the block has no other instruction
not_passed : (p : Program) (text : List Stmt86) (at : ℕ) (i : Instr80) (l : Label) (way : Way) → way_to l ≡ Some way → is_passed (surroundings p text at (i ∷ [])) l ≡ false
not_passed p text at i (At a) way e = refl
not_passed p text at i (Skip a) way e = absurd (false≢true (ap is_some e))
not_passed p text at i (User a) way e = absurd (false≢true (ap is_some e))
not_passed p text at i Sys way e = refl
not_passed p text at i End way e = refl

-- what the runtime's label has behind it
abbrev pub tail_of : Program → List Stmt86
tail_of p = (call_code ++ Mark End ∷ end_code) ++ (Dseg ∷ (data_from 0 p.cells ++ ending p.top))

skips : (p : Program) (i : Instr80) (at : ℕ) (rest : List Stmt86) → SkipIs (after_label (body p.instrs ++ Mark Sys ∷ tail_of p)) i at rest → SkipsTo (surroundings p (plain_statements p) at (i ∷ [])) i at rest
skips p (Jif c g) at rest h = h
skips p (Cif c g) at rest h = h
skips p (Rif c) at rest h = h
skips p i at rest h = tt

-- behind an instruction and its template: the terms, and the walk's end
record Walked (p : Program) (w : Surroundings) (i : Instr80) (at : ℕ) (rest : List Stmt86) (t : Symbolic86) : Type 0 where
  last : Symbolic86
  agree : Agree (Among everything) (effect80 start80 i) last
  ends : WalkEnds (walk_through w 10 (met w (template i at true ++ rest)) t) last false (exit80 p w.after (effect80 start80 i) i)

module _ (sorts : StepsKeepSorts) (rows : RowsAgree) (passed : StatementsArePassed) (walks : TemplatesAreWalked) (exits : ExitsAgree) where
  walked_on : (p : Program) (w : Surroundings) (i : Instr80) (at : ℕ) (rest : List Stmt86) (keep : Parts) → is_well_formed i ≡ true → w.goes_on ≡ is_start p w.after → EndsBehind w rest → Agree (Among everything) start80 (start86 keep) → ends80 i ≡ false → Walked p w i at rest (start86 keep)
  walked_on p w i at rest keep good g b a e = record { last = all_passed (start86 keep) xs; agree = behind_it; ends = record { exit86 = end.exit86; is = walk ∙ end.is; agrees = end.agrees } }
    where
      xs : List Stmt86
      xs = template i at true

      behind_it : Agree (Among everything) (effect80 start80 i) (all_passed (start86 keep) xs)
      behind_it =
          rows everything everything i at true start80 (start86 keep) e good sorts.start80 (sorts.start86 keep) (λ q c. in_everything q)
          (λ q c. record { known = inl c; stays = nothing_lost i q }) a

      end : WalkEnds (walk_through w (10 - length xs) (met w rest) (all_passed (start86 keep) xs)) (all_passed (start86 keep) xs) false (exit80 p w.after (effect80 start80 i) i)
      end = exits.falling p w i (10 - length xs) rest (effect80 start80 i) (all_passed (start86 keep) xs) e g b

      room : 10 ≡ room_for xs (10 - length xs)
      room = let few = walks.few i at true in let is = room_is xs (10 - length xs) in omega (arith, few, is)

      walk : walk_through w 10 (met w (xs ++ rest)) (start86 keep) ≡ walk_through w (10 - length xs) (met w rest) (all_passed (start86 keep) xs)
      walk = ap (λ n. walk_through w n (met w (xs ++ rest)) (start86 keep)) room ∙ passed w xs rest (10 - length xs) (start86 keep) (walks.straight i at true e)

  walked_end : (p : Program) (w : Surroundings) (i : Instr80) (at : ℕ) (rest : List Stmt86) (keep : Parts) → w.goes_on ≡ is_start p w.after → EndsBehind w rest → SkipsTo w i at rest → Agree (Among everything) start80 (start86 keep) → ends80 i ≡ true → Walked p w i at rest (start86 keep)
  walked_end p w i at rest keep g b skip a e =
      record {
        last = start86 keep;
        agree = subst (λ s. Agree (Among everything) s (start86 keep)) (sym (end_keeps start80 i e)) a;
        ends = subst (λ s. WalkEnds (walk_through w 10 (met w (template i at true ++ rest)) (start86 keep)) (start86 keep) false (exit80 p w.after s i)) (sym (end_keeps start80 i e))
            (exits.ending p w everything i at 8 true rest start80 (start86 keep) e g b skip (λ q c. in_everything q) a);
      }

  walked : (p : Program) (w : Surroundings) (i : Instr80) (at : ℕ) (rest : List Stmt86) (keep : Parts) → is_well_formed i ≡ true → w.goes_on ≡ is_start p w.after → EndsBehind w rest → SkipsTo w i at rest → Agree (Among everything) start80 (start86 keep) → Walked p w i at rest (start86 keep)
  walked p w i at rest keep good g b skip a = by_end (ends80 i) refl
    where
      by_end : (x : Bool) → ends80 i ≡ x → Walked p w i at rest (start86 keep)
      by_end true e = walked_end p w i at rest keep g b skip a e
      by_end false e = walked_on p w i at rest keep good g b a e

  matches_one : (p : Program) (keeps : Keeps) (x : Placed) → IsProgram p → ((q : Part) → has (keeps.at x.at) q ≡ true) → placed_in p.instrs x.at ≡ Some x → block_reason p (plain_statements p) keeps x.at 1 ≡ None
  matches_one p keeps x good all h =
      ap (λ is. walked_reason keeps (outcome_from p x.at is start80) (walk_behind (surroundings p (plain_statements p) x.at is) 10 t (after_label (plain_statements p) (At x.at)))) alone
      ∙ ap (λ o. walked_reason keeps outcome (walk_behind w 10 t o)) s.at
      ∙ ap (walked_reason keeps outcome) (walks.some x.instr x.at true w 10 s.rest t form ∙ y.ends.is)
      ∙ no_reason everything keeps (effect80 start80 x.instr) y.last false (exit80 p w.after (effect80 start80 x.instr) x.instr) y.ends.exit86 y.agree y.ends.agrees (λ q c. in_everything q) (λ q. refl)
    where
      w : Surroundings
      w = surroundings p (plain_statements p) x.at (x.instr ∷ [])

      t : Symbolic86
      t = start86 (keeps.at x.at)

      outcome : Outcome
      outcome = outcome80 (effect80 start80 x.instr) (exit80 p w.after (effect80 start80 x.instr) x.instr)

      alone : instrs_from p x.at 1 ≡ x.instr ∷ []
      alone = ap (λ o. before_more (instr_of_placed o) (λ i. i ∷ [])) h

      form : is_well_formed x.instr ≡ true
      form = laid_good p.instrs 0x100 (p.top - 2) x.at x good.instrs h

      s : Stands (body p.instrs ++ Mark Sys ∷ tail_of p) p.instrs x
      s = each_stands p.instrs 0x100 (p.top - 2) x.at x (tail_of p) good.instrs h

      b : EndsBehind w s.rest
      b = record { label = s.label; more = s.more; way = s.way; begins = s.begins; stops = not_passed p (plain_statements p) x.at x.instr s.label s.way s.leads; leads = s.leads; next = s.next }

      y : Walked p w x.instr x.at s.rest t
      y = walked p w x.instr x.at s.rest (keeps.at x.at) form refl b (skips p x.instr x.at s.rest s.skip) (agree_on _ _ (λ q c. all q) (starts_agree (keeps.at x.at)))

  pub matches : PlainBlocksMatch
  matches p keeps good all a e =
      let y = start_has (placed_in p.instrs a) e in
      let at = found_at p.instrs a y.0 y.1 in
      subst (λ n. block_reason p (plain_statements p) keeps n 1 ≡ None) at
      (matches_one p keeps y.0 good (λ q. all y.0.at (subst (λ n. is_start p n ≡ true) (sym at) e) q) (ap (placed_in p.instrs) at ∙ y.1))
