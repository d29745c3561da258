-- The short jumps of the lean text reach in the lean text itself: it is the text whose conditional jumps are all long, but for the jumps
-- that are short by the jump rule.
use Rattle.std.proofs.Common.{◌≡◌, List, [], ◌∷◌, ◌++◌, refl, sym, ap, subst, ◌∙◌, Bool, true, false, cond, ◌&&◌}
use Rattle.std.specs.Prelude.{is_some}
use Rattle.i80.specs.declared.Goal.{Goal}
use Rattle.i80.specs.declared.Goal.TheVariants.{At, Boot, Bdos}
use Rattle.i80.specs.declared.Instr80.{Instr80}
use Rattle.i80.specs.declared.Instr80.TheVariants.{Jif, Call}
use Rattle.i86.specs.declared.Jump.{Jump}
use Rattle.i86.specs.declared.Instr86.TheVariants.{Int224}
use Rattle.asm86_line_types.specs.declared.line.Label.TheVariants.{At as Line, Skip, Sys}
use Rattle.asm86_line_types.specs.declared.line.Stmt86.{Stmt86}
use Rattle.asm86_line_types.specs.declared.line.Stmt86.TheVariants.{Cseg, Mark, Run, Jmp, Jcc, Call as CallTo}
use Rattle.asm86_line_types.specs.Layout.{offset_of}
use Rattle.asm86_line_types.proofs.Statements.{Each}
use Rattle.asm80_types.specs.declared.program.Placed.{Placed}
use Rattle.asm80_types.specs.Program.{Program, IsProgram}
use Rattle.flow.specs.Blocks.{cut_from, BlocksCut}
use Rattle.flow.specs.Solving.{Needs}
use Rattle.flow.proofs.Cuts.{flat, flat-cut}
use Rattle.templates.specs.Template.{label_of_goal, unless, template}
use Rattle.templates.specs.Plain.{prologue}
use Rattle.templates.specs.Style.{Style, jump_if, is_pair, knows_function, without_first_if, without_last_if, written_in_style, written_as, label_within, block_from, blocks_of, styled_statements}
use Rattle.templates.specs.Lean.{long_style, lean_style, reaches_in}
use Rattle.templates_law.specs.Text.Reach.{JumpsReach}
use Rattle.templates_law.proofs.Text.Statements.{each-first, each-last}
use Rattle.templates_law.proofs.Text.Shapes.{Names}
use Rattle.templates_law.proofs.Text.Body.{AreKnown, known_front, known_map}
use Rattle.templates_law.proofs.Text.Leading.{Leads, program_known}
use Rattle.templates_law.proofs.Text.Whole.{tail_of, body_of, defined, once}
use Rattle.templates_law.proofs.Text.Jumps.{IsLong, template_long, each_long}
use Rattle.templates_law.proofs.Text.Nearer.{Pairs, none, same, nearer, pairs-append, pairs-same, same_any, ByRule, nearer_reach}

module _ (n : Needs) (p : Program) where
  abbrev long : Style
  long = long_style n

  abbrev lean : Style
  lean = lean_style n p

  -- the statements of both, where the jumps that differ are short by the jump rule
  abbrev Both : List Stmt86 → List Stmt86 → Type 0
  Both xs ys = Pairs IsLong (ByRule (styled_statements long p)) xs ys

  abbrev IsDefined : Goal → Type 0
  IsDefined g = is_some (offset_of (styled_statements long p) (label_of_goal g)) ≡ true

  jump_both : (x : Placed) (j k : Jump) (g : Goal) (t : Bool) → (t ≡ true → ByRule (styled_statements long p) x.at g) → Both (Jcc j (Skip x.at) ∷ (Jmp (label_of_goal g) ∷ (Mark (Skip x.at) ∷ []))) (cond t (Jcc k (label_of_goal g) ∷ []) (Jcc j (Skip x.at) ∷ (Jmp (label_of_goal g) ∷ (Mark (Skip x.at) ∷ []))))
  jump_both x j k g true rule = nearer x.at j k g [] [] (rule refl) none
  jump_both x j k g false rule = same _ _ _ refl (same _ _ _ refl (same _ _ _ refl none))

  call_both : (t : Bool) → Both (cond t (Run Int224 ∷ []) (CallTo Sys ∷ [])) (cond t (Run Int224 ∷ []) (CallTo Sys ∷ []))
  call_both true = same _ [] [] refl none
  call_both false = same _ [] [] refl none

  straight_both : (first last : Bool) (xs : List Stmt86) → Each IsLong xs → Both (without_first_if first (without_last_if last xs)) (without_first_if first (without_last_if last xs))
  straight_both first last xs h = pairs-same IsLong (ByRule (styled_statements long p)) _ (each-first IsLong first (without_last_if last xs) (each-last IsLong last xs h))

  template_both : (first last : Bool) (x : Placed) (i : Instr80) → Both (without_first_if first (without_last_if last (template i x.at (long.saves x)))) (without_first_if first (without_last_if last (template i x.at (long.saves x))))
  template_both first last x i = straight_both first last (template i x.at (long.saves x)) (each_long _ (template_long i x.at (long.saves x)))

  written_both : (first last c : Bool) (x : Placed) (i : Instr80) → x.instr ≡ i → Names IsDefined i → Both (written_as long first last c x i) (written_as lean first last c x i)
  written_both first last c x (Jif on g) e names =
      jump_both x (unless on) (jump_if on) g (reaches_in (styled_statements long p) x x.instr)
      (λ short. (sym (ap (reaches_in (styled_statements long p) x) e) ∙ short, names))
  written_both first last c x (Call Bdos) e names = call_both (c && long.directs x)
  written_both first last c x (Call Boot) e names = template_both first last x (Call Boot)
  written_both first last c x (Call (At a)) e names = template_both first last x (Call (At a))
  written_both first last c x i e names = template_both first last x i

  pair_same : (x : Placed) (xs : List Placed) → is_pair long x xs ≡ is_pair lean x xs
  pair_same x [] = refl
  pair_same x (y ∷ ys) = refl

  abbrev AreDefined : List Placed → Type 0
  AreDefined xs = AreKnown IsDefined xs

  rest_both : (first c : Bool) (xs : List Placed) → AreDefined xs → Both (label_within long xs ++ block_from long first c xs) (label_within lean xs ++ block_from lean first c xs)
  rest_both first c [] known = none
  rest_both first c (x ∷ xs) known =
      subst (λ b. Both (written_in_style long first (is_pair long x xs) c x ++ (label_within long xs ++ block_from long (is_pair long x xs) (knows_function c x.instr) xs)) (written_in_style lean first b c x ++ (label_within lean xs ++ block_from lean b (knows_function c x.instr) xs))) (pair_same x xs)
      (pairs-append IsLong (ByRule (styled_statements long p)) _ _ _ _
      (written_both first (is_pair long x xs) c x x.instr refl known.0.1)
      (rest_both (is_pair long x xs) (knows_function c x.instr) xs known.1))

  blocks_both : (bs : List (List Placed)) → AreDefined (flat bs) → Both (blocks_of long bs) (blocks_of lean bs)
  blocks_both [] known = none
  blocks_both ([] ∷ bs) known = blocks_both bs known
  blocks_both ((x ∷ xs) ∷ bs) known =
      let k = known_front IsDefined (x ∷ xs) (flat bs) known in
      pairs-append IsLong (ByRule (styled_statements long p)) _ _ _ _
      (same (Mark (Line x.at)) _ _ refl (rest_both false false (x ∷ xs) k.0))
      (blocks_both bs k.1)

pub lean_reach : (n : Needs) (p : Program) → IsProgram p → BlocksCut p → JumpsReach (lean_style n p) p
lean_reach n p is cut =
    nearer_reach (styled_statements (long_style n) p) (styled_statements (lean_style n p) p) (once (long_style n) p is cut)
    (body_of (long_style n) p) (body_of (lean_style n p) p)
    (blocks_both n p (cut_from p 0 p.instrs) (subst (AreKnown (IsDefined n p)) (sym (flat-cut p 0 p.instrs)) (known_map (Leads p) (IsDefined n p) (defined (long_style n) p is cut) p.instrs (program_known p is cut))))
    (Cseg ∷ prologue p.top) (Cseg ∷ prologue p.top) (tail_of p) (same_any (Cseg ∷ prologue p.top)) refl refl
