-- What stands behind the label of a block's first instruction: the statements of its instructions, and behind them a label that ends a
-- way, which is that of the place after the block where an instruction starts there.
use Rattle.std.proofs.Common.{◌≡◌, ◌≢◌, ℕ, ◌≤◌, ◌==◌, Bool, true, false, cond, List, [], ◌∷◌, ◌++◌, Option, Some, refl, sym, ap, ◌∙◌, arith, append_assoc}
use Rattle.std.specs.List.{list_any}
use Rattle.std.proofs.lemmas.Bool.{cond_both}
use Rattle.i80.specs.declared.Goal.TheVariants.{At as ToInstr, Boot as ToBoot, Bdos as ToBdos}
use Rattle.i80.specs.declared.Instr80.{Instr80}
use Rattle.i80.specs.declared.Instr80.TheVariants.{Jif, Cif, Rif}
use Rattle.asm86_line_types.specs.declared.line.Label.{Label}
use Rattle.asm86_line_types.specs.declared.line.Label.TheVariants.{At, Skip, Sys}
use Rattle.asm86_line_types.specs.declared.line.Stmt86.{Stmt86}
use Rattle.asm86_line_types.specs.declared.line.Stmt86.TheVariants.{Mark, Jcc}
use Rattle.asm86_line_types.specs.Layout.{marks}
use Rattle.asm80_types.specs.declared.program.Placed.{Placed}
use Rattle.asm80_types.specs.Program.{AreLaid}
use Rattle.asm80_types.proofs.Lookup.{length80-positive}
use Rattle.templates.specs.Template.{template, label_of_goal}
use Rattle.flow.specs.Blocks.{end_of}
use Rattle.flow.proofs.Cuts.{flat}
use Rattle.templates.specs.Style.{Style, is_pair, knows_function, jump_if, written_as, label_within, block_from, block_in_style, blocks_of}
use Rattle.sym_block_def.specs.Walk86.{after_label}
use Rattle.templates_law.proofs.Match.PlainStanding.{same_number, other_number, behind_past, first_label}
use Rattle.templates_law.proofs.Match.Runs.{end_from, laid_rest, laid_front}
use Rattle.templates_law.proofs.Match.Marks.{written_lacks, free_behind, blocks_lack, at_only, skip_only_of}

-- the statements behind a condition's own label are those behind its template, which a short jump lacks
abbrev pub Skips : Style → (Label → Option (List Stmt86)) → Placed → List Stmt86 → Instr80 → Type 0
Skips s find x rest (Jif c g) = s.shortens x ≡ false → find (Skip x.at) ≡ Some rest
Skips s find x rest (Cif c g) = find (Skip x.at) ≡ Some rest
Skips s find x rest (Rif c) = find (Skip x.at) ≡ Some rest
Skips s find x rest i = Unit {0}

-- so it is of the last instruction of a list
abbrev pub LastSkips : Style → (Label → Option (List Stmt86)) → List Stmt86 → List Placed → Type 0
LastSkips s find rest [] = Unit {0}
LastSkips s find rest (x ∷ []) = Skips s find x rest x.instr
LastSkips s find rest (x ∷ (y ∷ ys)) = LastSkips s find rest (y ∷ ys)

module _ (s : Style) (rest : List Stmt86) where
  found_here : (x : Placed) → cond (x.at == x.at) (Some rest) (after_label rest (Skip x.at)) ≡ Some rest
  found_here x = ap (λ b. cond b (Some rest) (after_label rest (Skip x.at))) (same_number x.at)

  skips_here : (first c : Bool) (x : Placed) (i : Instr80) → Skips s (after_label ((written_as s first false c x i ++ []) ++ rest)) x rest i
  skips_here first c x (Jif on goal) = λ short. ap (λ b. after_label ((cond b (Jcc (jump_if on) (label_of_goal goal) ∷ []) (template (Jif on goal) x.at (s.saves x)) ++ []) ++ rest) (Skip x.at)) short ∙ found_here x
  skips_here true c x (Cif on (ToInstr a)) = found_here x
  skips_here true c x (Cif on ToBoot) = found_here x
  skips_here true c x (Cif on ToBdos) = found_here x
  skips_here false c x (Cif on (ToInstr a)) = found_here x
  skips_here false c x (Cif on ToBoot) = found_here x
  skips_here false c x (Cif on ToBdos) = found_here x
  skips_here true c x (Rif on) = found_here x
  skips_here false c x (Rif on) = found_here x
  skips_here first c x i = tt

  skips_as : (f g : Label → Option (List Stmt86)) (x : Placed) → g (Skip x.at) ≡ f (Skip x.at) → (i : Instr80) → Skips s f x rest i → Skips s g x rest i
  skips_as f g x e (Jif c goal) h = λ short. e ∙ h short
  skips_as f g x e (Cif c goal) h = e ∙ h
  skips_as f g x e (Rif c) h = e ∙ h
  skips_as f g x e i h = tt

  pub last_as : (f g : Label → Option (List Stmt86)) (xs : List Placed) (from limit : ℕ) → AreLaid from limit xs → ((a : ℕ) → from ≤ a → g (Skip a) ≡ f (Skip a)) → LastSkips s f rest xs → LastSkips s g rest xs
  last_as f g [] from limit laid e h = tt
  last_as f g (x ∷ []) from limit laid e h = skips_as f g x (e x.at laid.0) x.instr h
  last_as f g (x ∷ (y ∷ ys)) from limit laid e h =
      let up = laid.0 in
      last_as f g (y ∷ ys) (end_of x) limit laid.3 (λ a le. e a (omega (arith, up, le))) h

  -- a label of a later condition is looked for behind an instruction's statements
  past_written : (first last c : Bool) (x : Placed) (xs : List Placed) (more : List Stmt86) (a : ℕ) → end_of x ≤ a → after_label ((written_as s first last c x x.instr ++ (label_within s xs ++ more)) ++ rest) (Skip a) ≡ after_label (more ++ rest) (Skip a)
  past_written first last c x xs more a le =
      ap (λ zs. after_label zs (Skip a)) (append_assoc written (label_within s xs ++ more) rest)
      ∙ behind_past (Skip a) written ((label_within s xs ++ more) ++ rest) (written_lacks (Skip a) s first last c x (other_number x.at a ne) x.instr)
      ∙ ap (λ zs. after_label zs (Skip a)) (append_assoc (label_within s xs) more rest)
      ∙ behind_past (Skip a) (label_within s xs) (more ++ rest) (no_label xs)
    where
      written : List Stmt86
      written = written_as s first last c x x.instr

      ne : x.at ≢ a
      ne = let some = length80-positive x.instr in omega (arith, some, le)

      no_label : (ys : List Placed) → list_any (λ z. marks (Skip a) z) (label_within s ys) ≡ false
      no_label [] = refl
      no_label (y ∷ ys) = cond_both s.all_labels (Mark (At y.at) ∷ []) [] (λ zs. list_any (λ z. marks (Skip a) z) zs ≡ false) (λ q. refl) (λ q. refl)

  last_skips : (first c : Bool) (xs : List Placed) (from limit : ℕ) → AreLaid from limit xs → LastSkips s (after_label (block_from s first c xs ++ rest)) rest xs
  last_skips first c [] from limit laid = tt
  last_skips first c (x ∷ []) from limit laid = skips_here first c x x.instr
  last_skips first c (x ∷ (y ∷ ys)) from limit laid =
      last_as (after_label (block_from s (is_pair s x (y ∷ ys)) (knows_function c x.instr) (y ∷ ys) ++ rest)) (after_label (block_from s first c (x ∷ (y ∷ ys)) ++ rest)) (y ∷ ys) (end_of x) limit laid.3
      (past_written first (is_pair s x (y ∷ ys)) c x (y ∷ ys) (block_from s (is_pair s x (y ∷ ys)) (knows_function c x.instr) (y ∷ ys)))
      (last_skips (is_pair s x (y ∷ ys)) (knows_function c x.instr) (y ∷ ys) (end_of x) limit laid.3)

-- the statements of blocks one after the other
blocks_both : (s : Style) (bs cs : List (List Placed)) → blocks_of s (bs ++ cs) ≡ blocks_of s bs ++ blocks_of s cs
blocks_both s [] cs = refl
blocks_both s (b ∷ bs) cs = ap (λ xs. block_in_style s b ++ xs) (blocks_both s bs cs) ∙ sym (append_assoc (block_in_style s b) (blocks_of s bs) (blocks_of s cs))

-- blocks, with a label behind them, begin with the label of their first instruction, or else with that label
pub begins_so : (s : Style) (bs : List (List Placed)) (tail : List Stmt86) → (more : List Stmt86) × (blocks_of s bs ++ Mark Sys ∷ tail ≡ Mark (first_label (flat bs)) ∷ more)
begins_so s [] tail = (tail, refl)
begins_so s ([] ∷ bs) tail = begins_so s bs tail
begins_so s ((x ∷ xs) ∷ bs) tail = ((block_from s false false (x ∷ xs) ++ blocks_of s bs) ++ Mark Sys ∷ tail, refl)

module _ (s : Style) (before : List (List Placed)) (x : Placed) (xs : List Placed) (after : List (List Placed)) (tail : List Stmt86) (limit : ℕ) (laid : AreLaid 0x100 limit (flat before ++ ((x ∷ xs) ++ flat after))) where
  -- what stands behind the block
  abbrev pub rest_of : List Stmt86
  rest_of = blocks_of s after ++ Mark Sys ∷ tail

  from_block : AreLaid (end_from 0x100 (flat before)) limit ((x ∷ xs) ++ flat after)
  from_block = laid_rest (flat before) ((x ∷ xs) ++ flat after) 0x100 limit laid

  front : AreLaid 0x100 limit (flat before)
  front = laid_front (flat before) ((x ∷ xs) ++ flat after) 0x100 limit laid

  parted : blocks_of s (before ++ ((x ∷ xs) ∷ after)) ++ Mark Sys ∷ tail ≡ blocks_of s before ++ (Mark (At x.at) ∷ (block_from s false false (x ∷ xs) ++ rest_of))
  parted =
      ap (λ zs. zs ++ Mark Sys ∷ tail) (blocks_both s before ((x ∷ xs) ∷ after))
      ∙ append_assoc (blocks_of s before) (block_in_style s (x ∷ xs) ++ blocks_of s after) (Mark Sys ∷ tail)
      ∙ ap (λ zs. blocks_of s before ++ (Mark (At x.at) ∷ zs)) (append_assoc (block_from s false false (x ∷ xs)) (blocks_of s after) (Mark Sys ∷ tail))

  pub stands_at : after_label (blocks_of s (before ++ ((x ∷ xs) ∷ after)) ++ Mark Sys ∷ tail) (At x.at) ≡ Some (block_from s false false (x ∷ xs) ++ rest_of)
  stands_at =
      ap (λ zs. after_label zs (At x.at)) parted
      ∙ behind_past (At x.at) (blocks_of s before) (Mark (At x.at) ∷ (block_from s false false (x ∷ xs) ++ rest_of)) (blocks_lack (At x.at) s before (free_behind x.at (At x.at) (flat before) 0x100 limit (at_only x.at) front from_block.0))
      ∙ ap (λ b. cond b (Some (block_from s false false (x ∷ xs) ++ rest_of)) (after_label (block_from s false false (x ∷ xs) ++ rest_of) (At x.at))) (same_number x.at)

  pub stands_last : LastSkips s (after_label (blocks_of s (before ++ ((x ∷ xs) ∷ after)) ++ Mark Sys ∷ tail)) rest_of (x ∷ xs)
  stands_last =
      last_as s rest_of (after_label (block_from s false false (x ∷ xs) ++ rest_of)) (after_label (blocks_of s (before ++ ((x ∷ xs) ∷ after)) ++ Mark Sys ∷ tail)) (x ∷ xs) (end_from 0x100 (flat before)) limit mine
      (λ a le. ap (λ zs. after_label zs (Skip a)) parted
      ∙ behind_past (Skip a) (blocks_of s before) (Mark (At x.at) ∷ (block_from s false false (x ∷ xs) ++ rest_of)) (blocks_lack (Skip a) s before (free_behind a (Skip a) (flat before) 0x100 limit (skip_only_of a) front le)))
      (last_skips s rest_of false false (x ∷ xs) (end_from 0x100 (flat before)) limit mine)
    where
      mine : AreLaid (end_from 0x100 (flat before)) limit (x ∷ xs)
      mine = laid_front (x ∷ xs) (flat after) (end_from 0x100 (flat before)) limit from_block
