-- The text in the plain style is the plain text, and no jump of it is shortened.
use Rattle.std.proofs.Common.{◌≡◌, List, [], ◌∷◌, ◌++◌, refl, sym, ap, ◌∙◌, subst, append_assoc, Bool, true, false}
use Rattle.i80.specs.declared.Goal.TheVariants.{At, Boot, Bdos}
use Rattle.i80.specs.declared.Instr80.{Instr80}
use Rattle.i80.specs.declared.Instr80.TheVariants.{Call}
use Rattle.asm86_line_types.specs.declared.line.Label.TheVariants.{At as Line}
use Rattle.asm86_line_types.specs.declared.line.Stmt86.TheVariants.{Cseg, Dseg, Mark}
use Rattle.asm86_line_types.specs.Layout.{place_of}
use Rattle.asm86_line_types.proofs.Statements.{Each}
use Rattle.asm80_types.specs.declared.program.Placed.{Placed}
use Rattle.asm80_types.specs.Program.{Program}
use Rattle.flow.specs.Blocks.{cut_from}
use Rattle.flow.proofs.Cuts.{flat, flat-cut}
use Rattle.templates.specs.Template.{template}
use Rattle.templates.specs.Plain.{prologue, runtime, body, data_from, ending, plain_statements}
use Rattle.templates.specs.Style.{plain_style, is_pair, knows_function, written_in_style, written_as, label_within, block_from, blocks_of, styled_statements}
use Rattle.templates_law.specs.Text.Reach.{JumpsReach}
use Rattle.templates_law.proofs.Text.Statements.{each-append}
use Rattle.templates_law.proofs.Text.Jumps.{IsLong, template_long, each_long, all_long_reach}

-- ---- block after block, the templates

whole_template : (c : Bool) (x : Placed) (i : Instr80) → written_as plain_style false false c x i ≡ template i x.at true
whole_template c x (Call (At a)) = refl
whole_template c x (Call Boot) = refl
whole_template true x (Call Bdos) = refl
whole_template false x (Call Bdos) = refl
whole_template c x i = refl

no_pair : (x : Placed) (xs : List Placed) → is_pair plain_style x xs ≡ false
no_pair x [] = refl
no_pair x (y ∷ ys) = refl

block_plain : (c : Bool) (xs : List Placed) → label_within plain_style xs ++ block_from plain_style false c xs ≡ body xs
block_plain c [] = refl
block_plain c (x ∷ xs) =
    ap (λ b. Mark (Line x.at) ∷ (written_in_style plain_style false b c x ++ (label_within plain_style xs ++ block_from plain_style b (knows_function c x.instr) xs))) (no_pair x xs)
    ∙ ap (λ ys. Mark (Line x.at) ∷ (ys ++ (label_within plain_style xs ++ block_from plain_style false (knows_function c x.instr) xs))) (whole_template c x x.instr)
    ∙ ap (λ ys. Mark (Line x.at) ∷ (template x.instr x.at true ++ ys)) (block_plain (knows_function c x.instr) xs)

body-append : (xs ys : List Placed) → body xs ++ body ys ≡ body (xs ++ ys)
body-append [] ys = refl
body-append (x ∷ xs) ys = ap (λ zs. Mark (Line x.at) ∷ zs) (append_assoc (template x.instr x.at true) (body xs) (body ys) ∙ ap (λ zs. template x.instr x.at true ++ zs) (body-append xs ys))

blocks_plain : (bs : List (List Placed)) → blocks_of plain_style bs ≡ body (flat bs)
blocks_plain [] = refl
blocks_plain ([] ∷ bs) = blocks_plain bs
blocks_plain ((x ∷ xs) ∷ bs) =
    ap (λ ys. ys ++ blocks_of plain_style bs) (block_plain false (x ∷ xs))
    ∙ ap (λ ys. body (x ∷ xs) ++ ys) (blocks_plain bs)
    ∙ body-append (x ∷ xs) (flat bs)

body_plain : (p : Program) → blocks_of plain_style (cut_from p 0 p.instrs) ≡ body p.instrs
body_plain p = blocks_plain (cut_from p 0 p.instrs) ∙ ap body (flat-cut p 0 p.instrs)

pub plain_is : (p : Program) → styled_statements plain_style p ≡ plain_statements p
plain_is p = ap (λ ys. Cseg ∷ (prologue p.top ++ (ys ++ (runtime ++ (Dseg ∷ (data_from 0 p.cells ++ ending p.top)))))) (body_plain p)

-- ---- jumps

body_long : (xs : List Placed) → Each IsLong (body xs)
body_long [] = tt
body_long (x ∷ xs) = (refl, each-append IsLong (template x.instr x.at true) (body xs) (each_long _ (template_long x.instr x.at true)) (body_long xs))

pub plain_reaches : (p : Program) → JumpsReach plain_style p
plain_reaches p = all_long_reach (place_of (styled_statements plain_style p)) 17 (blocks_of plain_style (cut_from p 0 p.instrs)) (subst (Each IsLong) (sym (body_plain p)) (body_long p.instrs))
