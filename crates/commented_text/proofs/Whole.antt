-- What is to be written of a program's text in a style is its commented text.
use Rattle.std.proofs.Common.{◌≡◌, ℕ, ◌+◌, ◌-◌, max, Bool, true, false, List, [], ◌∷◌, ◌++◌, length, take, drop, refl, sym, ap, subst, ◌∙◌, append_assoc}
use Rattle.std.proofs.Math.Seq.{take-append_seam, drop-append_seam}
use Rattle.i80.specs.declared.Instr80.{Instr80}
use Rattle.i80.specs.Columns.{length80, is_well_formed}
use Rattle.asm80_types.specs.declared.program.Placed.{Placed}
use Rattle.asm80_types.specs.Program.{Program, IsProgram, AreLaid}
use Rattle.asm86_line_types.specs.declared.line.Stmt86.{Stmt86}
use Rattle.asm86_line_types.specs.declared.line.Stmt86.TheVariants.{Cseg, Dseg}
use Rattle.asm86_line_types.specs.declared.line.Line86.{Line86}
use Rattle.asm86_line_types.specs.Image.{statements}
use Rattle.templates.specs.Plain.{prologue, runtime, data_from, ending}
use Rattle.templates.proofs.NumberedLines.{statements-numbered}
use Rattle.flow.specs.Blocks.{cut_from}
use Rattle.flow.proofs.Cuts.{flat, flat-cut}
use Rattle.templates.proofs.Pairs.{BeginsByLahf, pair_last, pair_next}
use Rattle.templates.specs.Style.{Style, is_pair, knows_function, written_in_style, blocks_of, styled_statements, styled}
use Rattle.commented_text.specs.Groups.{InstructionGroup, label_if, groups_from, groups_of_blocks, groups}
use Rattle.commented_text.specs.Commented.{comments, written, commented_groups, commented}
use Rattle.commented_text.specs.Sizes.{group_size}
use Rattle.commented_text.proofs.Texts.{statements_in, of_blocks}
use Rattle.commented_text.specs.Left.{groups_left, text_left}
use Rattle.commented_text.proofs.FirstLine.{one_more}
use Rattle.commented_text.proofs.Cutting.{is_fresh, IsCut, written_cut}

-- ---- the groups of instructions, one for each

-- statements are the group of an instruction, whatever fresh statements follow
abbrev CutsOff : Instr80 → List Stmt86 → Type 0
CutsOff i own = (rest : List Stmt86) → is_fresh rest ≡ true → (group_size i (own ++ rest) ≡ length own) × (is_fresh (own ++ rest) ≡ true)

abbrev AreGroups : List Placed → List InstructionGroup → Type 0
AreGroups [] [] = Unit {0}
AreGroups [] (g ∷ gs) = ⊥
AreGroups (x ∷ xs) [] = ⊥
AreGroups (x ∷ xs) (g ∷ gs) = (g.line ≡ x.line) × CutsOff x.instr g.statements × AreGroups xs gs

groups_both : (xs ys : List Placed) (gs hs : List InstructionGroup) → AreGroups xs gs → AreGroups ys hs → AreGroups (xs ++ ys) (gs ++ hs)
groups_both [] ys [] hs p q = q
groups_both [] ys (g ∷ gs) hs p q = absurd p
groups_both (x ∷ xs) ys [] hs p q = absurd p
groups_both (x ∷ xs) ys (g ∷ gs) hs p q = (p.0, p.1, groups_both xs ys gs hs p.2 q)

abbrev AreGood : List Placed → Type 0
AreGood [] = Unit {0}
AreGood (x ∷ xs) = (is_well_formed x.instr ≡ true) × AreGood xs

label_cut : (labelled : Bool) (x : Placed) (own : List Stmt86) → ((rest : List Stmt86) → is_fresh rest ≡ true → IsCut x.instr own rest) → CutsOff x.instr (label_if labelled x ++ own)
label_cut true x own c = λ rest h. (ap (λ (n : ℕ). 1 + n) (c rest h).count ∙ one_more (length own), refl)
label_cut false x own c = λ rest h. ((c rest h).bare ∙ (c rest h).count, (c rest h).fresh)

block_groups : (s : Style) (labelled first c : Bool) (xs : List Placed) → AreGood xs → BeginsByLahf s first xs → AreGroups xs (groups_from s labelled first c xs)
block_groups s labelled first c [] good begins = tt
block_groups s labelled first c (x ∷ xs) good begins = (
  refl,
  label_cut labelled x (written_in_style s first (is_pair s x xs) c x) (λ rest h. written_cut s first (is_pair s x xs) c x x.instr rest good.0 (begins, pair_last s x xs) h),
  block_groups s s.all_labels (is_pair s x xs) (knows_function c x.instr) xs good.1 (pair_next s x xs),
)

good_both : (xs ys : List Placed) → AreGood (xs ++ ys) → AreGood xs × AreGood ys
good_both [] ys h = (tt, h)
good_both (x ∷ xs) ys h = let r = good_both xs ys h.1 in ((h.0, r.0), r.1)

starts : (s : Style) (b : List Placed) → BeginsByLahf s false b
starts s [] = tt
starts s (x ∷ xs) = λ no. let e : false ≡ true = no in absurd cc

blocks_groups : (s : Style) (bs : List (List Placed)) → AreGood (flat bs) → AreGroups (flat bs) (groups_of_blocks s bs)
blocks_groups s [] good = tt
blocks_groups s (b ∷ bs) good =
    let g = good_both b (flat bs) good in
    groups_both b (flat bs) (groups_from s true false false b) (groups_of_blocks s bs) (block_groups s true false false b g.0 (starts s b)) (blocks_groups s bs g.1)

laid_good : (from limit : ℕ) (xs : List Placed) → AreLaid from limit xs → AreGood xs
laid_good from limit [] h = tt
laid_good from limit (x ∷ xs) h = (h.2, laid_good (x.at + length80 x.instr) limit xs h.3)

pub program_groups : (s : Style) (p : Program) → IsProgram p → AreGroups p.instrs (groups s p)
program_groups s p is =
    let e = flat-cut p 0 p.instrs in
    subst (λ (xs : List Placed). AreGroups xs (groups s p)) e (blocks_groups s (cut_from p 0 p.instrs) (subst AreGood (sym e) (laid_good 0x100 (p.top - 2) p.instrs is.instrs)))

-- ---- so they are cut off one after the other

all_fresh : (xs : List Placed) (gs : List InstructionGroup) (tail : List Stmt86) → AreGroups xs gs → is_fresh tail ≡ true → is_fresh (statements_in gs ++ tail) ≡ true
all_fresh [] [] tail h f = f
all_fresh [] (g ∷ gs) tail h f = absurd h
all_fresh (x ∷ xs) [] tail h f = absurd h
all_fresh (x ∷ xs) (g ∷ gs) tail h f =
    let rest = statements_in gs ++ tail in
    rw (append_assoc g.statements (statements_in gs) tail) (h.1 rest (all_fresh xs gs tail h.2 f)).1

pub left_is : (stood : ℕ) (lines : List (List ℕ)) (xs : List Placed) (gs : List InstructionGroup) (tail : List Stmt86) → AreGroups xs gs → is_fresh tail ≡ true → groups_left stood lines xs (statements_in gs ++ tail) ≡ commented_groups stood lines gs ++ written tail
left_is stood lines [] [] tail h f = refl
left_is stood lines [] (g ∷ gs) tail h f = absurd h
left_is stood lines (x ∷ xs) [] tail h f = absurd h
left_is stood lines (x ∷ xs) (g ∷ gs) tail h f =
    let rest = statements_in gs ++ tail in
    let size : group_size x.instr (g.statements ++ rest) ≡ length g.statements = (h.1 rest (all_fresh xs gs tail h.2 f)).0 in
    let due = x.line - stood in
    let later = commented_groups (max stood x.line) (drop due lines) gs in
    rw (append_assoc g.statements (statements_in gs) tail, size, take-append_seam g.statements rest, drop-append_seam g.statements rest, h.0, left_is (max stood x.line) (drop due lines) xs gs tail h.2 f)
    (sym (append_assoc (comments (take due lines)) (written g.statements ++ later) (written tail) ∙ ap (λ (t : List ℕ). comments (take due lines) ++ t) (append_assoc (written g.statements) later (written tail))))

pub opened : (s : Style) (p : Program) (text : List Line86) (lines : List (List ℕ)) → IsProgram p → text ≡ styled s p → text_left 0 8 0 lines p.instrs (statements text) ≡ commented s p lines
opened s p text lines is e =
    let tail = runtime ++ (Dseg ∷ (data_from 0 p.cells ++ ending p.top)) in
    let groups_first : groups_left 0 lines p.instrs (blocks_of s (cut_from p 0 p.instrs) ++ tail) ≡ commented_groups 0 lines (groups s p) ++ written tail =
    ap (λ (t : List Stmt86). groups_left 0 lines p.instrs (t ++ tail)) (sym (of_blocks s (cut_from p 0 p.instrs))) ∙ left_is 0 lines p.instrs (groups s p) tail (program_groups s p is) refl in
    rw (e, statements-numbered 1 (styled_statements s p)) (ap (λ (t : List ℕ). written (Cseg ∷ prologue p.top) ++ t) groups_first)
