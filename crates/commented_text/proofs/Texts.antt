-- A commented text is the text that was written for the program, with comments among its lines.
use Rattle.std.proofs.Common.{◌≡◌, ℕ, ◌+◌, ◌-◌, max, List, [], ◌∷◌, ◌++◌, take, drop, Bool, true, false, refl, sym, ap, ◌∙◌, append_assoc}
use Rattle.std.specs.List.{flat_map, AllByRecursion}
use Rattle.std.proofs.lemmas.Grind.{flat_map-append}
use Rattle.asm80_types.specs.declared.program.Placed.{Placed}
use Rattle.asm80_types.specs.Program.{Program}
use Rattle.asm86_line_types.specs.declared.line.Line86.{Line86}
use Rattle.asm86_line_types.specs.declared.line.Stmt86.{Stmt86}
use Rattle.asm86_line_types.specs.declared.line.Stmt86.TheVariants.{Cseg, Dseg}
use Rattle.asm86_line_types.specs.Written.{written_line, written_text}
use Rattle.flow.specs.Blocks.{cut_from}
use Rattle.templates.specs.Plain.{prologue, runtime, data_from, ending, numbered_from}
use Rattle.templates.specs.Style.{Style, is_pair, knows_function, written_in_style, label_within, block_from, block_in_style, blocks_of, styled_statements}
use Rattle.commented_text.specs.Groups.{InstructionGroup, label_if, groups_from, groups_of_blocks, groups}
use Rattle.commented_text.specs.Commented.{written, commented_groups, Commented}
use Rattle.commented_text.proofs.WholeReading.{AreWhole, none, both}
use Rattle.commented_text.proofs.Ends.{line_ends}
use Rattle.commented_text.proofs.Weaving.{Weaves, weaves_same, weaves_both, weaves_comments}
use Rattle.commented_text.proofs.Source.{HasNoLf, all_take, all_drop, lines_have_none}

-- ---- the statements of the groups are those of the text

abbrev pub statements_in : List InstructionGroup → List Stmt86
statements_in gs = flat_map (λ (g : InstructionGroup). g.statements) gs

from_one : (s : Style) (labelled first c : Bool) (x : Placed) (xs : List Placed) → statements_in (groups_from s labelled first c (x ∷ xs)) ≡ label_if labelled x ++ block_from s first c (x ∷ xs)
from_one s labelled first c x [] = append_assoc (label_if labelled x) (written_in_style s first (is_pair s x []) c x) []
from_one s labelled first c x (y ∷ ys) =
    ap (λ (t : List Stmt86). (label_if labelled x ++ written_in_style s first (is_pair s x (y ∷ ys)) c x) ++ t) (from_one s s.all_labels (is_pair s x (y ∷ ys)) (knows_function c x.instr) y ys)
    ∙ append_assoc (label_if labelled x) (written_in_style s first (is_pair s x (y ∷ ys)) c x) (label_within s (y ∷ ys) ++ block_from s (is_pair s x (y ∷ ys)) (knows_function c x.instr) (y ∷ ys))

of_block : (s : Style) (b : List Placed) → statements_in (groups_from s true false false b) ≡ block_in_style s b
of_block s [] = refl
of_block s (x ∷ xs) = from_one s true false false x xs

pub of_blocks : (s : Style) (bs : List (List Placed)) → statements_in (groups_of_blocks s bs) ≡ blocks_of s bs
of_blocks s [] = refl
of_blocks s (b ∷ bs) =
    flat_map-append (λ (g : InstructionGroup). g.statements) (groups_from s true false false b) (groups_of_blocks s bs)
    ∙ ap (λ (t : List Stmt86). t ++ statements_in (groups_of_blocks s bs)) (of_block s b)
    ∙ ap (λ (t : List Stmt86). block_in_style s b ++ t) (of_blocks s bs)

-- ---- written lines

written_whole : (xs : List Stmt86) → AreWhole (written xs)
written_whole [] = none
written_whole (x ∷ xs) = both (line_ends x) (written_whole xs)

pub written_numbered : (n : ℕ) (xs : List Stmt86) → written_text (numbered_from n xs) ≡ written xs
written_numbered n [] = refl
written_numbered n (x ∷ xs) = ap (λ (t : List ℕ). written_line x ++ t) (written_numbered (n + 1) xs)

pub written-both : (xs ys : List Stmt86) → written (xs ++ ys) ≡ written xs ++ written ys
written-both xs ys = flat_map-append written_line xs ys

-- ---- comments among them

commented_weaves : (stood : ℕ) (lines : List (List ℕ)) (gs : List InstructionGroup) → AllByRecursion HasNoLf lines → Weaves (written (statements_in gs)) (commented_groups stood lines gs)
commented_weaves stood lines [] h = weaves_comments lines h
commented_weaves stood lines (g ∷ gs) h =
    let due = g.line - stood in
    let first = weaves_comments (take due lines) (all_take HasNoLf due lines h) in
    let rest = commented_weaves (max stood g.line) (drop due lines) gs (all_drop HasNoLf due lines h) in
    rw (written-both g.statements (statements_in gs)) (weaves_both first (weaves_both (weaves_same (written_whole g.statements)) rest))

-- the text without comments, in its three parts
parts : (s : Style) (p : Program) → written (styled_statements s p) ≡ written (Cseg ∷ prologue p.top) ++ (written (statements_in (groups s p)) ++ written (runtime ++ (Dseg ∷ (data_from 0 p.cells ++ ending p.top))))
parts s p =
    let body = blocks_of s (cut_from p 0 p.instrs) in
    let tail = runtime ++ (Dseg ∷ (data_from 0 p.cells ++ ending p.top)) in
    written-both (Cseg ∷ prologue p.top) (body ++ tail)
    ∙ ap (λ (t : List ℕ). written (Cseg ∷ prologue p.top) ++ t) (written-both body tail ∙ ap (λ (t : List Stmt86). written t ++ written tail) (sym (of_blocks s (cut_from p 0 p.instrs))))

pub text_weaves : (source : List ℕ) (p : Program) (lines : List Line86) (text : List ℕ) → Commented source p lines text → Weaves (written_text lines) text
text_weaves source p lines text c =
    let s = c.style in
    let tail = runtime ++ (Dseg ∷ (data_from 0 p.cells ++ ending p.top)) in
    rw (c.of_style, c.is, written_numbered 1 (styled_statements s p), parts s p)
    (weaves_both (weaves_same (written_whole (Cseg ∷ prologue p.top)))
    (weaves_both (commented_weaves 0 c.source_lines (groups s p) (lines_have_none source c.source_lines c.cut)) (weaves_same (written_whole tail))))
