-- The code of a text that is written for a program has at most 8 bytes for each of its instructions, and 34 around them.
use Rattle.std.proofs.Common.{◌≡◌, ℕ, ◌+◌, ◌*◌, ◌≤◌, Bool, true, false, cond, ◌&&◌, nat_le, ◌==◌, List, [], ◌∷◌, ◌++◌, length, refl, ap, arith}
use Rattle.std.proofs.lemmas.Bool.{leb-true}
use Rattle.std.proofs.lemmas.List.{length-append}
use Rattle.cells.specs.declared.Cell.{Cell}
use Rattle.cells.specs.declared.Cell.TheVariants.{Num as NumCell, Lo, Hi, Psw as PswCell, Junk}
use Rattle.cells.specs.declared.Place.TheVariants.{At as AtPlace, Exit}
use Rattle.i80.specs.declared.Src.TheVariants.{Reg as InReg, Mem}
use Rattle.i80.specs.declared.StackPair.TheVariants.{B as StackB, D as StackD, H as StackH, Psw}
use Rattle.i80.specs.declared.Word.TheVariants.{Num, Code}
use Rattle.i80.specs.declared.Goal.TheVariants.{At, Boot, Bdos}
use Rattle.i80.specs.declared.Instr80.{Instr80}
use Rattle.i80.specs.declared.Instr80.TheVariants.{Mov, Mvi, Lxi, Inx, Dcx, Dad, Push, Pop, Jif, Call, Cif}
use Rattle.asm86_line_types.specs.declared.line.Label.TheVariants.{At as Line}
use Rattle.asm86_line_types.specs.declared.line.Stmt86.{Stmt86}
use Rattle.asm86_line_types.specs.declared.line.Stmt86.TheVariants.{Dseg, Mark, Org}
use Rattle.asm86_line_types.specs.Layout.{sizes_of}
use Rattle.asm86_line_types.specs.Image.{statements}
use Rattle.asm86_line_types.proofs.Sizes.{sizes_of-append}
use Rattle.asm80_types.specs.declared.program.Placed.{Placed}
use Rattle.asm80_types.specs.Program.{Program}
use Rattle.flow.specs.Blocks.{cut_from}
use Rattle.flow.proofs.Cuts.{flat, flat-cut}
use Rattle.templates.specs.Template.{template}
use Rattle.templates.specs.Plain.{prologue, runtime, cell_statement, org_at, data_from, ending, numbered_from}
use Rattle.templates.specs.Style.{Style, is_pair, knows_function, without_last, without_first_if, without_last_if, written_as, written_in_style, label_within, block_from, block_in_style, blocks_of, styled_statements}
use Rattle.templates.proofs.NumberedLines.{statements-numbered}

-- ---- a template

is_short : (i : Instr80) (at : ℕ) (save : Bool) → nat_le (sizes_of (template i at save)) 8 ≡ true
is_short (Mov (InReg r) s) at save = refl
is_short (Mov Mem (InReg r)) at save = refl
is_short (Mov Mem Mem) at save = refl
is_short (Mvi (InReg r) n) at save = refl
is_short (Mvi Mem n) at save = refl
is_short (Lxi p (Num w)) at save = refl
is_short (Lxi p (Code a)) at save = refl
is_short (Inx p) at true = refl
is_short (Inx p) at false = refl
is_short (Dcx p) at true = refl
is_short (Dcx p) at false = refl
is_short (Dad p) at true = refl
is_short (Dad p) at false = refl
is_short (Push StackB) at save = refl
is_short (Push StackD) at save = refl
is_short (Push StackH) at save = refl
is_short (Push Psw) at save = refl
is_short (Pop StackB) at save = refl
is_short (Pop StackD) at save = refl
is_short (Pop StackH) at save = refl
is_short (Pop Psw) at save = refl
is_short (Call (At a)) at save = refl
is_short (Call Boot) at save = refl
is_short (Call Bdos) at save = refl
is_short (Cif c (At a)) at save = refl
is_short (Cif c Boot) at save = refl
is_short (Cif c Bdos) at save = refl
is_short i at save = refl

template_size : (i : Instr80) (at : ℕ) (save : Bool) → sizes_of (template i at save) ≤ 8
template_size i at save = leb-true (sizes_of (template i at save)) 8 (is_short i at save)

-- ---- an instruction, of which the first statement and the last may be left out

but_first : (b : Bool) (xs : List Stmt86) → sizes_of (without_first_if b xs) ≤ sizes_of xs
but_first true [] = omega arith
but_first true (x ∷ xs) = omega arith
but_first false xs = omega arith

but_last : (xs : List Stmt86) → sizes_of (without_last xs) ≤ sizes_of xs
but_last [] = omega arith
but_last (x ∷ []) = omega arith
but_last (x ∷ (y ∷ ys)) = omega (arith, but_last (y ∷ ys))

but_last_if : (b : Bool) (xs : List Stmt86) → sizes_of (without_last_if b xs) ≤ sizes_of xs
but_last_if true xs = but_last xs
but_last_if false xs = omega arith

trimmed : (first last : Bool) (xs : List Stmt86) → sizes_of xs ≤ 8 → sizes_of (without_first_if first (without_last_if last xs)) ≤ 8
trimmed first last xs le = omega (arith, but_first first (without_last_if last xs), but_last_if last xs)

chosen : (b : Bool) (xs ys : List Stmt86) → sizes_of xs ≤ 8 → sizes_of ys ≤ 8 → sizes_of (cond b xs ys) ≤ 8
chosen true xs ys h g = h
chosen false xs ys h g = g

written_size : (s : Style) (first last c : Bool) (x : Placed) (i : Instr80) → sizes_of (written_as s first last c x i) ≤ 8
written_size s first last c x (Jif on goal) = chosen (s.shortens x) _ _ (omega arith) (template_size (Jif on goal) x.at (s.saves x))
written_size s first last c x (Call Bdos) = chosen (c && s.directs x) _ _ (omega arith) (template_size (Call Bdos) x.at (s.saves x))
written_size s first last c x (Call (At a)) = trimmed first last (template (Call (At a)) x.at (s.saves x)) (template_size (Call (At a)) x.at (s.saves x))
written_size s first last c x (Call Boot) = trimmed first last (template (Call Boot) x.at (s.saves x)) (template_size (Call Boot) x.at (s.saves x))
written_size s first last c x i = trimmed first last (template i x.at (s.saves x)) (template_size i x.at (s.saves x))

-- ---- blocks

no_label : (s : Style) (xs : List Placed) → sizes_of (label_within s xs) ≡ 0
no_label s [] = refl
no_label s (x ∷ xs) = by s.all_labels
  where
    by : (b : Bool) → sizes_of (cond b (Mark (Line x.at) ∷ []) []) ≡ 0
    by true = refl
    by false = refl

from_size : (s : Style) (first c : Bool) (xs : List Placed) → sizes_of (block_from s first c xs) ≤ 8 * length xs
from_size s first c [] = omega arith
from_size s first c (x ∷ xs) =
    let here = written_in_style s first (is_pair s x xs) c x in
    let rest = block_from s (is_pair s x xs) (knows_function c x.instr) xs in
    omega (arith, sizes_of-append here (label_within s xs ++ rest), sizes_of-append (label_within s xs) rest, no_label s xs, written_size s first (is_pair s x xs) c x x.instr, from_size s (is_pair s x xs) (knows_function c x.instr) xs)

block_size : (s : Style) (xs : List Placed) → sizes_of (block_in_style s xs) ≤ 8 * length xs
block_size s [] = omega arith
block_size s (x ∷ xs) = omega (arith, from_size s false false (x ∷ xs))

blocks_size : (s : Style) (bs : List (List Placed)) → sizes_of (blocks_of s bs) ≤ 8 * length (flat bs)
blocks_size s [] = omega arith
blocks_size s (b ∷ bs) = omega (arith, sizes_of-append (block_in_style s b) (blocks_of s bs), block_size s b, blocks_size s bs, length-append b (flat bs))

-- ---- data have no code

no_code_of_cell : (c : Cell) → sizes_of (cell_statement c) ≡ 0
no_code_of_cell (NumCell n) = refl
no_code_of_cell (Lo (AtPlace a)) = refl
no_code_of_cell (Lo Exit) = refl
no_code_of_cell (Hi q) = refl
no_code_of_cell (PswCell f) = refl
no_code_of_cell Junk = refl

no_code_of_org : (next at : ℕ) → sizes_of (org_at next at) ≡ 0
no_code_of_org next at = by (at == next)
  where
    by : (b : Bool) → sizes_of (cond b [] (Org at ∷ [])) ≡ 0
    by true = refl
    by false = refl

no_code_of_data : (next : ℕ) (cs : List (ℕ × Cell)) → sizes_of (data_from next cs) ≡ 0
no_code_of_data next [] = refl
no_code_of_data next (c ∷ cs) =
    let rest = data_from (c.0 + 1) cs in
    omega (arith, sizes_of-append (org_at next c.0) (cell_statement c.1 ++ rest), sizes_of-append (cell_statement c.1) rest, no_code_of_org next c.0, no_code_of_cell c.1, no_code_of_data (c.0 + 1) cs)

-- ---- the whole text

pub text_size : (s : Style) (p : Program) → sizes_of (statements (numbered_from 1 (styled_statements s p))) ≤ 8 * length p.instrs + 34
text_size s p =
    let body = blocks_of s (cut_from p 0 p.instrs) in
    let cells = data_from 0 p.cells in
    let same : sizes_of (statements (numbered_from 1 (styled_statements s p))) ≡ sizes_of (styled_statements s p) = ap sizes_of (statements-numbered 1 (styled_statements s p)) in
    let whole : length (flat (cut_from p 0 p.instrs)) ≡ length p.instrs = ap length (flat-cut p 0 p.instrs) in
    let tail = Dseg ∷ (cells ++ ending p.top) in
    let tail_size : sizes_of (cells ++ ending p.top) ≡ sizes_of cells + sizes_of (ending p.top) = sizes_of-append cells (ending p.top) in
    let behind : sizes_of (runtime ++ tail) ≡ sizes_of runtime + sizes_of tail = sizes_of-append runtime tail in
    let within : sizes_of (body ++ (runtime ++ tail)) ≡ sizes_of body + sizes_of (runtime ++ tail) = sizes_of-append body (runtime ++ tail) in
    let all : sizes_of (prologue p.top ++ (body ++ (runtime ++ tail))) ≡ sizes_of (prologue p.top) + sizes_of (body ++ (runtime ++ tail)) = sizes_of-append (prologue p.top) (body ++ (runtime ++ tail)) in
    omega (arith, same, whole, tail_size, behind, within, all, blocks_size s (cut_from p 0 p.instrs), no_code_of_data 0 p.cells)
