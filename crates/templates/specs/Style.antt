-- The texts that are written for a program: block after block, each with the label of its first instruction, and each instruction by
-- its template. What a text may leave out of the templates is its style.
use Rattle.std.specs.Prelude.{◌==◌, ◌%◌, not, ◌&&◌, Bool, true, false, cond, List, [], ◌∷◌, ◌++◌, drop}
use Rattle.cells.specs.declared.Cond.{Cond}
use Rattle.cells.specs.declared.Cond.TheVariants.{Nz, Z, Nc, C as Cc, Po, Pe, P as Plus, M as Minus}
use Rattle.cells.specs.declared.Part.TheVariants.{C}
use Rattle.cells.specs.Parts.{has}
use Rattle.i80.specs.declared.Reg.TheVariants.{C as RegC}
use Rattle.i80.specs.declared.Src.TheVariants.{Reg as InReg}
use Rattle.i80.specs.declared.Pair.TheVariants.{B as PairB}
use Rattle.i80.specs.declared.StackPair.TheVariants.{Psw}
use Rattle.i80.specs.declared.Word.TheVariants.{Num}
use Rattle.i80.specs.declared.Goal.TheVariants.{Bdos}
use Rattle.i80.specs.declared.Instr80.{Instr80}
use Rattle.i80.specs.declared.Instr80.TheVariants.{Mvi, Lxi, Inx, Dcx, Pop, Jif, Call}
use Rattle.i80.specs.Columns.{defs80}
use Rattle.i86.specs.declared.Jump.{Jump}
use Rattle.i86.specs.declared.Jump.TheVariants.{Jb, Jnb, Jz, Jnz, Js, Jns, Jp, Jnp}
use Rattle.i86.specs.declared.Instr86.TheVariants.{Int224}
use Rattle.asm86_line_types.specs.declared.line.Label.TheVariants.{At}
use Rattle.asm86_line_types.specs.declared.line.Stmt86.{Stmt86}
use Rattle.asm86_line_types.specs.declared.line.Stmt86.TheVariants.{Cseg, Dseg, Mark, Run, Jcc}
use Rattle.asm86_line_types.specs.declared.line.Line86.{Line86}
use Rattle.asm80_types.specs.declared.program.Placed.{Placed}
use Rattle.asm80_types.specs.Program.{Program}
use Rattle.flow.specs.Saves.{is_word_sum}
use Rattle.flow.specs.Blocks.{cut_from}
use Rattle.templates.specs.Template.{template, label_of_goal}
use Rattle.templates.specs.Plain.{prologue, runtime, data_from, ending, numbered_from}

-- Whether each instruction has its label, or the first of a block alone; which INX, DCX and DAD save the flags; whether a SAHF and the
-- LAHF that follows it in the block are left out; which CALL 5 may be INT 224 where the function is known; and which conditional jumps
-- are one short jump.
pub record Style : Type 0 where
  pub all_labels : Bool
  pub saves : Placed → Bool
  pub pairs : Bool
  pub directs : Placed → Bool
  pub shortens : Placed → Bool

-- every template with a save, and nothing left out
abbrev pub plain_style : Style
plain_style = record { all_labels = true; saves = λ x. true; pairs = false; directs = λ x. false; shortens = λ x. false }

-- SAHF is the last statement of a saving INX or DCX, and of POP PSW
abbrev pub ends_by_sahf : Bool → Instr80 → Bool
ends_by_sahf save (Inx pair) = save
ends_by_sahf save (Dcx pair) = save
ends_by_sahf save (Pop Psw) = true
ends_by_sahf save i = false

-- LAHF is the first of a saving INX, DCX or DAD
abbrev pub begins_by_lahf : Bool → Instr80 → Bool
begins_by_lahf save i = save && is_word_sum i

-- the SAHF of an instruction and the LAHF of the next one in its block are both left out
abbrev pub is_pair : Style → Placed → List Placed → Bool
is_pair s x [] = false
is_pair s x (y ∷ ys) = s.pairs && (ends_by_sahf (s.saves x) x.instr && begins_by_lahf (s.saves y) y.instr)

-- whether C is known to hold a number other than 0 behind an instruction, by what was known before it: the last instruction of the
-- block that defines C is MVI C or LXI B with such a number
abbrev pub knows_function : Bool → Instr80 → Bool
knows_function c (Mvi (InReg RegC) n) = not (n == 0)
knows_function c (Lxi PairB (Num w)) = not (w % 256 == 0)
knows_function c i = c && not (has (defs80 i) C)

-- the jump of a condition
abbrev pub jump_if : Cond → Jump
jump_if Nz = Jnz
jump_if Z = Jz
jump_if Nc = Jnb
jump_if Cc = Jb
jump_if Po = Jnp
jump_if Pe = Jp
jump_if Plus = Jns
jump_if Minus = Js

-- statements without the last one
abbrev pub without_last : List Stmt86 → List Stmt86
without_last [] = []
without_last (x ∷ []) = []
without_last (x ∷ (y ∷ ys)) = x ∷ without_last (y ∷ ys)

abbrev pub without_first_if : Bool → List Stmt86 → List Stmt86
without_first_if true xs = drop 1 xs
without_first_if false xs = xs

abbrev pub without_last_if : Bool → List Stmt86 → List Stmt86
without_last_if true xs = without_last xs
without_last_if false xs = xs

-- The statements of an instruction: whether its LAHF is left out, and its SAHF, and whether C is known before it
abbrev pub written_as : Style → Bool → Bool → Bool → Placed → Instr80 → List Stmt86
written_as s first last c x (Jif on goal) = cond (s.shortens x) (Jcc (jump_if on) (label_of_goal goal) ∷ []) (template (Jif on goal) x.at (s.saves x))
written_as s first last c x (Call Bdos) = cond (c && s.directs x) (Run Int224 ∷ []) (template (Call Bdos) x.at (s.saves x))
written_as s first last c x i = without_first_if first (without_last_if last (template i x.at (s.saves x)))

abbrev pub written_in_style : Style → Bool → Bool → Bool → Placed → List Stmt86
written_in_style s first last c x = written_as s first last c x x.instr

-- the label of an instruction that is not the first of its block
abbrev pub label_within : Style → List Placed → List Stmt86
label_within s [] = []
label_within s (x ∷ xs) = cond s.all_labels (Mark (At x.at) ∷ []) []

-- the instructions of a block from one on, where the LAHF of that one is left out or not, and C is known or not
abbrev pub block_from : Style → Bool → Bool → List Placed → List Stmt86
block_from s first c [] = []
block_from s first c (x ∷ xs) =
    written_in_style s first (is_pair s x xs) c x ++ (label_within s xs ++ block_from s (is_pair s x xs) (knows_function c x.instr) xs)

abbrev pub block_in_style : Style → List Placed → List Stmt86
block_in_style s [] = []
block_in_style s (x ∷ xs) = Mark (At x.at) ∷ block_from s false false (x ∷ xs)

abbrev pub blocks_of : Style → List (List Placed) → List Stmt86
blocks_of s [] = []
blocks_of s (b ∷ bs) = block_in_style s b ++ blocks_of s bs

-- the whole text, between the prologue and the data as the plain text has them
abbrev pub styled_statements : Style → Program → List Stmt86
styled_statements s p = Cseg ∷ (prologue p.top ++ (blocks_of s (cut_from p 0 p.instrs) ++ (runtime ++ (Dseg ∷ (data_from 0 p.cells ++ ending p.top)))))

abbrev pub styled : Style → Program → List Line86
styled s p = numbered_from 1 (styled_statements s p)
