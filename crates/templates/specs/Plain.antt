-- The plain text of a program: each instruction's label and template with a save, between the prologue and the runtime,
-- and the data after them.
use Rattle.std.specs.Prelude.{ℕ, ◌+◌, ◌-◌, ◌==◌, cond, true, List, [], ◌∷◌, ◌++◌}
use Rattle.cells.specs.declared.Place.TheVariants.{At as AtPlace, Exit}
use Rattle.cells.specs.declared.Cell.{Cell}
use Rattle.cells.specs.declared.Cell.TheVariants.{Num as NumCell, Lo, Hi, Psw, Junk}
use Rattle.i86.specs.declared.Reg8.TheVariants.{Al, Cl, Dl, Bl, Ch, Bh}
use Rattle.i86.specs.declared.Reg16.TheVariants.{Sp, Si}
use Rattle.i86.specs.declared.StackReg.TheVariants.{Si as StackSi}
use Rattle.i86.specs.declared.Operand8.TheVariants.{Reg as Reg_8}
use Rattle.i86.specs.declared.Operand16.TheVariants.{Reg as Reg_16}
use Rattle.i86.specs.declared.Jump.TheVariants.{Jz}
use Rattle.i86.specs.declared.Instr86.TheVariants.{MovReg8, MovNum8, MovNum16, MovReg16, MovDirect16, MovAxDs, MovSsAx, OrClCl, Push, Ret, Int224}
use Rattle.asm86_line_types.specs.declared.line.Label.TheVariants.{At, Sys, End}
use Rattle.asm86_line_types.specs.declared.line.Value16.TheVariants.{Offset}
use Rattle.asm86_line_types.specs.declared.line.Stmt86.{Stmt86}
use Rattle.asm86_line_types.specs.declared.line.Stmt86.TheVariants.{Cseg, Dseg, Org, Rb, Db, Dw, Mark, Run, MovOffset, Jcc, EndText}
use Rattle.asm86_line_types.specs.declared.line.Line86.{Line86}
use Rattle.asm80_types.specs.declared.program.Placed.{Placed}
use Rattle.asm80_types.specs.Program.{Program}
use Rattle.templates.specs.Template.{template}

-- what runs first: the top of the area into the word at 6, the data segment as stack segment, and the end's offset pushed
abbrev pub prologue : ℕ → List Stmt86
prologue top =
    Run (MovNum16 Si top) ∷ (Run (MovDirect16 6 Si) ∷ (Run MovAxDs ∷ (Run MovSsAx ∷ (Run (MovReg16 Sp (Reg_16 Si)) ∷ (MovOffset Si End ∷ (Run (Push StackSi) ∷ []))))))

-- what a system call runs: function 0 ends the program; the answers of CP/M-86 go where CP/M 2.2 has them
abbrev pub call_code : List Stmt86
call_code = Run OrClCl ∷ (Jcc Jz End ∷ (Run Int224 ∷ (Run (MovReg8 Bl (Reg_8 Al)) ∷ (Run (MovReg8 Ch (Reg_8 Bh)) ∷ (Run Ret ∷ [])))))

-- what the end runs: function 0
abbrev pub end_code : List Stmt86
end_code = Run (MovNum8 Cl 0) ∷ (Run (MovNum8 Dl 0) ∷ (Run Int224 ∷ []))

abbrev pub runtime : List Stmt86
runtime = Mark Sys ∷ (call_code ++ Mark End ∷ end_code)

-- each instruction's label and template
abbrev pub body : List Placed → List Stmt86
body [] = []
body (x ∷ xs) = Mark (At x.at) ∷ (template x.instr x.at true ++ body xs)

-- a cell's statement: a byte, or, at its low half, the offset of a code address
abbrev pub cell_statement : Cell → List Stmt86
cell_statement (NumCell n) = Db n ∷ []
cell_statement (Lo (AtPlace a)) = Dw (Offset (At a)) ∷ []
cell_statement (Lo Exit) = []
cell_statement (Hi q) = []
cell_statement (Psw f) = []
cell_statement Junk = []

-- ORG where a run of adjacent cells begins; `next` is the address after the cell before
abbrev pub org_at : ℕ → ℕ → List Stmt86
org_at next at = cond (at == next) [] (Org at ∷ [])

-- the data cells in order; all stand from 100H up, so 0 is the address after none
abbrev pub data_from : ℕ → List (ℕ × Cell) → List Stmt86
data_from next [] = []
data_from next (c ∷ cs) = org_at next c.0 ++ (cell_statement c.1 ++ data_from (c.0 + 1) cs)

-- room for the stack's last byte, which keeps the data group up to the top
abbrev pub ending : ℕ → List Stmt86
ending top = Org (top - 1) ∷ (Rb 1 ∷ (EndText ∷ []))

abbrev pub plain_statements : Program → List Stmt86
plain_statements p = Cseg ∷ (prologue p.top ++ (body p.instrs ++ (runtime ++ (Dseg ∷ (data_from 0 p.cells ++ ending p.top)))))

-- statements as lines, numbered from a number on
abbrev pub numbered_from : ℕ → List Stmt86 → List Line86
numbered_from n [] = []
numbered_from n (x ∷ xs) = record { line = n; stmt = x } ∷ numbered_from (n + 1) xs

-- the plain text of a program, with its lines numbered from 1
abbrev pub plain : Program → List Line86
plain p = numbered_from 1 (plain_statements p)
