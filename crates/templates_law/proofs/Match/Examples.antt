-- Small programs, computed: what the lean style leaves out of a block, and that the text matches the block.
use Rattle.std.proofs.Common.{◌≡◌, ℕ, [], ◌∷◌, None, refl}
use Rattle.cells.specs.declared.Cond.TheVariants.{Z}
use Rattle.cells.specs.declared.Part.TheVariants.{L}
use Rattle.cells.specs.Parts.{Parts, nothing, everything, only}
use Rattle.i80.specs.declared.Reg.TheVariants.{A as RegA, C as RegC}
use Rattle.i80.specs.declared.Src.TheVariants.{Reg as InReg}
use Rattle.i80.specs.declared.Pair.TheVariants.{B as PairB, D as PairD, H as PairH}
use Rattle.i80.specs.declared.Op.TheVariants.{Ora}
use Rattle.i80.specs.declared.Goal.TheVariants.{At as ToInstr, Boot as ToBoot, Bdos as ToBdos}
use Rattle.i80.specs.declared.Instr80.{Instr80}
use Rattle.i80.specs.declared.Instr80.TheVariants.{Mvi, Alu, Inx, Dcx, Dad, Jmp, Jif, Call}
use Rattle.i86.specs.declared.Reg8.TheVariants.{Al, Cl}
use Rattle.i86.specs.declared.Reg16.TheVariants.{Cx, Dx, Bx, Si}
use Rattle.i86.specs.declared.Operand8.TheVariants.{Reg as Reg_8}
use Rattle.i86.specs.declared.AluOp.TheVariants.{Or}
use Rattle.i86.specs.declared.Count.TheVariants.{Inc, Dec}
use Rattle.i86.specs.declared.Rotate.TheVariants.{Rcl, Rcr}
use Rattle.i86.specs.declared.Jump.TheVariants.{Jz}
use Rattle.i86.specs.declared.Instr86.TheVariants.{MovNum8, Alu as Alu_86, Add16, Count16, Rotate16, Lahf, Sahf, Int224}
use Rattle.asm86_line_types.specs.declared.line.Label.TheVariants.{At, Sys, End}
use Rattle.asm86_line_types.specs.declared.line.Stmt86.TheVariants.{Mark, Run, Jcc, Jmp as JmpTo, Call as CallTo}
use Rattle.asm80_types.specs.declared.program.Placed.{Placed}
use Rattle.asm80_types.specs.Program.{Program, program_of}
use Rattle.flow.specs.Blocks.{blocks, cut_from}
use Rattle.flow.specs.Solving.{Needs}
use Rattle.templates.specs.Style.{blocks_of, styled_statements}
use Rattle.templates.specs.Lean.{lean_style}
use Rattle.simulation_def.specs.Matches.{blocks_reason}
use Rattle.simulation_def.specs.Needed.{needed_by}

abbrev line : ℕ → ℕ → Instr80 → Placed
line at n i = record { at = at; line = n; instr = i }

-- the same parts at each address
abbrev always : Parts → Needs
always k = record { at = λ a. k; returned = k }

-- ORA A / INX H / DCX D / DAD B / INX D / JZ 100H / JMP 0: Z is needed behind each sum. AH goes through them, and is saved and
-- brought back once before DAD and once behind it, whose own SAHF stays. The jump is short.
sums : Program
sums = program_of (line 0x100 1 (Alu Ora (InReg RegA)) ∷ (line 0x101 2 (Inx PairH) ∷ (line 0x102 3 (Dcx PairD) ∷ (line 0x103 4 (Dad PairB) ∷ (line 0x104 5 (Inx PairD) ∷ (line 0x105 6 (Jif Z (ToInstr 0x100)) ∷ (line 0x108 7 (Jmp ToBoot) ∷ []))))))) [] 0xF000

sums_are : blocks_of (lean_style (always everything) sums) (cut_from sums 0 sums.instrs)
    ≡ Mark (At 0x100) ∷ (Run (Alu_86 Or (Reg_8 Al)) ∷ (Run Lahf ∷ (Run (Count16 Inc Bx) ∷ (Run (Count16 Dec Dx) ∷ (Run (Add16 Bx Cx) ∷ (Run (Rotate16 Rcr Si) ∷ (Run Sahf ∷ (Run (Rotate16 Rcl Si)
    ∷ (Run Lahf ∷ (Run (Count16 Inc Dx) ∷ (Run Sahf ∷ (Jcc Jz (At 0x100) ∷ (Mark (At 0x108) ∷ (JmpTo End ∷ []))))))))))))))
unfolding sums
sums_are = refl

sums_match : blocks_reason sums (styled_statements (lean_style (always everything) sums) sums) (needed_by sums (always everything)) (blocks sums) ≡ None
unfolding sums
sums_match = refl

-- without a need for a flag nothing is saved
unsaved_are : blocks_of (lean_style (always nothing) sums) (cut_from sums 0 sums.instrs)
    ≡ Mark (At 0x100) ∷ (Run (Alu_86 Or (Reg_8 Al)) ∷ (Run (Count16 Inc Bx) ∷ (Run (Count16 Dec Dx) ∷ (Run (Add16 Bx Cx) ∷ (Run (Count16 Inc Dx) ∷ (Jcc Jz (At 0x100) ∷ (Mark (At 0x108) ∷ (JmpTo End ∷ []))))))))
unfolding sums
unsaved_are = refl

-- MVI C,9 / CALL 5 / JMP 0: the function is known, and the system is called by INT 224 unless L is needed behind the call
asks : Program
asks = program_of (line 0x100 1 (Mvi (InReg RegC) 9) ∷ (line 0x102 2 (Call ToBdos) ∷ (line 0x105 3 (Jmp ToBoot) ∷ []))) [] 0xF000

direct_are : blocks_of (lean_style (always nothing) asks) (cut_from asks 0 asks.instrs) ≡ Mark (At 0x100) ∷ (Run (MovNum8 Cl 9) ∷ (Run Int224 ∷ (Mark (At 0x105) ∷ (JmpTo End ∷ []))))
unfolding asks
direct_are = refl

through_are : blocks_of (lean_style (always (only L)) asks) (cut_from asks 0 asks.instrs) ≡ Mark (At 0x100) ∷ (Run (MovNum8 Cl 9) ∷ (CallTo Sys ∷ (Mark (At 0x105) ∷ (JmpTo End ∷ []))))
unfolding asks
through_are = refl
