-- Small programs, computed: their lean texts, and the reach of the jump rule on either side.
use Rattle.std.proofs.Common.{◌≡◌, ℕ, zero, suc, ◌+◌, List, [], ◌∷◌, true, false, refl}
use Rattle.cells.specs.declared.Cond.TheVariants.{Nz}
use Rattle.cells.specs.Parts.{nothing, everything}
use Rattle.i80.specs.declared.Reg.TheVariants.{B as RegB, C as RegC}
use Rattle.i80.specs.declared.Src.TheVariants.{Reg as InReg}
use Rattle.i80.specs.declared.Pair.TheVariants.{D as PairD, H as PairH}
use Rattle.i80.specs.declared.Word.TheVariants.{Num}
use Rattle.i80.specs.declared.Goal.TheVariants.{At as ToInstr, Boot as ToBoot, Bdos as ToBdos}
use Rattle.i80.specs.declared.Instr80.{Instr80}
use Rattle.i80.specs.declared.Instr80.TheVariants.{Nop, Mvi, Lxi, Dcr, Inx, Dad, Jmp, Call, Jif}
use Rattle.i86.specs.declared.Reg8.TheVariants.{Cl, Ch}
use Rattle.i86.specs.declared.Reg16.TheVariants.{Dx, Bx, Si}
use Rattle.i86.specs.declared.Operand8.TheVariants.{Reg as Reg_8}
use Rattle.i86.specs.declared.Count.TheVariants.{Inc, Dec}
use Rattle.i86.specs.declared.Rotate.TheVariants.{Rcl, Rcr}
use Rattle.i86.specs.declared.Jump.TheVariants.{Jnz}
use Rattle.i86.specs.declared.Instr86.TheVariants.{MovNum8, Add16, Count8, Count16, Rotate16, Sahf, Lahf, Int224}
use Rattle.asm86_line_types.specs.declared.line.Label.TheVariants.{At, Sys, End}
use Rattle.asm86_line_types.specs.declared.line.Stmt86.TheVariants.{Mark, Run, Jcc, Jmp as JmpTo, Call as CallTo}
use Rattle.asm80_types.specs.declared.program.Placed.{Placed}
use Rattle.asm80_types.specs.Program.{Program, program_of}
use Rattle.flow.specs.Blocks.{cut_from}
use Rattle.flow.specs.Solving.{Needs}
use Rattle.templates.specs.Style.{blocks_of}
use Rattle.templates.specs.Lean.{lean_style}

abbrev line : ℕ → ℕ → Instr80 → Placed
line at n i = record { at = at; line = n; instr = i }

-- each part is needed everywhere, or none is
abbrev all_needed : Needs
all_needed = record { at = λ a. everything; returned = everything }

abbrev none_needed : Needs
none_needed = record { at = λ a. nothing; returned = nothing }

-- DCR B / INX H / INX D / DAD D / JNZ 100H / MVI C,2 / CALL 5 / JMP 0
rules : Program
rules = program_of (line 0x100 2 (Dcr (InReg RegB)) ∷ (line 0x101 3 (Inx PairH) ∷ (line 0x102 4 (Inx PairD) ∷ (line 0x103 5 (Dad PairD) ∷ (line 0x104 6 (Jif Nz (ToInstr 0x100)) ∷ (line 0x107 7 (Mvi (InReg RegC) 2) ∷ (line 0x109 8 (Call ToBdos) ∷ (line 0x10C 9 (Jmp ToBoot) ∷ [])))))))) [] 0xF000

-- where all is needed, the flags are saved once round three sums, and the call goes through the runtime
needed_text :
    blocks_of (lean_style all_needed rules) (cut_from rules 0 rules.instrs)
    ≡ Mark (At 0x100) ∷ (Run (Count8 Dec (Reg_8 Ch)) ∷ (Run Lahf ∷ (Run (Count16 Inc Bx) ∷ (Run (Count16 Inc Dx) ∷ (Run (Add16 Bx Dx) ∷ (Run (Rotate16 Rcr Si) ∷ (Run Sahf ∷ (Run (Rotate16 Rcl Si) ∷ (Jcc Jnz (At 0x100) ∷ (Mark (At 0x107) ∷ (Run (MovNum8 Cl 2) ∷ (CallTo Sys ∷ (Mark (At 0x10C) ∷ (JmpTo End ∷ []))))))))))))))
unfolding rules
needed_text = refl

-- where nothing is, no flag is saved, and the call is made where it stands
unneeded_text :
    blocks_of (lean_style none_needed rules) (cut_from rules 0 rules.instrs)
    ≡ Mark (At 0x100) ∷ (Run (Count8 Dec (Reg_8 Ch)) ∷ (Run (Count16 Inc Bx) ∷ (Run (Count16 Inc Dx) ∷ (Run (Add16 Bx Dx) ∷ (Jcc Jnz (At 0x100) ∷ (Mark (At 0x107) ∷ (Run (MovNum8 Cl 2) ∷ (Run Int224 ∷ (Mark (At 0x10C) ∷ (JmpTo End ∷ []))))))))))
unfolding rules
unneeded_text = refl

-- so many LXI H,0, of three bytes in either code
fill : ℕ → ℕ → List Placed → List Placed
fill at zero rest = rest
fill at (suc n) rest = line at 2 (Lxi PairH (Num 0)) ∷ fill (at + 3) n rest

-- a jump to a target behind it, with 127 bytes between the end of its long form and the target, and with 128
ahead : Placed
ahead = line 0x100 2 (Jif Nz (ToInstr 0x182))

ahead_127 : (lean_style none_needed (program_of (ahead ∷ fill 0x103 42 (line 0x181 3 Nop ∷ (line 0x182 4 (Jmp ToBoot) ∷ []))) [] 0xF000)).shortens ahead ≡ true
unfolding ahead fill
ahead_127 = refl

further : Placed
further = line 0x100 2 (Jif Nz (ToInstr 0x183))

ahead_128 : (lean_style none_needed (program_of (further ∷ fill 0x103 42 (line 0x181 3 Nop ∷ (line 0x182 4 Nop ∷ (line 0x183 5 (Jmp ToBoot) ∷ [])))) [] 0xF000)).shortens further ≡ false
unfolding further fill
ahead_128 = refl

-- one back, with 126 bytes from the target up to its start, and with 127
back : Placed
back = line 0x17E 3 (Jif Nz (ToInstr 0x100))

back_126 : (lean_style none_needed (program_of (fill 0x100 42 (back ∷ (line 0x181 4 (Jmp ToBoot) ∷ []))) [] 0xF000)).shortens back ≡ true
unfolding back fill
back_126 = refl

further_back : Placed
further_back = line 0x17F 4 (Jif Nz (ToInstr 0x100))

back_127 : (lean_style none_needed (program_of (fill 0x100 42 (line 0x17E 3 Nop ∷ (further_back ∷ (line 0x182 5 (Jmp ToBoot) ∷ [])))) [] 0xF000)).shortens further_back ≡ false
unfolding further_back fill
back_127 = refl
