-- Outcomes of blocks that can be read: the first block of a file copier beside the machine that runs it, and instructions whose
-- templates are not their own, from states in which no flag is known.
use Rattle.std.proofs.Common.{◌≡◌, ℕ, false, [], ◌∷◌, Some, None, refl}
use Rattle.cells.specs.declared.Place.TheVariants.{At}
use Rattle.cells.specs.declared.Cell.TheVariants.{Num as NumCell, Psw as PswCell, Junk}
use Rattle.cells.specs.declared.Cond.TheVariants.{Nz}
use Rattle.cells.specs.Conditions.{unknown_flags}
use Rattle.cells.specs.Parts.{everything}
use Rattle.i80.specs.declared.Reg.TheVariants.{B as RegB}
use Rattle.i80.specs.declared.Src.TheVariants.{Reg as InReg}
use Rattle.i80.specs.declared.Pair.TheVariants.{B as PairB, D as PairD, H as PairH}
use Rattle.i80.specs.declared.StackPair.TheVariants.{Psw}
use Rattle.i80.specs.declared.Word.TheVariants.{Num as Number}
use Rattle.i80.specs.declared.Goal.TheVariants.{At as ToInstr, Boot as ToBoot, Bdos as ToBdos}
use Rattle.i80.specs.declared.Instr80.TheVariants.{Mov, Mvi, Lxi, Stax, Dad, Push, Pop, Jmp, Cif}
use Rattle.i80.specs.declared.Src.TheVariants.{Mem}
use Rattle.i80.specs.declared.Reg.TheVariants.{A as RegA}
use Rattle.asm80_types.specs.Program.{Program, program_of}
use Rattle.cpu80_tagged.specs.State.{State80, junk_regs}
use Rattle.cpu80_tagged.specs.Step.{machine80}
use Rattle.templates.specs.Plain.{plain_statements}
use Rattle.sym_terms.specs.Term.{Num, StartSp}
use Rattle.sym_block_def.specs.Outcome.{Goto, One, held_at_start}
use Rattle.sym_block_def.specs.Block80.{block80}
use Rattle.sym_block_def.specs.BlockMatch.{Keeps, block_reason}
use Rattle.simulation_def.specs.Steps.{RunsOn}

-- LXI H,6CH / LXI D,1ABH / MVI B,12 / MOVE: MOV A,M / STAX D / JMP MOVE, the copier's first lines
copier : Program
copier = program_of (record { at = 0x100; line = 5; instr = Lxi PairH (Number 0x6C) } ∷ record { at = 0x103; line = 6; instr = Lxi PairD (Number 0x1AB) } ∷ record { at = 0x106; line = 7; instr = Mvi (InReg RegB) 12 } ∷ record { at = 0x108; line = 8; instr = Mov (InReg RegA) Mem } ∷ record { at = 0x109; line = 9; instr = Stax PairD } ∷ record { at = 0x10A; line = 10; instr = Jmp (ToInstr 0x108) } ∷ []) [] 0xF000

-- its first block: three numbers into registers, and on to the loop
copier_block : block80 copier 0x100 3 ≡ record { actions = []; held = record held_at_start { b = Num 12; d = Num 1; e = Num 0xAB; h = Num 0; l = Num 0x6C }; sp = StartSp; exit = One (Goto (At 0x108)); direct = false }
unfolding copier
copier_block = refl

-- the machine that runs it from a state in which nothing is known: the same numbers, and the same place
abbrev unknown_state : (ℕ → Rattle.cells.specs.declared.Cell.Cell) → ℕ → State80
unknown_state mem at = record { regs = junk_regs; flags = unknown_flags; sp = 0xEFFE; mem = mem; place = At at; dma = 0x80 }

copier_runs : (mem : ℕ → Rattle.cells.specs.declared.Cell.Cell) → RunsOn (machine80 copier) [] 3 0 (unknown_state mem 0x100) (record (unknown_state mem 0x108) { regs = record junk_regs { b = NumCell 12; d = NumCell 1; e = NumCell 0xAB; h = NumCell 0; l = NumCell 0x6C } })
unfolding copier
copier_runs mem = (record (unknown_state mem 0x103) { regs = record junk_regs { h = NumCell 0; l = NumCell 0x6C } }, refl, (record (unknown_state mem 0x106) { regs = record junk_regs { d = NumCell 1; e = NumCell 0xAB; h = NumCell 0; l = NumCell 0x6C } }, refl, (record (unknown_state mem 0x108) { regs = record junk_regs { b = NumCell 12; d = NumCell 1; e = NumCell 0xAB; h = NumCell 0; l = NumCell 0x6C } }, refl, refl)))

-- DAD B / PUSH PSW / POP PSW / CNZ 5 / JMP 0
stacked : Program
stacked = program_of (record { at = 0x100; line = 2; instr = Dad PairB } ∷ record { at = 0x101; line = 3; instr = Push Psw } ∷ record { at = 0x102; line = 4; instr = Pop Psw } ∷ record { at = 0x103; line = 5; instr = Cif Nz ToBdos } ∷ record { at = 0x106; line = 6; instr = Jmp ToBoot } ∷ []) [] 0xF000

-- each of them matches its template, every part kept
abbrev all_kept : Keeps
all_kept = record { at = λ a. everything; returned = everything }

dad_matches : block_reason stacked (plain_statements stacked) all_kept 0x100 1 ≡ None
unfolding stacked
dad_matches = refl

push_matches : block_reason stacked (plain_statements stacked) all_kept 0x101 1 ≡ None
unfolding stacked
push_matches = refl

pop_matches : block_reason stacked (plain_statements stacked) all_kept 0x102 1 ≡ None
unfolding stacked
pop_matches = refl

call_matches : block_reason stacked (plain_statements stacked) all_kept 0x103 1 ≡ None
unfolding stacked
call_matches = refl

-- a template matches no other instruction
other_does_not : block_reason stacked (plain_statements copier) all_kept 0x103 1 ≡ Some Rattle.sym_block_def.specs.declared.reason.Reason.TheVariants.Exits
unfolding stacked copier
other_does_not = refl

-- PUSH PSW where no flag is known stores a byte of unknown flags under A
push_stores : (mem : ℕ → Rattle.cells.specs.declared.Cell.Cell) → RunsOn (machine80 stacked) [] 1 0 (unknown_state mem 0x101) (record (unknown_state mem 0x102) { sp = 0xEFFC; mem = Rattle.cpu80_tagged.specs.Memory.put (Rattle.cpu80_tagged.specs.Memory.put mem 0xEFFC (PswCell unknown_flags)) 0xEFFD Junk })
unfolding stacked
push_stores mem = (record (unknown_state mem 0x102) { sp = 0xEFFC; mem = Rattle.cpu80_tagged.specs.Memory.put (Rattle.cpu80_tagged.specs.Memory.put mem 0xEFFC (PswCell unknown_flags)) 0xEFFD Junk }, refl, refl)
