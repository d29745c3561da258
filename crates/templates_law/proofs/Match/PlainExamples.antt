-- Small programs, computed: their plain texts match each instruction alone, and a block of several.
use Rattle.std.proofs.Common.{◌≡◌, ℕ, [], ◌∷◌, None, refl}
use Rattle.cells.specs.declared.Cond.TheVariants.{Nz, Pe}
use Rattle.cells.specs.Parts.{everything}
use Rattle.i80.specs.declared.Reg.TheVariants.{A as RegA, B as RegB, H as RegH}
use Rattle.i80.specs.declared.Src.TheVariants.{Reg as InReg}
use Rattle.i80.specs.declared.Op.TheVariants.{Ora}
use Rattle.i80.specs.declared.Goal.TheVariants.{At as ToInstr, Boot as ToBoot}
use Rattle.i80.specs.declared.Instr80.{Instr80}
use Rattle.i80.specs.declared.Instr80.TheVariants.{Mov, Xthl, Sphl, Alu, Daa, Jmp, Call, Jif, Rif, In, Out}
use Rattle.asm80_types.specs.declared.program.Placed.{Placed}
use Rattle.asm80_types.specs.Program.{Program, program_of}
use Rattle.templates.specs.Plain.{plain_statements}
use Rattle.sym_block_def.specs.BlockMatch.{Keeps, block_reason}

abbrev line : ℕ → ℕ → Instr80 → Placed
line at n i = record { at = at; line = n; instr = i }

abbrev all_kept : Keeps
all_kept = record { at = λ a. everything; returned = everything }

-- IN 7 / OUT 7 / XTHL / CALL 100H / CALL 5 / RNZ, which the last of the program's places follows
ends : Program
ends = program_of (line 0x100 2 (In 7) ∷ (line 0x102 3 (Out 7) ∷ (line 0x104 4 Xthl ∷ (line 0x105 5 (Call (ToInstr 0x100)) ∷ (line 0x108 6 (Jif Pe (ToInstr 0x104)) ∷ (line 0x10B 7 (Rif Nz) ∷ [])))))) [] 0xF000

in_matches : block_reason ends (plain_statements ends) all_kept 0x100 1 ≡ None
unfolding ends
in_matches = refl

xthl_matches : block_reason ends (plain_statements ends) all_kept 0x104 1 ≡ None
unfolding ends
xthl_matches = refl

call_matches : block_reason ends (plain_statements ends) all_kept 0x105 1 ≡ None
unfolding ends
call_matches = refl

jump_matches : block_reason ends (plain_statements ends) all_kept 0x108 1 ≡ None
unfolding ends
jump_matches = refl

-- behind RNZ no instruction starts, and X_SYS stands
last_matches : block_reason ends (plain_statements ends) all_kept 0x10B 1 ≡ None
unfolding ends
last_matches = refl

-- ORA B / DAA / MOV H,A / SPHL / XTHL: AC is unknown behind ORA, so A behind DAA and the high half of SP behind SPHL. The sums of that
-- SP are unknown words on both sides: XTHL of the 8080 sums it too, as a POP and a PUSH do.
half_known : Program
half_known = program_of (line 0x100 2 (Alu Ora (InReg RegB)) ∷ (line 0x101 3 Daa ∷ (line 0x102 4 (Mov (InReg RegH) (InReg RegA)) ∷ (line 0x103 5 Sphl ∷ (line 0x104 6 Xthl ∷ (line 0x105 7 (Jmp ToBoot) ∷ [])))))) [] 0xF000

xthl_alone_matches : block_reason half_known (plain_statements half_known) all_kept 0x104 1 ≡ None
unfolding half_known
xthl_alone_matches = refl

xthl_in_a_block_matches : block_reason half_known (plain_statements half_known) all_kept 0x100 5 ≡ None
unfolding half_known
xthl_in_a_block_matches = refl
