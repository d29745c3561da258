-- The example of one letter, computed: what its text assembles to, and its run.
use Rattle.std.proofs.Common.{◌≡◌, ℕ, List, [], ◌∷◌, None, refl}
use Rattle.i80.specs.declared.Reg.TheVariants.{C, E}
use Rattle.i80.specs.declared.Src.TheVariants.{Reg}
use Rattle.i80.specs.declared.Goal.TheVariants.{Boot, Bdos}
use Rattle.i80.specs.declared.Instr80.{Instr80}
use Rattle.i80.specs.declared.Instr80.TheVariants.{Mvi, Jmp, Call}
use Rattle.dialogue.specs.declared.request.Reply.{Reply}
use Rattle.dialogue.specs.declared.request.Event.TheVariants.{Call as Calls, End}
use Rattle.dialogue.specs.Table.{row_of}
use Rattle.dialogue.specs.Run.{Going, Over}
use Rattle.asm80_types.specs.declared.program.Placed.{Placed}
use Rattle.asm80_types.specs.Program.{Program, program_of}
use Rattle.cpu80_tagged.specs.Start.{run80}
use Rattle.dialogue.specs.declared.request.ArgWord.TheVariants.{Byte}
use Rattle.dialogue.specs.declared.request.Request.{Request}
use Rattle.asm86_line_types.specs.Layout.{code_of}
use Rattle.templates.specs.Plain.{plain_statements}

-- the request that writes a byte to the console
abbrev letter : ℕ → Request
letter n = record { shape = record { function = 2; arg = Byte n; reads = None ∷ (None ∷ (None ∷ [])); writes = None ∷ (None ∷ []) }; blocks = [] }

abbrev line : ℕ → ℕ → Instr80 → Placed
line at n i = record { at = at; line = n; instr = i }

abbrev pub one_letter : Program
one_letter = program_of (line 0x100 2 (Mvi (Reg C) 2) ∷ (line 0x102 3 (Mvi (Reg E) 0x41) ∷ (line 0x104 4 (Call Bdos) ∷ (line 0x107 5 (Jmp Boot) ∷ [])))) [] 0xF000

-- the 44 bytes of its code, by the manual's tables of encodings
pub letter_code : code_of (plain_statements one_letter) ≡
    (0xBE ∷ (0x00 ∷ (0xF0 ∷ (0x89 ∷ (0x36 ∷ (0x06 ∷ (0x00 ∷ (0x8C ∷ (0xD8 ∷ (0x8E ∷ (0xD0 ∷ (0x8B ∷ (0xE6 ∷ (0xBE ∷ (0x26 ∷ (0x00 ∷
    (0x56 ∷ (0xB1 ∷ (0x02 ∷ (0xB2 ∷ (0x41 ∷ (0xE8 ∷ (0x03 ∷ (0x00 ∷ (0xE9 ∷ (0x0B ∷ (0x00 ∷ (0x0A ∷ (0xC9 ∷ (0x74 ∷ (0x07 ∷ (0xCD ∷
    (0xE0 ∷ (0x8A ∷ (0xD8 ∷ (0x8A ∷ (0xEF ∷ (0xC3 ∷ (0xB1 ∷ (0x00 ∷ (0xB2 ∷ (0x00 ∷ (0xCD ∷ (0xE0 ∷ []))))))))))))))))))))))))))))))))))))))))))))
letter_code = refl

abbrev pub done : Reply
done = record { answer = 0; writes = [] }

-- its run on the tagged 8080: after four turns, and not before, it has written the letter and is over
pub letter_said : (page : List ℕ) → (run80 one_letter page (done ∷ []) 4).dialogue ≡ Calls (letter 0x41) ∷ (End ∷ [])
unfolding row_of
letter_said page = refl

pub letter_over : (page : List ℕ) → (run80 one_letter page (done ∷ []) 4).status ≡ Over
unfolding row_of
letter_over page = refl

pub letter_going : (page : List ℕ) → (run80 one_letter page (done ∷ []) 3).status ≡ Going
unfolding row_of
letter_going page = refl
