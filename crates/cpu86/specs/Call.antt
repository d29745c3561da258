-- INT 224, the call of the system: what it spoils and asks, and what a reply leaves (CP/M-86 System Guide, "BDOS calls").
use Rattle.std.specs.Prelude.{ℕ, ◌/◌, ◌%◌, ◌==◌, cond, List, [], ◌∷◌, Some, Result, Ok, Err}
use Rattle.cells.specs.declared.Rule.{Rule}
use Rattle.dialogue.specs.declared.request.Shape.{Shape}
use Rattle.dialogue.specs.declared.request.Request.{Request}
use Rattle.dialogue.specs.declared.request.Reply.{Reply}
use Rattle.dialogue.specs.declared.request.Event.{Event}
use Rattle.dialogue.specs.declared.request.Event.TheVariants.{Call, In, Out, End}
use Rattle.dialogue.specs.declared.table.AnswerKind.{AnswerKind}
use Rattle.dialogue.specs.declared.table.AnswerKind.TheVariants.{NoAnswer, ByteAnswer, WordAnswer}
use Rattle.dialogue.specs.Shape.{shape_of, request_of}
use Rattle.dialogue.specs.Fits.{answer_kind_of, dma_after}
use Rattle.dialogue.specs.ByteMemory.{put_bytes, put_blocks, seen_by}
use Rattle.dialogue.specs.Run.{Answer, Asks, Ends, Stops}
use Rattle.dialogue.specs.Words.{word}
use Rattle.dialogue.specs.Choice.{byte_of}
use Rattle.cpu86.specs.State.{Regs86, State86, back}
use Rattle.cpu86.specs.Flags.{chosen_flags}

-- why the machine stops: no instruction stands at ip, the stack is not in the data segment, or a call that the profile lacks
pub data Stop : Type 0 where
  NoInstruction : (ip : ℕ) → Stop
  StackSegment : (ip : ℕ) → Stop
  OddCall : (function : ℕ) → Stop

-- the six bytes below SP are bits 0 to 47 of the choice, the lowest first
abbrev pub chosen_six : ℕ → List ℕ
chosen_six c = byte_of c 0 ∷ (byte_of c 8 ∷ (byte_of c 16 ∷ (byte_of c 24 ∷ (byte_of c 32 ∷ (byte_of c 40 ∷ [])))))

unfoldable pub spoiled : (ℕ → ℕ) → ℕ → ℕ → ℕ → ℕ
spoiled mem sp c = put_bytes mem (back sp 6) (chosen_six c)

abbrev pub ask : State86 → Result Shape Rule → Answer State86 Stop
ask s (Err r) = Stops (OddCall s.regs.cl)
ask s (Ok shape) = Asks (Call (request_of shape (seen_by s.mem))) s

-- the function in CL and the argument in DX, over memory after the spoiling
abbrev pub ask_system : State86 → Answer State86 Stop
ask_system s = ask s (shape_of (Some s.regs.cl) (Some s.regs.dh) (Some s.regs.dl) s.dma (seen_by s.mem))

-- CL 0 with DL 0 ends the program; CL 0 with another DL is no call of the profile
abbrev pub call_system : State86 → ℕ → Answer State86 Stop
call_system s choice =
    cond (s.regs.cl == 0)
    (cond (s.regs.dl == 0) Ends (Stops (OddCall 0)))
    (ask_system (record s { mem = spoiled s.mem s.sp choice }))

-- AX, CX, DX and BX are bits 0 to 63 of the choice
abbrev pub chosen_regs : ℕ → Regs86
chosen_regs c = record {
  al = byte_of c 0;
  ah = byte_of c 8;
  cl = byte_of c 16;
  ch = byte_of c 24;
  dl = byte_of c 32;
  dh = byte_of c 40;
  bl = byte_of c 48;
  bh = byte_of c 56;
}

-- a byte answer is in AL, a word answer in AX and BX
abbrev pub answered : AnswerKind → ℕ → Regs86 → Regs86
answered NoAnswer n r = r
answered ByteAnswer n r = record r { al = n }
answered WordAnswer n r = record r { al = n % 256; ah = n / 256; bl = n % 256; bh = n / 256 }

-- SI is bits 64 to 79, and SF ZF AF PF CF are bits 80 to 84
abbrev pub after_reply : State86 → Request → Reply → ℕ → State86
after_reply s q y c = record s {
  regs = answered (answer_kind_of q) y.answer (chosen_regs c);
  si = word (byte_of c 72) (byte_of c 64);
  flags = chosen_flags c 80;
  mem = put_blocks s.mem y.writes;
  dma = dma_after q s.dma;
}

-- the reply to an IN is in AL, and that to an OUT changes nothing
abbrev pub replied86 : State86 → Event → Reply → ℕ → State86
replied86 s (Call q) y c = after_reply s q y c
replied86 s (In port) y c = record s { regs = record (s.regs) { al = y.answer } }
replied86 s (Out port byte) y c = s
replied86 s End y c = s
