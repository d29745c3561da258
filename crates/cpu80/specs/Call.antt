-- System calls of the untagged 8080: what one asks, and what its reply leaves (CP/M 2.2 Operating System Manual, "BDOS
-- functions"; the ranges are this project's profile). A call changes no cell but those that its reply writes.
use Rattle.std.specs.Prelude.{ℕ, ◌+◌, ◌/◌, ◌%◌, ◌==◌, cond, Some, Result, Ok, Err}
use Rattle.cells.specs.declared.Place.{Place}
use Rattle.cells.specs.declared.Place.TheVariants.{At, Exit}
use Rattle.cells.specs.declared.Rule.{Rule}
use Rattle.dialogue.specs.declared.request.Shape.{Shape}
use Rattle.dialogue.specs.declared.request.Request.{Request}
use Rattle.dialogue.specs.declared.request.Reply.{Reply}
use Rattle.dialogue.specs.declared.request.Event.TheVariants.{Call}
use Rattle.dialogue.specs.declared.table.AnswerKind.{AnswerKind}
use Rattle.dialogue.specs.declared.table.AnswerKind.TheVariants.{NoAnswer, ByteAnswer, WordAnswer}
use Rattle.dialogue.specs.Shape.{shape_of, request_of}
use Rattle.dialogue.specs.Fits.{answer_kind_of, dma_after}
use Rattle.dialogue.specs.ByteMemory.{put_blocks, seen_by, word_at}
use Rattle.dialogue.specs.Run.{Answer, Asks, Ends, Stops}
use Rattle.dialogue.specs.Words.{wrap}
use Rattle.dialogue.specs.Choice.{byte_of}
use Rattle.cpu80.specs.State.{UntaggedRegs, UntaggedState}
use Rattle.cpu80.specs.Flags.{chosen_flags}

-- why the machine stops: no instruction stands at the address that comes next; or a call of this function has no shape, that
-- is, the function is not in the call table, or its argument or ranges are none of the table's
pub data Stop : Type 0 where
  NoInstruction : (address : ℕ) → Stop
  OddCall : (function : ℕ) → Stop

abbrev pub ask : UntaggedState → Result Shape Rule → Answer UntaggedState Stop
ask u (Err r) = Stops (OddCall u.regs.c)
ask u (Ok shape) = Asks (Call (request_of shape (seen_by u.mem))) u

-- the shape of the call in the registers: the function in C, the argument in DE or E
abbrev pub shape_in : UntaggedState → Result Shape Rule
shape_in u = shape_of (Some u.regs.c) (Some u.regs.d) (Some u.regs.e) u.dma (seen_by u.mem)

-- function 0 ends the program
abbrev pub call_system : UntaggedState → Answer UntaggedState Stop
call_system u = cond (u.regs.c == 0) Ends (ask u (shape_in u))

-- where a call goes on after its reply: the place and SP
pub record Return : Type 0 where
  pub place : Place
  pub sp : ℕ

-- a return to address 0 ends the program
abbrev pub place_of_return : ℕ → Place
place_of_return w = cond (w == 0) Exit (At w)

-- a jump to 5 returns as RET does
abbrev pub popped_return : UntaggedState → Return
popped_return u = record { place = place_of_return (word_at u.mem u.sp); sp = wrap (u.sp + 2) }

-- after the reply

-- A is bits 0 to 7 of the choice; BC, DE and HL are the words from bits 16, 32 and 48 up
abbrev pub chosen_regs : ℕ → UntaggedRegs
chosen_regs c = record {
  a = byte_of c 0;
  c = byte_of c 16;
  b = byte_of c 24;
  e = byte_of c 32;
  d = byte_of c 40;
  l = byte_of c 48;
  h = byte_of c 56;
}

-- a byte answer is in A and L; a word answer in HL, with A equal to L and B to H
abbrev pub answered : AnswerKind → ℕ → UntaggedRegs → UntaggedRegs
answered NoAnswer n r = r
answered ByteAnswer n r = record r { a = n; l = n }
answered WordAnswer n r = record r { a = n % 256; l = n % 256; b = n / 256; h = n / 256 }

-- S Z AC P CY are bits 80 to 84 of the choice
abbrev pub after_reply : UntaggedState → Return → Request → Reply → ℕ → UntaggedState
after_reply u back q y c = record {
  regs = answered (answer_kind_of q) y.answer (chosen_regs c);
  flags = chosen_flags c 80;
  sp = back.sp;
  mem = put_blocks u.mem y.writes;
  place = back.place;
  dma = dma_after q u.dma;
}
