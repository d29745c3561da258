-- System calls of the tagged 8080: when one asks, what it sees, and what it leaves (CP/M 2.2 Operating System Manual, "BDOS
-- functions"; the ranges and the order of the rules are this project's profile).
use Rattle.std.specs.Prelude.{ℕ, ◌+◌, ◌-◌, ◌/◌, ◌%◌, ◌==◌, ◌&&◌, ◌||◌, nat_lt, not, Bool, true, false, cond, List, [], ◌∷◌, Option, Some, None, Result, Ok, Err, is_some}
use Rattle.cells.specs.declared.Place.{Place}
use Rattle.cells.specs.declared.Place.TheVariants.{At, Exit}
use Rattle.cells.specs.declared.Cell.{Cell}
use Rattle.cells.specs.declared.Cell.TheVariants.{Num, Lo, Hi, Psw, Junk}
use Rattle.cells.specs.declared.Rule.{Rule}
use Rattle.cells.specs.declared.Rule.TheVariants.{P1, P9, P12}
use Rattle.cells.specs.Conditions.{unknown_flags}
use Rattle.cells.specs.Places.{same_place}
use Rattle.dialogue.specs.declared.blocks.Block.{Block}
use Rattle.dialogue.specs.declared.request.Shape.{Shape}
use Rattle.dialogue.specs.declared.request.Request.{Request}
use Rattle.dialogue.specs.declared.request.Reply.{Reply}
use Rattle.dialogue.specs.declared.request.Event.TheVariants.{Call}
use Rattle.dialogue.specs.Tried.{try_then}
use Rattle.dialogue.specs.declared.table.AnswerKind.{AnswerKind}
use Rattle.dialogue.specs.declared.table.AnswerKind.TheVariants.{NoAnswer, ByteAnswer, WordAnswer}
use Rattle.dialogue.specs.Table.{row_of}
use Rattle.dialogue.specs.Shape.{Seen, shape_of, request_of}
use Rattle.dialogue.specs.Fits.{answer_kind_of, dma_after}
use Rattle.dialogue.specs.Run.{Answer, Asks, Ends, Stops}
use Rattle.dialogue.specs.Words.{wrap}
use Rattle.asm80_types.specs.Program.{Program, is_start}
use Rattle.cpu80_tagged.specs.State.{Regs80, State80, num_of, junk_regs}
use Rattle.cpu80_tagged.specs.Memory.{is_closed, is_write_protected, put, read_word}

-- one of the eight cells below SP
abbrev pub is_just_below : ℕ → ℕ → Bool
is_just_below sp a = nat_lt (wrap (sp + (0xFFFF - a))) 8

-- where a call goes on after its reply: the place and SP; a jump to 5 pops its return, and may not have it overwritten
pub record Return : Type 0 where
  pub place : Place
  pub sp : ℕ
  pub is_popped : Bool

-- a cell that the call may read holds a number and is neither closed nor just below SP
abbrev pub byte_seen : Program → State80 → ℕ → Option ℕ
byte_seen p s a = cond (is_just_below s.sp a || is_closed p a) None (num_of (s.mem a))

-- one that it may write is neither closed, nor just below SP, nor of the word at 6, nor of the return that a jump to 5 pops
abbrev pub may_be_written : Program → State80 → Bool → ℕ → Bool
may_be_written p s is_popped a =
    not (is_just_below s.sp a || (is_write_protected p a || (is_popped && (a == s.sp || a == wrap (s.sp + 1)))))

abbrev pub seen_by_tagged : Program → State80 → Bool → Seen
seen_by_tagged p s is_popped = record { byte = byte_seen p s; writable = may_be_written p s is_popped }

-- asks by a shape
abbrev pub ask : Program → State80 → Bool → Result Shape Rule → Answer State80 Rule
ask p s is_popped (Err r) = Stops r
ask p s is_popped (Ok shape) = Asks (Call (request_of shape (seen_by_tagged p s is_popped))) s

-- a call whose function is in the table and not 0, and whose return is known: P12, then P10 and P11
abbrev pub ask_after : Program → State80 → ℕ → Result Return Rule → Answer State80 Rule
ask_after p s function (Err r) = Stops r
ask_after p s function (Ok back) =
    cond (is_just_below s.sp 6 || is_just_below s.sp 7) (Stops P12)
    (ask p s back.is_popped (shape_of (Some function) (num_of s.regs.d) (num_of s.regs.e) s.dma (seen_by_tagged p s back.is_popped)))

-- function 0 ends the program; P9 is looked at first
abbrev pub call_by : Program → State80 → Result Return Rule → Option ℕ → Answer State80 Rule
call_by p s back None = Stops P9
call_by p s back (Some function) =
    cond (is_some (row_of function)) (cond (function == 0) Ends (ask_after p s function back)) (Stops P9)

abbrev pub call_system : Program → State80 → Result Return Rule → Answer State80 Rule
call_system p s back = call_by p s back (num_of s.regs.c)

-- the place that two cells name: the high and the low half of one code address, of an instruction or of the end (P1)
abbrev pub place_if : Bool → Place → Result Place Rule
place_if true q = Ok q
place_if false q = Err P1

abbrev pub is_place : Program → Place → Bool
is_place p (At a) = is_start p a
is_place p Exit = true

abbrev pub place_in : Program → Cell → Cell → Result Place Rule
place_in p (Hi q) (Lo r) = place_if (same_place q r && is_place p q) q
place_in p (Hi q) (Num n) = Err P1
place_in p (Hi q) (Hi r) = Err P1
place_in p (Hi q) (Psw f) = Err P1
place_in p (Hi q) Junk = Err P1
place_in p (Num n) low = Err P1
place_in p (Lo q) low = Err P1
place_in p (Psw f) low = Err P1
place_in p Junk low = Err P1

-- the return that a jump to 5, or RET, pops: P4, P2, P1
abbrev pub popped_return : Program → State80 → Result Return Rule
popped_return p s =
    try_then (read_word p s s.sp) (λ w. try_then (place_in p w.high w.low) (λ q.
    Ok (record { place = q; sp = wrap (s.sp + 2); is_popped = true })))

-- the place after a call (P1)
abbrev pub return_after : Program → State80 → ℕ → Result Return Rule
return_after p s a =
    try_then (place_if (is_start p a) (At a)) (λ q. Ok (record { place = q; sp = s.sp; is_popped = false }))

-- after the reply

-- a reply's bytes as numbers, from an address up
abbrev pub put_bytes : (ℕ → Cell) → ℕ → List ℕ → ℕ → Cell
put_bytes m a [] = m
put_bytes m a (b ∷ bs) = put_bytes (put m a (Num b)) (a + 1) bs

abbrev pub put_blocks : (ℕ → Cell) → List Block → ℕ → Cell
put_blocks m [] = m
put_blocks m (b ∷ bs) = put_blocks (put_bytes m b.at b.bytes) bs

-- the registers: a byte answer is in A and L; a word answer in HL, with A equal to L and B to H; all others are lost
abbrev pub answered : AnswerKind → ℕ → Regs80
answered NoAnswer n = junk_regs
answered ByteAnswer n = record junk_regs { a = Num n; l = Num n }
answered WordAnswer n = record junk_regs { a = Num (n % 256); l = Num (n % 256); b = Num (n / 256); h = Num (n / 256) }

-- the cells: what the reply writes, and nothing known of the eight cells below SP that are not closed
abbrev pub cells_after : Program → State80 → Reply → ℕ → Cell
cells_after p s y a = cond (is_just_below s.sp a && not (is_closed p a)) Junk (put_blocks s.mem y.writes a)

abbrev pub after_reply : Program → State80 → Place → ℕ → Request → Reply → State80
after_reply p s place sp q y = record {
  regs = answered (answer_kind_of q) y.answer;
  flags = unknown_flags;
  sp = sp;
  mem = cells_after p s y;
  place = place;
  dma = dma_after q s.dma;
}
