-- The start of a program over a fill of memory, and its run.
use Rattle.std.specs.Prelude.{ℕ, ◌-◌, ◌/◌, ◌%◌, ◌==◌, ◌&&◌, nat_lt, nat_le, if◌then◌else◌, List, Option, Some, None, slice_index}
use Rattle.cells.specs.declared.Place.{Place}
use Rattle.cells.specs.declared.Place.TheVariants.{At, Exit}
use Rattle.cells.specs.declared.Cell.{Cell}
use Rattle.cells.specs.declared.Cell.TheVariants.{Num, Lo, Hi, Psw, Junk}
use Rattle.dialogue.specs.declared.request.Reply.{Reply}
use Rattle.dialogue.specs.Run.{Run, turns, start_run}
use Rattle.asm80_types.specs.Program.{Program, cell_at}
use Rattle.cpu80.specs.State.{UntaggedState}
use Rattle.cpu80.specs.Flags.{chosen_flags}
use Rattle.cpu80.specs.Call.{Stop}
use Rattle.cpu80.specs.Step.{program_fetch, untagged_machine}

-- a place as a number: a code address is the 8080 address, EXIT is 0
abbrev pub address_of : Place → ℕ
address_of (At a) = a
address_of Exit = 0

-- the byte of a cell that holds something; data hold numbers and the halves of code addresses alone
abbrev pub byte_of_cell : Cell → ℕ → ℕ
byte_of_cell (Num n) other = n
byte_of_cell (Lo q) other = address_of q % 256
byte_of_cell (Hi q) other = address_of q / 256
byte_of_cell (Psw f) other = other
byte_of_cell Junk other = other

abbrev pub datum_or : Option Cell → ℕ → ℕ
datum_or None byte = byte
datum_or (Some v) byte = byte_of_cell v byte

-- what the system puts over memory at the start: the top of the area at 6, the page, and zeros at T-2 and T-1, which are the
-- return to the end
abbrev pub system_byte : ℕ → List ℕ → (ℕ → ℕ) → ℕ → ℕ
system_byte top page under a =
    if a == 6 then top % 256 else
    if a == 7 then top / 256 else
    if nat_le 0x5C a && nat_lt a 0x100 then slice_index page (a - 0x5C) else
    if a == top - 2 then 0 else
    if a == top - 1 then 0 else
    under a

-- a program's data over a fill
abbrev pub data_over : Program → List ℕ → ℕ → ℕ
data_over p fill a = datum_or (cell_at p a) (slice_index fill a)

-- the bytes at the start: the system's, the program's data; all others are the fill's
abbrev pub start_byte : Program → List ℕ → List ℕ → ℕ → ℕ
start_byte p page fill = system_byte p.top page (data_over p fill)

-- the start over a memory, in the area below a top: A B C D E H L are bytes 8 to 14 of the fill, and S Z AC P CY are bits 0 to
-- 4 of its byte 15
abbrev pub start_over : ℕ → List ℕ → (ℕ → ℕ) → UntaggedState
start_over top fill mem = record {
  regs = record {
    a = slice_index fill 8;
    b = slice_index fill 9;
    c = slice_index fill 10;
    d = slice_index fill 11;
    e = slice_index fill 12;
    h = slice_index fill 13;
    l = slice_index fill 14;
  };
  flags = chosen_flags (slice_index fill 15) 0;
  sp = top - 2;
  mem = mem;
  place = At 0x100;
  dma = 0x80;
}

abbrev pub start_untagged : Program → List ℕ → List ℕ → UntaggedState
start_untagged p page fill = start_over p.top fill (start_byte p page fill)

-- the run of a program after n turns, over a fill, with choices, a start page and replies
abbrev pub run_untagged : Program → List ℕ → List ℕ → List ℕ → List Reply → ℕ → Run UntaggedState Stop
run_untagged p page fill choices replies n =
    turns (untagged_machine (program_fetch p)) choices n (start_run (start_untagged p page fill) replies)
