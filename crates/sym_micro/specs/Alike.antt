-- What instructions of both processors do alike, each to a register of its own.
use Rattle.std.specs.Prelude.{ℕ}
use Rattle.cells.specs.declared.Part.TheVariants.{Cy as PartCy}
use Rattle.i80.specs.declared.Op.{Op}
use Rattle.i80.specs.declared.Op.TheVariants.{Xra}
use Rattle.i86.specs.declared.Rotate.{Rotate}
use Rattle.sym_terms.specs.Term.{Term, Num, Loaded8, Loaded16}
use Rattle.sym_terms.specs.Making.{alu, flag, sum16, turn, carry_of}
use Rattle.sym_block_def.specs.Outcome.{Load8, Load16, Store16, with_count_flags_of}
use Rattle.sym_block_def.specs.Block80.{operation, carry_in}
use Rattle.sym_block_def.specs.Symbolic86.{turn_kind, turn_carry}
use Rattle.sym_micro.specs.declared.micro.ByteSlot.{ByteSlot}
use Rattle.sym_micro.specs.declared.micro.FlagSlot.TheVariants.{Cy}
use Rattle.sym_micro.specs.declared.micro.Wide.{Wide}
use Rattle.sym_micro.specs.Machine.{Machine, byte_in, with_byte, wide_in, with_wide, with_flag, loads_at, stores_at}

-- INR and DCR, INC and DEC: 1 is added or subtracted, and the carry stays
abbrev pub counted : Machine → Op → ByteSlot → Machine
counted m op on =
    let sum = alu (operation op) (byte_in m on) (Num 1) (carry_in op m.held.cy) in
    let n = with_byte m on sum in
    record n { held = with_count_flags_of sum n.held }

-- a byte rotated by 1
abbrev pub rotated : Machine → Rotate → ByteSlot → Machine
rotated m kind on =
    let t = turn (turn_kind kind) (byte_in m on) (turn_carry kind m.held.cy) in
    with_flag (with_byte m on t) Cy (flag PartCy t)

-- CMA and NOT
abbrev pub complemented : Machine → ByteSlot → Machine
complemented m on = with_byte m on (alu Xra (byte_in m on) (Num 0xFF) (Num 0))

-- DAD, and ADD of words: the sum, and its carry
abbrev pub word_added : Machine → Wide → Wide → Machine
word_added m to from = with_flag (with_wide m to (sum16 (wide_in m to) (wide_in m from))) Cy (carry_of (wide_in m to) (wide_in m from))

-- INX and DCX, INC and DEC of a word: the sum
abbrev pub number_added : Machine → Wide → ℕ → Machine
number_added m to n = with_wide m to (sum16 (wide_in m to) (Num n))

-- PUSH: SP falls by 2, and the word is stored there
abbrev pub word_pushed : Machine → Wide → Machine
word_pushed m from =
    let sp = sum16 m.sp (Num 0xFFFE) in
    record (stores_at m (Store16 sp (wide_in m from))) { sp = sp }

-- loads from an address
abbrev pub byte_loaded : Machine → ByteSlot → Term → Machine
byte_loaded m to address = with_byte (loads_at m (Load8 address)) to (Loaded8 m.trace.loads)

abbrev pub word_loaded : Machine → Wide → Term → Machine
word_loaded m to address = with_wide (loads_at m (Load16 address)) to (Loaded16 m.trace.loads)
