-- The cells of a program as bytes: the encodings of its instructions, and its data.
use Rattle.std.specs.Prelude.{ℕ, ◌-◌, cond, List, [], ◌∷◌, filter_map, Option, Some, None, slice_index}
use Rattle.std.specs.List.{range_with_len}
use Rattle.cells.specs.declared.Cell.{Cell}
use Rattle.i80_bytes.specs.Enc80.{enc80}
use Rattle.asm80_types.specs.declared.program.Placed.{Placed}
use Rattle.asm80_types.specs.Program.{Program, covers, cell_at}
use Rattle.cpu80.specs.Start.{byte_of_cell}

-- the byte of an instruction's cell
abbrev pub code_byte : List Placed → ℕ → Option ℕ
code_byte [] a = None
code_byte (x ∷ xs) a = cond (covers x a) (Some (slice_index (enc80 x.instr) (a - x.at))) (code_byte xs a)

-- the byte of a data cell, which is a number or the half of an 8080 address
abbrev pub data_byte : Option Cell → Option ℕ
data_byte None = None
data_byte (Some v) = Some (byte_of_cell v 0)

abbrev pub or_else : Option ℕ → Option ℕ → Option ℕ
or_else (Some n) other = Some n
or_else None other = other

-- the byte of a program at an address; no cell is both of an instruction and of the data
abbrev pub program_byte : Program → ℕ → Option ℕ
program_byte p a = or_else (code_byte p.instrs a) (data_byte (cell_at p a))

abbrev pub with_address : ℕ → Option ℕ → Option (ℕ × ℕ)
with_address a None = None
with_address a (Some b) = Some (a, b)

-- the addresses below 65,536 at which a program has a byte, ascending, each with its byte
unfoldable pub program_cells : Program → List (ℕ × ℕ)
program_cells p = filter_map (λ a. with_address a (program_byte p a)) (range_with_len 0 0x10000)
