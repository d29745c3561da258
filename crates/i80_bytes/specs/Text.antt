-- What is found of a program's cells, address by address.
use Rattle.std.specs.Prelude.{◌≡◌, ℕ, ◌+◌, ◌<◌, Some}
use Rattle.i80.specs.Columns.{length80}
use Rattle.asm80_types.specs.declared.program.Placed.{Placed}
use Rattle.asm80_types.specs.Program.{Program, placed_in}

-- no instruction that starts so many cells before an address has it among its cells
abbrev pub NoneFrom : Program → ℕ → ℕ → Type 0
NoneFrom p at index =
    (start : ℕ) (x : Placed) → start + index ≡ at → placed_in p.instrs start ≡ Some x → index < length80 x.instr → ⊥
