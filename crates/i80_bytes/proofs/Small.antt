-- What a program has at its addresses are bytes.
use Rattle.std.proofs.Common.{◌≡◌, ℕ, ◌-◌, ◌<◌, Option, Some, None, refl, ap, subst}
use Rattle.cells.specs.declared.Cell.{Cell}
use Rattle.asm80_types.specs.Program.{Program, IsProgram, instr_of_placed, cell_at}
use Rattle.asm80_types.proofs.Standing.{is_placed}
use Rattle.cpu80.specs.Start.{byte_of_cell}
use Rattle.cpu80.proofs.Starting.{datum_small}
use Rattle.i80_bytes.specs.Cells.{code_byte, data_byte, or_else, program_byte}
use Rattle.i80_bytes.proofs.Encodings.{encoding_small}
use Rattle.i80_bytes.proofs.CellBytes.{code_byte_is}

module _ (p : Program) (g : IsProgram p) where
  pub code_small : (a b : ℕ) → code_byte p.instrs a ≡ Some b → b < 256
  code_small a b e =
      let r = code_byte_is p.instrs 0x100 (p.top - 2) a b g.instrs e in
      let placed = is_placed p r.at r.placed.instr g (ap instr_of_placed r.found) in
      subst (λ n. n < 256) r.is (encoding_small p g r.at r.placed.instr placed r.index)

  pub byte_small : (a b : ℕ) → program_byte p a ≡ Some b → b < 256
  byte_small a b e = by_parts (code_byte p.instrs a) (cell_at p a) refl refl e
    where
      number_same : (m n : ℕ) → Some m ≡ Some n → m ≡ n
      number_same m n e = cc

      by_parts : (o : Option ℕ) (c : Option Cell) → code_byte p.instrs a ≡ o → cell_at p a ≡ c → or_else o (data_byte c) ≡ Some b → b < 256
      by_parts (Some n) c e h is = subst (λ k. k < 256) (number_same n b is) (code_small a n e)
      by_parts None None e h is = absurd (cc)
      by_parts None (Some v) e h is = subst (λ k. k < 256) (number_same (byte_of_cell v 0) b is) (datum_small p g a v h)
