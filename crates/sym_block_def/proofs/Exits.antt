-- The exit of a block whose last instruction does not end it.
use Rattle.std.proofs.Common.{◌≡◌, ℕ, false, refl}
use Rattle.i80.specs.declared.Instr80.{Instr80}
use Rattle.i80.specs.declared.Instr80.TheVariants.{Pchl, Jmp, Jif, Call, Cif, Ret, Rif, Rst0, In, Out}
use Rattle.i80.specs.Columns.{ends80}
use Rattle.asm80_types.specs.Program.{Program}
use Rattle.sym_block_def.specs.Outcome.{One}
use Rattle.sym_block_def.specs.Block80.{Symbolic80, goto, exit80}

-- what goes on falls to the address after the block
pub exit_falls : (p : Program) (a : ℕ) (s : Symbolic80) (i : Instr80) → ends80 i ≡ false → exit80 p a s i ≡ One (goto p a)
exit_falls p a s Pchl e = absurd (cc)
exit_falls p a s (Jmp goal) e = absurd (cc)
exit_falls p a s (Jif c goal) e = absurd (cc)
exit_falls p a s (Call goal) e = absurd (cc)
exit_falls p a s (Cif c goal) e = absurd (cc)
exit_falls p a s Ret e = absurd (cc)
exit_falls p a s (Rif c) e = absurd (cc)
exit_falls p a s Rst0 e = absurd (cc)
exit_falls p a s (In n) e = absurd (cc)
exit_falls p a s (Out n) e = absurd (cc)
exit_falls p a s i e = refl
