-- What holds of each byte register's term and number after a write to a register.
use Rattle.std.proofs.Common.{ℕ}
use Rattle.i86.specs.declared.Reg8.{Reg8}
use Rattle.i86.specs.declared.Reg8.TheVariants.{Al, Cl, Dl, Bl, Ah, Ch, Dh, Bh}
use Rattle.cpu86.specs.State.{Regs86, reg8, with8}
use Rattle.sym_terms.specs.Term.{Term}
use Rattle.sym_block_def.specs.Symbolic86.{Symbolic86, reg8_term, with_reg8}

pub each_written : (P : Term → ℕ → Type 0) (x : Symbolic86) (s : Regs86) (r : Reg8) (t : Term) (n : ℕ) → P t n → ((q : Reg8) → P (reg8_term x q) (reg8 s q)) → (q : Reg8) → P (reg8_term (with_reg8 x r t) q) (reg8 (with8 s r n) q)
each_written P x s Al t n v h Al = v
each_written P x s Al t n v h Cl = h Cl
each_written P x s Al t n v h Dl = h Dl
each_written P x s Al t n v h Bl = h Bl
each_written P x s Al t n v h Ah = h Ah
each_written P x s Al t n v h Ch = h Ch
each_written P x s Al t n v h Dh = h Dh
each_written P x s Al t n v h Bh = h Bh
each_written P x s Cl t n v h Al = h Al
each_written P x s Cl t n v h Cl = v
each_written P x s Cl t n v h Dl = h Dl
each_written P x s Cl t n v h Bl = h Bl
each_written P x s Cl t n v h Ah = h Ah
each_written P x s Cl t n v h Ch = h Ch
each_written P x s Cl t n v h Dh = h Dh
each_written P x s Cl t n v h Bh = h Bh
each_written P x s Dl t n v h Al = h Al
each_written P x s Dl t n v h Cl = h Cl
each_written P x s Dl t n v h Dl = v
each_written P x s Dl t n v h Bl = h Bl
each_written P x s Dl t n v h Ah = h Ah
each_written P x s Dl t n v h Ch = h Ch
each_written P x s Dl t n v h Dh = h Dh
each_written P x s Dl t n v h Bh = h Bh
each_written P x s Bl t n v h Al = h Al
each_written P x s Bl t n v h Cl = h Cl
each_written P x s Bl t n v h Dl = h Dl
each_written P x s Bl t n v h Bl = v
each_written P x s Bl t n v h Ah = h Ah
each_written P x s Bl t n v h Ch = h Ch
each_written P x s Bl t n v h Dh = h Dh
each_written P x s Bl t n v h Bh = h Bh
each_written P x s Ah t n v h Al = h Al
each_written P x s Ah t n v h Cl = h Cl
each_written P x s Ah t n v h Dl = h Dl
each_written P x s Ah t n v h Bl = h Bl
each_written P x s Ah t n v h Ah = v
each_written P x s Ah t n v h Ch = h Ch
each_written P x s Ah t n v h Dh = h Dh
each_written P x s Ah t n v h Bh = h Bh
each_written P x s Ch t n v h Al = h Al
each_written P x s Ch t n v h Cl = h Cl
each_written P x s Ch t n v h Dl = h Dl
each_written P x s Ch t n v h Bl = h Bl
each_written P x s Ch t n v h Ah = h Ah
each_written P x s Ch t n v h Ch = v
each_written P x s Ch t n v h Dh = h Dh
each_written P x s Ch t n v h Bh = h Bh
each_written P x s Dh t n v h Al = h Al
each_written P x s Dh t n v h Cl = h Cl
each_written P x s Dh t n v h Dl = h Dl
each_written P x s Dh t n v h Bl = h Bl
each_written P x s Dh t n v h Ah = h Ah
each_written P x s Dh t n v h Ch = h Ch
each_written P x s Dh t n v h Dh = v
each_written P x s Dh t n v h Bh = h Bh
each_written P x s Bh t n v h Al = h Al
each_written P x s Bh t n v h Cl = h Cl
each_written P x s Bh t n v h Dl = h Dl
each_written P x s Bh t n v h Bl = h Bl
each_written P x s Bh t n v h Ah = h Ah
each_written P x s Bh t n v h Ch = h Ch
each_written P x s Bh t n v h Dh = h Dh
each_written P x s Bh t n v h Bh = v
