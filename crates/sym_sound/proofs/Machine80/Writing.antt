-- What holds of each register's term and cell holds after a write to a register.
use Rattle.cells.specs.declared.Cell.{Cell}
use Rattle.i80.specs.declared.Reg.{Reg}
use Rattle.i80.specs.declared.Reg.TheVariants.{A, B, C, D, E, H, L}
use Rattle.cpu80_tagged.specs.State.{Regs80, reg80, with_reg80}
use Rattle.sym_terms.specs.Term.{Term}
use Rattle.sym_block_def.specs.Outcome.{Held}
use Rattle.sym_block_def.specs.Block80.{reg_term, with_reg}

pub each_written : (P : Term → Cell → Type 0) (x : Held) (s : Regs80) (r : Reg) (t : Term) (c : Cell) → P t c → ((q : Reg) → P (reg_term x q) (reg80 s q)) → (q : Reg) → P (reg_term (with_reg x r t) q) (reg80 (with_reg80 s r c) q)
each_written P x s A t c v h A = v
each_written P x s A t c v h B = h B
each_written P x s A t c v h C = h C
each_written P x s A t c v h D = h D
each_written P x s A t c v h E = h E
each_written P x s A t c v h H = h H
each_written P x s A t c v h L = h L
each_written P x s B t c v h A = h A
each_written P x s B t c v h B = v
each_written P x s B t c v h C = h C
each_written P x s B t c v h D = h D
each_written P x s B t c v h E = h E
each_written P x s B t c v h H = h H
each_written P x s B t c v h L = h L
each_written P x s C t c v h A = h A
each_written P x s C t c v h B = h B
each_written P x s C t c v h C = v
each_written P x s C t c v h D = h D
each_written P x s C t c v h E = h E
each_written P x s C t c v h H = h H
each_written P x s C t c v h L = h L
each_written P x s D t c v h A = h A
each_written P x s D t c v h B = h B
each_written P x s D t c v h C = h C
each_written P x s D t c v h D = v
each_written P x s D t c v h E = h E
each_written P x s D t c v h H = h H
each_written P x s D t c v h L = h L
each_written P x s E t c v h A = h A
each_written P x s E t c v h B = h B
each_written P x s E t c v h C = h C
each_written P x s E t c v h D = h D
each_written P x s E t c v h E = v
each_written P x s E t c v h H = h H
each_written P x s E t c v h L = h L
each_written P x s H t c v h A = h A
each_written P x s H t c v h B = h B
each_written P x s H t c v h C = h C
each_written P x s H t c v h D = h D
each_written P x s H t c v h E = h E
each_written P x s H t c v h H = v
each_written P x s H t c v h L = h L
each_written P x s L t c v h A = h A
each_written P x s L t c v h B = h B
each_written P x s L t c v h C = h C
each_written P x s L t c v h D = h D
each_written P x s L t c v h E = h E
each_written P x s L t c v h H = h H
each_written P x s L t c v h L = v
