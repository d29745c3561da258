-- The flag of a condition, by its id; and where an instruction goes, or goes if its condition holds.
use Rattle.std.specs.Prelude.{ℕ}
use Rattle.cells.specs.declared.Cond.{Cond}
use Rattle.cells.specs.declared.Cond.TheVariants.{Nz, Z, Nc, C as Carry, Po, Pe, P as Plus, M as Minus}
use Rattle.i80.specs.declared.Instr80.{Instr80}
use Rattle.asm80_types.specs.Program.{Program}
use Rattle.sym_block_def.specs.Outcome.{Way, ByTerms, Boot, In, Out}
use Rattle.sym_block_def.specs.Block80.{Symbolic80, goto, jump, call, return_by, asking}
use Rattle.sym_terms.specs.declared.head.Term.{Term as TermId}
use Rattle.sym_micro.specs.declared.outcome.Held.{Held as HeldIds}

abbrev pub flag_id : HeldIds → Cond → TermId
flag_id x Nz = x.z
flag_id x Z = x.z
flag_id x Nc = x.cy
flag_id x Carry = x.cy
flag_id x Po = x.p
flag_id x Pe = x.p
flag_id x Plus = x.s
flag_id x Minus = x.s

abbrev pub taken80 : Program → ℕ → Symbolic80 → Instr80 → Way
taken80 p next s Instr80.Pchl = ByTerms s.held.h s.held.l
taken80 p next s (Instr80.Jmp goal) = jump p goal
taken80 p next s (Instr80.Jif cond goal) = jump p goal
taken80 p next s (Instr80.Call goal) = call p next goal
taken80 p next s (Instr80.Cif cond goal) = call p next goal
taken80 p next s Instr80.Ret = return_by s
taken80 p next s (Instr80.Rif cond) = return_by s
taken80 p next s Instr80.Rst0 = Boot
taken80 p next s (Instr80.In port) = asking p next (In port)
taken80 p next s (Instr80.Out port) = asking p next (Out port)
taken80 p next s i = goto p next
