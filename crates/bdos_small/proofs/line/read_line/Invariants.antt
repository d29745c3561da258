use Rattle.bdos_small.proofs.Lines.{Stands}
use Rattle.bdos_small.proofs.line.read_line.Given as goal

abbrev pub invariant-loop-used : goal.invariant-loop-used
invariant-loop-used l = Stands l.room l.input l.bytes.items l.used
