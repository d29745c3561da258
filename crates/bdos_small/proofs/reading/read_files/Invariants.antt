use Rattle.bdos_small.proofs.Steps.{StillReading}
use Rattle.bdos_small.proofs.reading.read_files.Given as goal

abbrev pub invariant-loop-index : goal.invariant-loop-index
invariant-loop-index l = StillReading l.count l.bytes l.files.items l.last l.room l.at l.index
