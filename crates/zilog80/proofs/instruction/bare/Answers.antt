use Rattle.zilog80.specs.Zilog.{bare}
use Rattle.zilog80.proofs.Reading.{no_bare}
use Rattle.zilog80.proofs.instruction.bare.Goals as goal

pub returns-in-Some : goal.returns-in-Some
returns-in-Some c = rw c.new.ensures.items (bare (rw c.as_slice.ensures.value at c.in-Some.ensures))

pub returns-in-None : goal.returns-in-None
returns-in-None c = no_bare c.args.word.now (rw c.as_slice.ensures.value at c.in-None.ensures)
