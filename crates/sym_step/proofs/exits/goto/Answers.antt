use Rattle.std.proofs.Common.{refl}
use Rattle.cells.specs.declared.Place.TheVariants.{At}
use Rattle.sym_block_def.specs.Outcome.{Goto}
use Rattle.sym_step.proofs.exits.goto.Goals as goal

pub returns : goal.returns
returns c = λ pool. c.if_starts.ensures pool (Goto (At c.args.a)) (record { given = tt; is = refl })
