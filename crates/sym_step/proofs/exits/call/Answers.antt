use Rattle.std.proofs.Common.{refl, subst, sym}
use Rattle.cells.specs.declared.Place.TheVariants.{At}
use Rattle.i80.specs.declared.Goal.{Goal}
use Rattle.sym_block_def.specs.Outcome.{Call}
use Rattle.sym_block_def.specs.Block80.{call}
use Rattle.sym_micro.specs.Exits.{WayIs}
use Rattle.sym_step.proofs.exits.call.Goals as goal

pub returns-in-At : goal.returns-in-At
returns-in-At c = λ pool.
    subst (λ (t : Goal). WayIs pool (call c.args.program.now c.args.next t) c.if_starts.result) (sym c.in-At.is)
    (c.if_starts.ensures pool (Call (At c.in-At.target) (At c.args.next)) (record { given = tt; is = refl }))
