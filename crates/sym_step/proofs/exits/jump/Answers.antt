use Rattle.std.proofs.Common.{subst, sym}
use Rattle.i80.specs.declared.Goal.{Goal}
use Rattle.sym_block_def.specs.Block80.{jump}
use Rattle.sym_micro.specs.Exits.{WayIs}
use Rattle.sym_step.proofs.exits.jump.Goals as goal

pub returns-in-At : goal.returns-in-At
returns-in-At c = λ pool. subst (λ (t : Goal). WayIs pool (jump c.args.program.now t) c.goto.result) (sym c.in-At.is) (c.goto.ensures pool)
