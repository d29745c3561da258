use Rattle.sym_micro.specs.Stands.{machine_of}
use Rattle.sym_micro.proofs.Alike.{on_80, on_86, counts}
use Rattle.sym_micro.proofs.arithmetic.count_register.Goals as goal

pub returns-clause-on_80 : goal.returns-clause-on_80
returns-clause-on_80 c = on_80 (counts (machine_of c.args.terms.now c.args.run.now) c.args.op c.args.on) c.perform.ensures.on_86

pub returns-clause-on_86 : goal.returns-clause-on_86
returns-clause-on_86 c = on_86 (counts (machine_of c.args.terms.now c.args.run.now) c.args.op c.args.on) c.perform.ensures.on_86
