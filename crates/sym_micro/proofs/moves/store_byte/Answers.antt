use Rattle.sym_micro.specs.Stands.{machine_of}
use Rattle.sym_micro.proofs.Alike.{on_80, on_86, stores_byte}
use Rattle.sym_micro.proofs.moves.store_byte.Goals as goal

pub returns-clause-on_80 : goal.returns-clause-on_80
returns-clause-on_80 c = on_80 (stores_byte (machine_of c.args.terms.now c.args.run.now) c.args.at c.args.from) c.perform.ensures.on_86

pub returns-clause-on_86 : goal.returns-clause-on_86
returns-clause-on_86 c = on_86 (stores_byte (machine_of c.args.terms.now c.args.run.now) c.args.at c.args.from) c.perform.ensures.on_86
