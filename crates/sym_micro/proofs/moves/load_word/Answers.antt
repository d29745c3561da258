use Rattle.sym_micro.specs.Stands.{machine_of}
use Rattle.sym_micro.proofs.Alike.{on_80, on_86, loads_word}
use Rattle.sym_micro.proofs.moves.load_word.Goals as goal

pub returns-clause-on_80 : goal.returns-clause-on_80
returns-clause-on_80 c = on_80 (loads_word (machine_of c.args.terms.now c.args.run.now) c.args.to c.args.at) c.perform.ensures.on_86

pub returns-clause-on_86 : goal.returns-clause-on_86
returns-clause-on_86 c = on_86 (loads_word (machine_of c.args.terms.now c.args.run.now) c.args.to c.args.at) c.perform.ensures.on_86
