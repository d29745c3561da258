use Rattle.std.proofs.Common.{lit≤}
use Rattle.sym_micro.specs.Stands.{machine_of}
use Rattle.sym_micro.proofs.Alike.{all_on_80, all_on_86, adds_number}
use Rattle.sym_micro.proofs.arithmetic.add_number.Goals as goal

pub returns-clause-on_80 : goal.returns-clause-on_80
returns-clause-on_80 c = all_on_80 6 20 0 2 (lit≤ tt) (lit≤ tt) (adds_number (machine_of c.args.terms.now c.args.run.now) c.args.to c.args.n) c.perform_each.ensures

pub returns-clause-on_86 : goal.returns-clause-on_86
returns-clause-on_86 c = all_on_86 6 20 0 2 (lit≤ tt) (lit≤ tt) (adds_number (machine_of c.args.terms.now c.args.run.now) c.args.to c.args.n) c.perform_each.ensures
