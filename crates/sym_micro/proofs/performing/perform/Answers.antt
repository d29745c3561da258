use Rattle.std.proofs.Common.{◌≡◌, ap}
use Rattle.sym_micro.specs.Machine.{as80, as86, micros, weights, all_moves}
use Rattle.sym_micro.specs.Stands.{machine_of}
use Rattle.sym_micro.proofs.Ready.{goes_on_as}
use Rattle.sym_micro.proofs.performing.perform.Goals as goal

pub returns-clause-on_80 : goal.returns-clause-on_80
returns-clause-on_80 c =
    let m0 = machine_of c.args.terms.now c.args.run.now in
    let steps = c.args.steps.now in
    goes_on_as c.args.terms.now c.perform_each.new.terms c.args.run.now c.perform_each.new.run (weights steps) 24 (all_moves steps) 2
    (λ m. m ≡ micros m0 steps) (λ m. as80 m ≡ as80 (micros m0 steps))
    c.perform_each.result c.requires.light c.requires.few c.perform_each.ensures (λ m e. ap as80 e)

pub returns-clause-on_86 : goal.returns-clause-on_86
returns-clause-on_86 c =
    let m0 = machine_of c.args.terms.now c.args.run.now in
    let steps = c.args.steps.now in
    goes_on_as c.args.terms.now c.perform_each.new.terms c.args.run.now c.perform_each.new.run (weights steps) 24 (all_moves steps) 2
    (λ m. m ≡ micros m0 steps) (λ m. as86 m ≡ as86 (micros m0 steps))
    c.perform_each.result c.requires.light c.requires.few c.perform_each.ensures (λ m e. ap as86 e)
